-- How the code goes about it. No rule of a document is here, and a reader need not believe these: proofs/Rule.antt has that
-- the parts together are the state rule, proofs/Table.antt that the codes lead to the log's table.
pub mod Parts
pub mod Codes
