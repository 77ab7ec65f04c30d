-- How the code goes about it. No rule of a document is here, and a reader need not believe a line of it: a contract that
-- cites these is one of a function that other crates cannot call, and proofs/Grouping.antt has that reading by `Groups`
-- ends where specs/Numbers.antt says.
pub mod Groups
