-- How the code goes about it. No rule of a document is here, and a reader need not believe any of it: that it ends where the
-- rules say is proved in proofs/Firsts.antt.
pub mod Arrays
