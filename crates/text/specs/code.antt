-- How the code goes about it. No rule of a document is here, and a reader need not believe a line of it: a contract that
-- cites these is one of a function that other crates cannot call. proofs/Runs.antt has that what is `Written` in the end is
-- the text of specs/Played.antt.
pub mod Written
