-- How the code goes about it. No rule of a document is here, and a reader need not believe any of it: that it ends where the
-- rules say is proved, of `Checked` in proofs/Chains.antt, Slight.antt and Bounds.antt, of `Arrays` in proofs/Holding.antt.
pub mod Checked
pub mod Arrays
