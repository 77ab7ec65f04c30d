-- How the code goes about it. No rule of a document is here, and a reader need not believe a line of it: a contract that
-- cites these is one of a function that other crates cannot call. proofs/PointsIn.antt has that a report read by `Points`
-- is the one of specs/Records.antt, and proofs/Gathered.antt that the numbers gathered are those of specs/Calls.antt.
pub mod Sizes
pub mod Points
