-- What the crates above may cite: `Promises`, the text in numbers. `Cases` has the text of document 01's trace. The others
-- serve this crate's own proofs.
pub mod Promises
mod Cases
mod Digits
mod Writing
mod Gestured
mod Lined
mod Runs
