-- What the crates above may cite: `RoundTrip`, that a written trace is read back, `Again`, that what is read is written
-- again, and `Promises`, the calls in numbers. `Cases` reads document 01's trace. The others serve this crate's own proofs.
pub mod RoundTrip
pub mod Again
pub mod Promises
pub mod Cases
mod Unknown
mod PointsIn
mod Gathered
