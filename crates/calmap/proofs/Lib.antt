-- What the crates above may cite: `Laws`; `Bounds`; `Firsts` and `Holding`, how `resid` and `check` of an array by value and of
-- what is held of a lent list are those of the list; `Tallying`, the sums over taps as they stand after some; `Promises`. The other modules serve this crate's own proofs.
pub mod Laws
pub mod Bounds
pub mod Firsts
pub mod Holding
pub mod Promises
pub mod Tallying
mod Signed
mod Chains
mod Slight
mod Floors
mod Rooted
mod Digits
mod Telling
mod Walking
mod Judging
mod Cases
