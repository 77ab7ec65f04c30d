-- What the crates above may cite: `Follow`, to follow a definition by its tests, the laws of the
-- measures in `Laws`, those of the finger count in `Counts`, and signed numbers at twice their width in `Squares`.
-- The other modules serve this crate's own proofs.
pub mod Counts
pub mod Follow
pub mod Laws
pub mod Promises
pub mod Squares
mod Loops
