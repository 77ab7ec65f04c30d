-- What the crates above may cite: `Keeps`, that every call keeps the state rule, and `Promises`, what each call tells. The
-- other modules serve this crate's own proofs.
pub mod Keeps
pub mod Promises
mod Rule
mod Facts
mod Steps
mod Table
mod Logged
mod Counted
