-- What the crates above may cite: `Promises`, what the calls promise.
mod Telling
pub mod Promises
