-- What the crates above may cite: `Promises`, reading and writing in the documents' numbers; `Back`, that a number written is
-- read back, and `Taken`, that a number read is written again byte for byte; and the laws of bytes in `Bytes`, of groups in
-- `Grouping`. `Rooms` serves this crate's own proofs.
pub mod Promises
pub mod Back
pub mod Taken
pub mod Bytes
pub mod Grouping
mod Rooms
