-- What the crates above may cite: `Bytes` and `KeyMasks`, what the lowest key of a mask is and what the masks hold key by
-- key; `Kept`, what the rules keep; `Promises`, that each contract leaves one answer; `GestureTable`, the table of gestures
-- word by word.
pub mod Bytes
pub mod KeyMasks
pub mod Kept
pub mod Promises
pub mod GestureTable
