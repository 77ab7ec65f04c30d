-- What the crates above may cite: `Laid`, how long an image is; `Codecs`, when decoding answers; `Promises`, what the calls
-- promise. The other modules serve this crate's own proofs: numbers in bytes, flags, tables laid out and read back, the parts
-- of a tracker (the settings' laws together in one file), parts that are absent, what tells an image, the
-- numbers of a gesture, an area asked for an array, and a call.
mod Bytes
mod Shifts
mod Layouts
mod Flags
mod SettingLaws
mod Written
mod Absent
pub mod Laid
pub mod Codecs
mod Exactly
mod Found
mod Back
mod Coding
mod Making
pub mod Promises
