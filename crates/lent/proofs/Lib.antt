-- What the crates above may cite: `Promises`, what each call tells and leaves. The proofs of the functions need no file.
pub mod Promises
