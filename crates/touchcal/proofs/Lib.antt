-- What the crates above may cite: `Promises`, what each public call tells; `RoundTrip`, from_f32 after to_f32; `Reach`, six coefficients at
-- once; `Fitted`, `fit` case by case and where its numbers come from; `Nones`, where it is FEW, LINE and STEEP; `Rules`, `fit` by another rule of tenths; `Before`, that no tap is
-- WIDE without a calibration; `Firsts`, arrays by value and lent lists; `Cases`. The other modules serve this crate's own proofs.
pub mod Promises
pub mod RoundTrip
pub mod Reach
pub mod Fitted
pub mod Nones
pub mod Rules
pub mod Before
pub mod Firsts
pub mod Cases
mod Cuts
mod Wholes
mod Fractions
mod Choices
