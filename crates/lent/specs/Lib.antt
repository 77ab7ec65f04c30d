-- What a reader must believe about the lent tracker; what each call answers is the crate gesture's.
pub mod Lent
pub mod Runs
