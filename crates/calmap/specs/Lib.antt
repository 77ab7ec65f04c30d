-- What a reader must believe about the integer half of the calibration, in document 01's order. All but `code`, which holds
-- no rule.
pub mod Sizes
pub mod Wide
pub mod Units
pub mod Maps
pub mod Screening
pub mod Roots
pub mod Distances
pub mod Resids
pub mod Checks
pub mod code
