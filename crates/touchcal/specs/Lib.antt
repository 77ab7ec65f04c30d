-- What a reader must believe about the float half of the calibration, each after what it is made of. All but
-- `code`, which holds no rule.
pub mod Binary32
pub mod Sizes
pub mod Floats
pub mod Scpi
pub mod Moments
pub mod Solutions
pub mod Fits
pub mod Nones
pub mod code
