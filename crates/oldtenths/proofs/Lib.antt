-- What another crate may cite: `Laws`, the old tenths beside those of request [6]; `Means`, what `resid` tells by both;
-- `Promises`; `Cases`.
pub mod Laws
pub mod Means
pub mod Promises
pub mod Cases
