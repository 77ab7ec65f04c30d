-- What a reader must believe about the fingers and keys, in document 01's order.
pub mod Gestures
pub mod Thresholds
pub mod Notes
pub mod Settings
pub mod Keys
pub mod Fields
pub mod Holds
pub mod OneFinger
pub mod Releases
pub mod Pairs
pub mod Several
