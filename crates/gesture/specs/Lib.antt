-- What a reader must believe about the tracker, in document 01's order; the rules of fingers and keys are the crate
-- fingers'. `code` says how the code goes about it and holds no rule.
pub mod Trackers
pub mod States
pub mod Reports
pub mod Ticks
pub mod Letters
pub mod Lines
pub mod Captures
pub mod Answers
pub mod Calls
pub mod Runs
pub mod code
