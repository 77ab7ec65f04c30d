-- What a reader must believe about the history of touches: runs of calls, what an observer of calls and answers knows, and
-- the demand.
pub mod Runs
pub mod Gestures
pub mod Keys
pub mod Touches
pub mod Demand
pub mod Spent
pub mod Places
pub mod Orders
