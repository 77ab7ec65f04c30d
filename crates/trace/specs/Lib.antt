-- What a reader must believe about the trace, in document 01's order; its numbers are the crate numbers'. `code` is the
-- code's own and holds no rule.
pub mod Sizes
pub mod Calls
pub mod Records
pub mod Traces
pub mod Normal
pub mod code
