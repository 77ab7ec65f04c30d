-- What a reader must believe about numbers as bytes: their groups, and what reading and writing them come to. `code` is the
-- code's own and holds no rule.
pub mod Sizes
pub mod Numbers
pub mod Writing
pub mod code
