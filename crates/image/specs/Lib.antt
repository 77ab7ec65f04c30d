-- What a reader must believe about the byte image: the rows, what decoding and storing come to, the numbers of an answer, the
-- calls on an area, and what the types give (Typed). `code` says how the code goes about it and holds no rule.
pub mod Rows
pub mod Image
pub mod Typed
pub mod Codec
pub mod Numbers
pub mod Calls
pub mod code
