-- How the code goes about it. No rule of a document is here, and a reader need not believe these: they are tied to the table
-- of Image and to `Decodes` of Codec by proof. Numbers and Puts have a number read from bytes and a table written; each part
-- of the tracker has its places, what is read there and what is looked at, and Whole puts the parts together. proofs/Back.antt
-- has that reading an image gives its tracker, proofs/Exactly.antt that what passes the looking is an image.
pub mod Numbers
pub mod Puts
pub mod Touches
pub mod Finger
pub mod Ended
pub mod Keys
pub mod Settings
pub mod Whole
pub mod Finding
