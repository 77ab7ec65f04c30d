-- What a reader must believe about the text of a played trace: words and lines, the words of each gesture, the lines of
-- the calls, and what is left in the room lent for it. `code` is the code's own and holds no rule.
pub mod Sizes
pub mod Words
pub mod Gestures
pub mod Texts
pub mod Played
pub mod code
