-- How long lines get, each length written here and nowhere else.
use Rattle.std.specs.Prelude.{ℕ}

-- no u64 has more digits
abbrev pub most_digits : ℕ
most_digits = 20

-- all numbers but the place where a trace stops are below this and so have at most five digits: a trace of 65,536 bytes
-- has fewer records, and a coordinate or a span is a u16
abbrev pub small_end : ℕ
small_end = 100_000

abbrev pub small_digits : ℕ
small_digits = 5

-- the longest name is MultiSwipeDown, the longest with a point LongPress
abbrev pub name_most : ℕ
name_most = 14

abbrev pub point_name_most : ℕ
point_name_most = 9

-- the longest words of a gesture: Drag, four coordinates of five digits, and the axis, with a space before each
abbrev pub words_most : ℕ
words_most = 31

-- the longest line: those after a record number, and the line's end
abbrev pub line_most : ℕ
line_most = 37
