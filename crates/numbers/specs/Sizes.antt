-- The sizes of a number as bytes, each written here and nowhere else.
use Rattle.std.specs.Prelude.{ℕ}

-- "seven-bit groups": a byte below this is a last group, and one from it on has the high bit
abbrev pub group : ℕ
group = 128

-- "Ten groups without a last"
abbrev pub most_groups : ℕ
most_groups = 10

-- "the rest to u64"
abbrev pub most64 : ℕ
most64 = 18_446_744_073_709_551_615
