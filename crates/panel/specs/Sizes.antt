-- The numbers of document 01 that the geometry turns on, each written here and nowhere else.
use Rattle.std.specs.Prelude.{ℕ}

-- "x 0..479, y 0..319"
abbrev pub width : ℕ
width = 480

abbrev pub height : ℕ
height = 320

-- "`MAX_POINTS` (5)"
abbrev pub max_points : ℕ
max_points = 5

-- "else, over 30, the larger"
abbrev pub lock_max : ℕ
lock_max = 30

-- "`lock_axis` is WIDE past ±715,827,882 in either part"
abbrev pub lock_wide : ℕ
lock_wide = 715_827_882
