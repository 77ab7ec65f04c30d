-- The thresholds of document 01 that the tracker turns on, each written here and nowhere else: pixels and milliseconds.
use Rattle.std.specs.Prelude.{ℕ}

-- "moved once over 15"
abbrev pub slop : ℕ
slop = 15

-- "early once over 8"
abbrev pub grab_slop : ℕ
grab_slop = 8

-- "Tap(start) if far <= 30"
abbrev pub tap_slop : ℕ
tap_slop = 30

-- "Within 800 ms with |dx| or |dy| >= 60"
abbrev pub swipe_max : ℕ
swipe_max = 800

abbrev pub swipe_min : ℕ
swipe_min = 60

-- "from 700 ms (1200 whenever the grab time is not 0, direct or not)"
abbrev pub long_time : ℕ
long_time = 700

abbrev pub long_hold : ℕ
long_hold = 1200

-- "grab at most 5000"
abbrev pub grab_most : ℕ
grab_most = 5000

-- "under 300 ms since"
abbrev pub lift_gap : ℕ
lift_gap = 300

-- "span change >= 20", "centroid 30 down"
abbrev pub pinch_min : ℕ
pinch_min = 20

abbrev pub pinch_swipe : ℕ
pinch_swipe = 30

-- "spans within 1..999"
abbrev pub span_least : ℕ
span_least = 1

abbrev pub span_most : ℕ
span_most = 999

-- "most fingers 2..5": the fewest that are several; the most are the panel's
abbrev pub fewest : ℕ
fewest = 2

-- "dy at least 60 (n 2) or 30 (n 3)", "at most 2000 ms"
abbrev pub multi_min2 : ℕ
multi_min2 = 60

abbrev pub multi_min3 : ℕ
multi_min3 = 30

abbrev pub multi_max : ℕ
multi_max = 2000
