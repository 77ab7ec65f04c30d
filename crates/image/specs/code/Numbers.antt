-- Numbers, points and flags as they are read from an area, and what is looked at to tell an image: a number of few values has
-- one of them, and a part that is absent is zero, eight bytes at a time.
use Rattle.std.specs.Prelude.{ℕ, zero, suc, ◌+◌, ◌*◌, Bool, true, false, List, get_or}
use Rattle.panel.specs.Tests.{when◌then◌else◌, ◌=?◌, ◌≤?◌}
use Rattle.panel.specs.declared.points.Point.{Point}

-- the number in so many bytes from a place on, low byte first
unfoldable pub number_at : List ℕ → ℕ → ℕ → ℕ
number_at area at zero = 0
number_at area at (suc width) = get_or area at 0 + 256 * number_at area (suc at) width

abbrev pub point_at : List ℕ → ℕ → Point
point_at area at = record { x = number_at area at 2; y = number_at area (at + 2) 2 }

unfoldable pub flag_from : ℕ → Bool
flag_from n = when n =? 0 then false else true

abbrev pub flag_at : List ℕ → ℕ → Bool
flag_at area at = flag_from (number_at area at 1)

unfoldable pub is_zero : List ℕ → ℕ → ℕ → Bool
is_zero area at width = number_at area at width =? 0

unfoldable pub is_flag : List ℕ → ℕ → Bool
is_flag area at = number_at area at 1 ≤? 1
