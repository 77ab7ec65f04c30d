-- The touch: where its rows stand, each after the rows before it (the code has the same names), what is read there, and what is
-- looked at.
use Rattle.std.specs.Prelude.{ℕ, ◌+◌, Bool, true, false, List, Option, Some, None}
use Rattle.panel.specs.Tests.{when◌then◌else◌, ◌and◌, ◌=?◌, ◌≤?◌}
use Rattle.panel.specs.declared.points.Point.{Point}
use Rattle.panel.specs.declared.axes.Axis.{Axis}
use Rattle.panel.specs.declared.axes.Axis.TheVariants.{H, «V»}
use Rattle.fingers.specs.declared.several.Multi.{Multi}
use Rattle.fingers.specs.declared.pair.Pair.{Pair}
use Rattle.gesture.specs.declared.record.Touch.{Touch}
use Rattle.gesture.specs.declared.record.Touch.TheVariants as touch
use Rattle.image.specs.code.Numbers.{number_at, point_at, is_zero, is_flag}

abbrev pub at_touch : ℕ
at_touch = 0

abbrev pub at_start : ℕ
at_start = at_touch + 1

abbrev pub at_since : ℕ
at_since = at_start + 4

abbrev pub at_multi_n : ℕ
at_multi_n = at_since + 8

abbrev pub at_multi_c0 : ℕ
at_multi_c0 = at_multi_n + 1

abbrev pub at_multi_t0 : ℕ
at_multi_t0 = at_multi_c0 + 4

abbrev pub at_multi_c1 : ℕ
at_multi_c1 = at_multi_t0 + 8

abbrev pub at_multi_t1 : ℕ
at_multi_t1 = at_multi_c1 + 4

abbrev pub at_pairs : ℕ
at_pairs = at_multi_t1 + 8

abbrev pub at_pair_a : ℕ
at_pair_a = at_pairs + 1

abbrev pub at_pair_b : ℕ
at_pair_b = at_pair_a + 4

abbrev pub at_pair_axis : ℕ
at_pair_axis = at_pair_b + 4

abbrev pub at_span0 : ℕ
at_span0 = at_pair_axis + 1

abbrev pub at_pair_c0 : ℕ
at_pair_c0 = at_span0 + 2

abbrev pub at_pair_state : ℕ
at_pair_state = at_pair_c0 + 4

-- the first place after the touch
abbrev pub touch_end : ℕ
touch_end = at_pair_state + 1

-- What is read there.

unfoldable pub axis_from : ℕ → Axis
axis_from n = when n =? 0 then H else «V»

unfoldable pub pairing_from : ℕ → Pair → Option Pair
pairing_from n r = when n =? 0 then None else Some r

unfoldable pub touch_from : ℕ → Point → ℕ → Multi → Option Pair → Touch
touch_from n start since m pair =
    when n =? 0 then touch.Idle
    else when n =? 1 then touch.Down start since
    else when n =? 2 then touch.Multi m pair
    else touch.Residual

unfoldable pub multi_at : List ℕ → Multi
multi_at area =
    record {
      n = number_at area at_multi_n 1;
      c0 = point_at area at_multi_c0;
      t0 = number_at area at_multi_t0 8;
      c1 = point_at area at_multi_c1;
      t1 = number_at area at_multi_t1 8;
    }

unfoldable pub pair_at : List ℕ → Pair
pair_at area =
    record {
      a = point_at area at_pair_a;
      b = point_at area at_pair_b;
      axis = axis_from (number_at area at_pair_axis 1);
      span0 = number_at area at_span0 2;
      c0 = point_at area at_pair_c0;
      state = number_at area at_pair_state 1;
    }

unfoldable pub touch_at : List ℕ → Touch
touch_at area =
    touch_from (number_at area at_touch 1) (point_at area at_start) (number_at area at_since 8) (multi_at area) (pairing_from (number_at area at_pairs 1) (pair_at area))

-- What is looked at.

unfoldable pub no_down : List ℕ → Bool
no_down area = is_zero area at_start 4 and is_zero area at_since 8

-- up to the mark that there is a pair
unfoldable pub no_multi : List ℕ → Bool
no_multi area = is_zero area at_multi_n 8 and is_zero area (at_multi_n + 8) 8 and is_zero area (at_multi_n + 16) 8 and is_zero area (at_multi_n + 24) 2

unfoldable pub no_pair : List ℕ → Bool
no_pair area = is_zero area at_pair_a 8 and is_zero area at_pair_axis 8

unfoldable pub pairing_checked : List ℕ → Bool
pairing_checked area =
    when number_at area at_pairs 1 =? 0 then no_pair area
    else when number_at area at_pairs 1 =? 1 then is_flag area at_pair_axis
    else false

-- a touch of that number, which is none of several fingers
unfoldable pub single_checked : List ℕ → ℕ → Bool
single_checked area n = no_multi area and no_pair area and (when n =? 1 then true else no_down area)

unfoldable pub touch_checked : List ℕ → Bool
touch_checked area =
    when number_at area at_touch 1 =? 2 then (no_down area and pairing_checked area)
    else when number_at area at_touch 1 ≤? 3 then single_checked area (number_at area at_touch 1)
    else false
