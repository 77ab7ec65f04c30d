-- What the one finger did and what the app made of its touch, whose rows stand among one another: their places, what is read
-- there, and what is looked at.
use Rattle.std.specs.Prelude.{ℕ, ◌+◌, Bool, List, Option, Some, None}
use Rattle.panel.specs.Tests.{when◌then◌else◌, ◌and◌, ◌=?◌, ◌≤?◌}
use Rattle.panel.specs.declared.axes.Axis.TheVariants.{H, «V»}
use Rattle.fingers.specs.declared.one.One.{One}
use Rattle.fingers.specs.declared.one.App.{App}
use Rattle.image.specs.code.Numbers.{number_at, point_at, flag_at, is_flag}
use Rattle.image.specs.code.Touches.{touch_end}
use Rattle.panel.specs.declared.axes.Axis.{Axis}

abbrev pub at_last : ℕ
at_last = touch_end

abbrev pub at_moved : ℕ
at_moved = at_last + 4

abbrev pub at_far : ℕ
at_far = at_moved + 1

abbrev pub at_long_sent : ℕ
at_long_sent = at_far + 2

abbrev pub at_axis : ℕ
at_axis = at_long_sent + 1

abbrev pub at_grabbed : ℕ
at_grabbed = at_axis + 1

abbrev pub at_direct : ℕ
at_direct = at_grabbed + 1

abbrev pub at_early : ℕ
at_early = at_direct + 1

abbrev pub at_captured : ℕ
at_captured = at_early + 1

abbrev pub at_raw : ℕ
at_raw = at_captured + 1

abbrev pub finger_end : ℕ
finger_end = at_raw + 1

-- What is read there.

unfoldable pub lock_from : ℕ → Option Axis
lock_from n = when n =? 0 then None else when n =? 1 then Some H else Some «V»

unfoldable pub one_at : List ℕ → One
one_at area =
    record {
      last = point_at area at_last;
      moved = flag_at area at_moved;
      far = number_at area at_far 2;
      long_sent = flag_at area at_long_sent;
      axis = lock_from (number_at area at_axis 1);
      grabbed = flag_at area at_grabbed;
      early = flag_at area at_early;
    }

unfoldable pub app_at : List ℕ → App
app_at area = record { captured = flag_at area at_captured; raw = flag_at area at_raw; direct = flag_at area at_direct }

-- What is looked at.

unfoldable pub one_checked : List ℕ → Bool
one_checked area =
    is_flag area at_moved and is_flag area at_long_sent and (number_at area at_axis 1 ≤? 2) and is_flag area at_grabbed
    and is_flag area at_early

unfoldable pub app_checked : List ℕ → Bool
app_checked area = is_flag area at_direct and is_flag area at_captured and is_flag area at_raw
