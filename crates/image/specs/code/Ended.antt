-- The stored end of several fingers: its places, what is read there, and what is looked at.
use Rattle.std.specs.Prelude.{ℕ, ◌+◌, Bool, List, Option, Some, None}
use Rattle.panel.specs.Tests.{when◌then◌else◌, ◌=?◌}
use Rattle.image.specs.code.Numbers.{number_at, is_zero}
use Rattle.image.specs.code.Finger.{finger_end}

abbrev pub at_ended : ℕ
at_ended = finger_end

abbrev pub at_end_time : ℕ
at_end_time = at_ended + 1

abbrev pub ended_end : ℕ
ended_end = at_end_time + 8

unfoldable pub end_from : ℕ → ℕ → Option ℕ
end_from n time = when n =? 0 then None else Some time

abbrev pub end_at : List ℕ → Option ℕ
end_at area = end_from (number_at area at_ended 1) (number_at area at_end_time 8)

unfoldable pub end_checked : List ℕ → Bool
end_checked area = when number_at area at_ended 1 =? 0 then is_zero area at_end_time 8 else number_at area at_ended 1 =? 1
