-- `lock_axis`.
--
-- "Axis .. H if 2|dx| >= 3|dy|; V if 2|dy| >= 3|dx|; else, over 30, the larger, a tie H." "`lock_axis` is WIDE past
-- ±715,827,882 in either part".
use Rattle.std.specs.Prelude.{ℕ, ◌*◌, max, ℤ, nat_abs, Option, Some, None, Result, Ok, Err}
use Rattle.panel.specs.Refusals.{Told, answered, refused}
use Rattle.panel.specs.Sizes.{lock_max, lock_wide}
use Rattle.panel.specs.Tests.{when◌then◌else◌, ◌and◌, ◌≤?◌, ◌<?◌}
use Rattle.panel.specs.declared.axes.Axis.{Axis}
use Rattle.panel.specs.declared.axes.Axis.TheVariants.{H, «V»}
use Rattle.panel.specs.declared.refusals.Refusal.TheVariants.{Wide}
use Rattle.panel.specs.declared.refusals.Refusal.{Refusal}

-- of a drag by ax along x and ay along y, whichever way
unfoldable pub axis_of : ℕ → ℕ → Option Axis
axis_of ax ay =
    when 3 * ay ≤? 2 * ax then Some H
    else when 3 * ax ≤? 2 * ay then Some «V»
    else when lock_max <? max ax ay then (when ay ≤? ax then Some H else Some «V»)
    else None

unfoldable pub lock_of : ℤ → ℤ → Result (Option Axis) Refusal
lock_of dx dy =
    when (nat_abs dx ≤? lock_wide) and (nat_abs dy ≤? lock_wide) then Ok (axis_of (nat_abs dx) (nat_abs dy))
    else Err Wide

abbrev pub told_lock : Result (Option Axis) Refusal → Told (Option Axis)
told_lock (Ok a) = answered a
told_lock (Err r) = refused r None

-- an axis as a number: "0 H, 1 V"
unfoldable pub axis_number : Axis → ℕ
axis_number H = 0
axis_number «V» = 1
