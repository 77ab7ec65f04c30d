-- `check`.
--
-- "`check`: a, b, d, e deltas within ±9830, else Scale; then each target's shift at most 640 sixteenths each way, else
-- Shift. A sum past i32 there is Shift; the most negative i32 in those four is Scale." "LONG: over 64 targets; TARGET: a
-- target off the panel". Order: "LONG, TARGET, then the verdict in `check`".
use Rattle.std.specs.Prelude.{ℕ, Bool, true, false, List, [], ◌∷◌, pos, length, take, Result, Ok, Err}
use Rattle.panel.specs.Points.{all_on_panel}
use Rattle.panel.specs.Refusals.{Told, answered, refused}
use Rattle.panel.specs.Tests.{when◌then◌else◌, ◌and◌, ◌<?◌}
use Rattle.panel.specs.declared.points.Point.{Point}
use Rattle.panel.specs.declared.refusals.Refusal.TheVariants.{Long, Target}
use Rattle.calmap.specs.Maps.{apply_of}
use Rattle.calmap.specs.Sizes.{longest, scale_limit, shift_limit}
use Rattle.calmap.specs.Units.{steps_within, in_sixteenths, ◌⊟◌, sixteenths_within}
use Rattle.calmap.specs.declared.limits.Verdict.{Verdict}
use Rattle.calmap.specs.declared.limits.Verdict.TheVariants.{Pass, Scale, Shift}
use Rattle.calmap.specs.declared.units.Cal.{Cal}
use Rattle.calmap.specs.declared.units.Q16.{Q16}
use Rattle.calmap.specs.declared.units.Sixteenths.{Sixteenths}
use Rattle.panel.specs.declared.refusals.Refusal.{Refusal}
use Rattle.calmap.specs.declared.mapping.Spot.{Spot}

unfoldable pub mild : Q16 → Bool
mild q = steps_within scale_limit q

-- a, b, d and e: the scales and the cross terms
unfoldable pub scale_holds : Cal → Bool
scale_holds c = mild c.c0 and mild c.c1 and mild c.c3 and mild c.c4

-- a coordinate in whole pixels, and where it is moved to
unfoldable pub near : Sixteenths → ℕ → Bool
near s v = sixteenths_within shift_limit (s ⊟ in_sixteenths (pos v))

-- a sum past i32 is too far as well
abbrev pub lands : Result Spot Refusal → Point → Bool
lands (Ok s) p = near s.0 p.x and near s.1 p.y
lands (Err r) p = false

unfoldable pub stays : Cal → Point → Bool
stays c p = lands (apply_of c (pos p.x) (pos p.y)) p

unfoldable pub all_stay : Cal → List Point → Bool
all_stay c [] = true
all_stay c (p ∷ ps) = stays c p and all_stay c ps

unfoldable pub verdict_of : Cal → List Point → Verdict
verdict_of c ps =
    when scale_holds c then (when all_stay c ps then Pass else Shift)
    else Scale

unfoldable pub check_of : Cal → List Point → Result Verdict Refusal
check_of c ps =
    when longest <? length ps then Err Long
    else when all_on_panel ps then Ok (verdict_of c ps)
    else Err Target

-- the first n of an array that holds 64
unfoldable pub check_first : Cal → ℕ → List Point → Result Verdict Refusal
check_first c n ps = when longest <? n then Err Long else check_of c (take n ps)

-- a verdict, or that there is none
pub data Judged : Type 0 where
  none : Judged
  judged : Verdict → Judged

abbrev pub told_check : Result Verdict Refusal → Told Judged
told_check (Ok v) = answered (judged v)
told_check (Err r) = refused r none
