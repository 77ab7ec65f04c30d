-- Inputs on the line between two readings of document 01, computed: each is the smallest, or nearly, that tells the
-- reading of specs/ from the other one. (The starred examples of document 01 have a table of their own.)
-- Assumes nothing.
use Rattle.std.specs.Prelude.{Ok, Err}
use Prim.Native.Nat.{ℕ, ◌*◌}
use mathlib.Core.Path.{◌≡◌, refl}
use mathlib.Core.List.{[], ◌∷◌}
use lib.IntN.{ℤ, pos, negsuc}
use lib.ListN.{replicate}
use Rattle.panel.specs.Points.{on_panel, all_on_panel}
use Rattle.panel.specs.Tests.{when◌then◌else◌, ◌and◌}
use Rattle.panel.specs.declared.points.Point.{Point}
use Rattle.panel.specs.declared.refusals.Refusal.TheVariants as Refusal
use Rattle.calmap.specs.Checks.{mild, scale_holds, stays, all_stay, verdict_of, check_of}
use Rattle.calmap.specs.Distances.{squared, gap_of, tenths_of, dist10_of}
use Rattle.calmap.specs.Maps.{line, line_fits, apply_of}
use Rattle.calmap.specs.Resids.{pairs_of, miss_of, misses_of, sum_of, mean_of, largest, spread, resid_by, resid_of}
use Rattle.calmap.specs.Roots.{digit, root_by, root_of}
use Rattle.calmap.specs.Screening.{nudge, nudge_fits, moved, screen_of}
use Rattle.calmap.specs.Units.{steps, sixteenths, tenths}
use Rattle.calmap.specs.Wide.{in32, in16, down}
use Rattle.calmap.specs.declared.limits.Verdict.TheVariants.{Pass, Scale, Shift}
use Rattle.calmap.specs.declared.units.Cal.{Cal}
use Rattle.calmap.specs.declared.units.Tap.{Tap}

abbrev cal : ℤ → ℤ → ℤ → Cal
cal a b c = record { c0 = steps a; c1 = steps b; c2 = steps c; c3 = steps (pos 0); c4 = steps (pos 0); c5 = steps (pos 0) }

abbrev at : ℕ → ℕ → Point
at x y = record { x = x; y = y }

-- Left to right: the whole sum is in i32, but x·65536 + c0·x on the way to it is not.
wide-on-the-way : apply_of (cal (pos 65536) (negsuc 65535) (pos 0)) (pos 20000) (pos 20000) ≡ Err Refusal.Wide
unfolding apply_of when◌then◌else◌ ◌and◌ in16 in32 line_fits line
wide-on-the-way = refl

-- `screen` has u16 input: 32768 is not one of i16, and is answered.
screen-past-i16 : screen_of (cal (pos 0) (pos 0) (pos 0)) (at 32768 0) ≡ Ok (at 479 0)
unfolding screen_of when◌then◌else◌ ◌and◌ in32 nudge_fits nudge moved down
screen-past-i16 = refl

-- The largest u64 has a root, which the Rust's x + 1 does not reach.
root-of-largest : root_of 18446744073709551615 ≡ 4294967295
unfolding root_of root_by digit when◌then◌else◌
root-of-largest = refl

-- A sum of 2^63 is answered.
sum-past-i64 : dist10_of (sixteenths (negsuc 2147483647)) (sixteenths (negsuc 2147483647)) (sixteenths (pos 0)) (sixteenths (pos 0)) ≡ Ok (tenths 1898125312)
unfolding gap_of when◌then◌else◌ ◌and◌ in32 squared tenths_of root_by digit
sum-past-i64 = refl

-- "A root of 401 is 250 tenths, 402 is 251." "Squared distance 13 gave 1 and now gives 2."
tenths-of-401 : tenths_of (401 * 401) ≡ tenths 250
unfolding tenths_of root_by digit when◌then◌else◌
tenths-of-401 = refl

tenths-of-402 : tenths_of (402 * 402) ≡ tenths 251
unfolding tenths_of root_by digit when◌then◌else◌
tenths-of-402 = refl

tenths-of-13 : tenths_of 13 ≡ tenths 2
unfolding tenths_of root_by digit when◌then◌else◌
tenths-of-13 = refl

-- 25·161283 is the first past 64·251·251: from there on a largest miss is over the limit of a fit.
tenths-at-the-limit : tenths_of 161282 ≡ tenths 250
unfolding tenths_of root_by digit when◌then◌else◌
tenths-at-the-limit = refl

tenths-over-the-limit : tenths_of 161283 ≡ tenths 251
unfolding tenths_of root_by digit when◌then◌else◌
tenths-over-the-limit = refl

-- Aims in use are as many as the shorter list has: 65 raw taps and one target are one pair.
abbrev origin : Tap
origin = record { x = pos 0; y = pos 0 }

one-pair : resid_of (cal (pos 0) (pos 0) (pos 65536)) (pairs_of (replicate 65 origin) (origin ∷ [])) ≡ Ok (spread (tenths 10) (tenths 10))
unfolding resid_by pairs_of misses_of miss_of mean_of sum_of largest apply_of when◌then◌else◌ ◌and◌ in16 in32 line_fits line down gap_of squared tenths_of root_by digit
one-pair = refl

-- and 65 of both are LONG, also where the first one is WIDE.
long-before-wide : resid_of (cal (pos 0) (pos 0) (pos 2147483647)) (pairs_of (replicate 65 (record { x = pos 1; y = pos 0 })) (replicate 65 origin)) ≡ Err Refusal.Long
unfolding resid_by pairs_of when◌then◌else◌
long-before-wide = refl

-- 65 targets off the panel are LONG, one is TARGET, whatever the calibration.
long-before-target : check_of (cal (pos 9831) (pos 0) (pos 0)) (replicate 65 (at 480 0)) ≡ Err Refusal.Long
unfolding check_of when◌then◌else◌
long-before-target = refl

target-before-scale : check_of (cal (pos 9831) (pos 0) (pos 0)) (at 480 0 ∷ []) ≡ Err Refusal.Target
unfolding check_of when◌then◌else◌ all_on_panel on_panel ◌and◌
target-before-scale = refl

-- The most negative i32 is Scale; Scale comes before Shift; a sum past i32 is Shift; no target, no shift.
least-is-scale : verdict_of (cal (negsuc 2147483647) (pos 0) (pos 0)) [] ≡ Scale
unfolding verdict_of scale_holds mild when◌then◌else◌ ◌and◌
least-is-scale = refl

scale-before-shift : verdict_of (cal (pos 9831) (pos 0) (pos 2147483647)) (at 1 0 ∷ []) ≡ Scale
unfolding verdict_of scale_holds mild when◌then◌else◌ ◌and◌
scale-before-shift = refl

past-i32-is-shift : verdict_of (cal (pos 9830) (negsuc 9829) (pos 2147483647)) (at 1 0 ∷ []) ≡ Shift
unfolding verdict_of scale_holds mild all_stay stays apply_of when◌then◌else◌ ◌and◌ in16 in32 line_fits line
past-i32-is-shift = refl

none_passes : verdict_of (cal (pos 9830) (negsuc 9829) (pos 2147483647)) [] ≡ Pass
unfolding verdict_of scale_holds mild all_stay when◌then◌else◌ ◌and◌
none_passes = refl
