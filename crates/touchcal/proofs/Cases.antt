-- Cases computed from the definitions. Document 01's case of `fit`, on both sides of the line: "Corners (0,0) to (100,100) onto themselves +41 in x, target (240,160): c2 2,686,976,
-- mean 0, max 0, before 410, Shift. +40 passes." An input for each refusal, and the edges of `q16`. Assumes nothing.
use Rattle.std.specs.Prelude.{Result, Ok, Err}
use Rattle.std.proofs.Common.{◌≡◌, ℕ, ◌+◌, true, false, List, [], ◌∷◌, map, replicate, ℤ, pos, negsuc, refl}
use lib.Ieee.{nan, fin, of_bits, add, sub, mul, div, lt, of_int, to_signed}
use Rattle.panel.specs.Tests.{when◌then◌else◌, ◌and◌, ◌or◌}
use Rattle.panel.specs.Points.{on_panel, all_on_panel}
use Rattle.panel.specs.declared.points.Point.{Point}
use Rattle.panel.specs.declared.refusals.Refusal.TheVariants.{Huge}
use Rattle.calmap.specs.Wide.{in32, in16, down}
use Rattle.calmap.specs.Maps.{line, line_fits, apply_of}
use Rattle.calmap.specs.Roots.{digit, root_by}
use Rattle.calmap.specs.Distances.{squared, gap_of, tenths_of}
use Rattle.calmap.specs.Units.{tenths}
use Rattle.calmap.specs.Resids.{miss_of, misses_of, sum_of, mean_of, largest, resid_by}
use Rattle.calmap.specs.Checks.{mild, scale_holds, near, stays, all_stay, verdict_of, check_of}
use Rattle.calmap.specs.declared.units.Cal.{Cal}
use Rattle.calmap.specs.declared.units.Q16.{Q16}
use Rattle.calmap.specs.declared.units.Aim.{Aim}
use Rattle.calmap.specs.declared.limits.Verdict.TheVariants.{Pass, Shift, Resid}
use Rattle.touchcal.specs.Sizes.{zero32, one32}
use Rattle.touchcal.specs.Floats.{in_reach, half_away, nearest_step, q16_of, out_of, to_f32_of, identity, in_steps, steps_of}
use Rattle.touchcal.specs.Moments.{place_of, add_pair, shared_of, add_about, moments_of}
use Rattle.touchcal.specs.Solutions.{det_of, spreads, coefs_of, deltas_of, first_refused, stepped_of, solved_of}
use Rattle.touchcal.specs.Fits.{fit_by, fit_of, told_fit}
use Rattle.touchcal.specs.declared.fitting.Fit.{Fit}
use Rattle.touchcal.specs.declared.fitting.Unfit.{Unfit}

abbrev corner : ℕ → ℕ → ℕ → Aim
corner k x y = record { raw = record { x = pos x; y = pos y }; tgt = record { x = pos (x + k); y = pos y } }

abbrev pub corners : ℕ → List Aim
corners k = corner k 0 0 ∷ corner k 100 0 ∷ corner k 0 100 ∷ corner k 100 100 ∷ []

abbrev pub target : List Point
target = record { x = 240; y = 160 } ∷ []

abbrev pair : ℤ → ℤ → ℤ → ℤ → Aim
pair x y u v = record { raw = record { x = x; y = y }; tgt = record { x = u; y = v } }

-- only c2
abbrev pub moved : ℕ → Cal
moved c2 =
    let none : Q16 = record { 0 = pos 0 } in
    record { c0 = none; c1 = none; c2 = record { 0 = pos c2 }; c3 = none; c4 = none; c5 = none }

pub corners-41 : fit_of (corners 41) target ≡ Ok (record { cal = moved 2_686_976; mean = tenths 0; max = tenths 0; before = tenths 410; verdict = Shift })
unfolding fit_by solved_of stepped_of moments_of place_of add_pair shared_of add_about det_of spreads coefs_of deltas_of steps_of in_steps q16_of in_reach nearest_step half_away resid_by misses_of miss_of largest apply_of line line_fits in32 in16 down digit root_by squared gap_of tenths_of check_of verdict_of scale_holds mild near stays all_stay on_panel all_on_panel sum_of mean_of when◌then◌else◌ ◌and◌ ◌or◌ of_bits add sub mul div lt of_int to_signed
corners-41 = refl

pub corners-40 : fit_of (corners 40) target ≡ Ok (record { cal = moved 2_621_440; mean = tenths 0; max = tenths 0; before = tenths 400; verdict = Pass })
unfolding fit_by solved_of stepped_of moments_of place_of add_pair shared_of add_about det_of spreads coefs_of deltas_of steps_of in_steps q16_of in_reach nearest_step half_away resid_by misses_of miss_of largest apply_of line line_fits in32 in16 down digit root_by squared gap_of tenths_of check_of verdict_of scale_holds mild near stays all_stay on_panel all_on_panel sum_of mean_of when◌then◌else◌ ◌and◌ ◌or◌ of_bits add sub mul div lt of_int to_signed
corners-40 = refl

-- ---- the limit of a fit, "Resid if max > 250": the corners onto themselves, but for two opposite ones that are moved by the same. The fit
-- lies half way, so that each tap is 25 px and 2 px from its target, 161,024 as a squared distance in sixteenths and 250 tenths; or 25 px
-- and 2 1/2 px, 161,600 and 251 tenths, of which the rule before request [6] made 250

abbrev pub opposite : ℕ → ℕ → List Aim
opposite x y =
    pair (pos 0) (pos 0) (pos x) (pos y)
    ∷ pair (pos 100) (pos 0) (pos 100) (pos 0)
    ∷ pair (pos 0) (pos 100) (pos 0) (pos 100)
    ∷ pair (pos 100) (pos 100) (pos (100 + x)) (pos (100 + y))
    ∷ []

-- only c2 and c5
abbrev pub shifted : ℕ → ℕ → Cal
shifted c2 c5 =
    let none : Q16 = record { 0 = pos 0 } in
    record { c0 = none; c1 = none; c2 = record { 0 = pos c2 }; c3 = none; c4 = none; c5 = record { 0 = pos c5 } }

pub at-the-limit : fit_of (opposite 50 4) target ≡ Ok (record { cal = shifted 1_638_400 131_072; mean = tenths 250; max = tenths 250; before = tenths 250; verdict = Pass })
unfolding fit_by solved_of stepped_of moments_of place_of add_pair shared_of add_about det_of spreads coefs_of deltas_of steps_of in_steps q16_of in_reach nearest_step half_away resid_by misses_of miss_of largest apply_of line line_fits in32 in16 down digit root_by squared gap_of tenths_of check_of verdict_of scale_holds mild near stays all_stay on_panel all_on_panel sum_of mean_of when◌then◌else◌ ◌and◌ ◌or◌ of_bits add sub mul div lt of_int to_signed
at-the-limit = refl

pub over-the-limit : fit_of (opposite 50 5) target ≡ Ok (record { cal = shifted 1_638_400 163_840; mean = tenths 251; max = tenths 251; before = tenths 251; verdict = Resid })
unfolding fit_by solved_of stepped_of moments_of place_of add_pair shared_of add_about det_of spreads coefs_of deltas_of steps_of in_steps q16_of in_reach nearest_step half_away resid_by misses_of miss_of largest apply_of line line_fits in32 in16 down digit root_by squared gap_of tenths_of check_of verdict_of scale_holds mild near stays all_stay on_panel all_on_panel sum_of mean_of when◌then◌else◌ ◌and◌ ◌or◌ of_bits add sub mul div lt of_int to_signed
over-the-limit = refl

-- ---- each refusal, in its order, and the place that STEEP tells: FEW, LINE and STEEP by few taps close together

abbrev off : List Point
off = record { x = 480; y = 0 } ∷ []

abbrev same : ℕ → ℕ → Aim
same x y = pair (pos x) (pos y) (pos x) (pos y)

abbrev onto : ℤ → ℤ → ℤ → ℤ → ℤ → ℤ → List Aim
onto u v u1 v1 u2 v2 = pair (pos 0) (pos 0) u v ∷ pair (pos 2) (pos 0) u1 v1 ∷ pair (pos 0) (pos 2) u2 v2 ∷ []

abbrev why_told : Result Fit Unfit → ℕ × ℕ
why_told a = ((told_fit a).number, (told_fit a).value.place.0)

pub refusals : map why_told
    -- LONG: 65 pairs, with a target off the panel; TARGET: that target, with no pairs
    (fit_of (replicate 65 (same 0 0)) off
    ∷ fit_of [] off
    -- FEW: two pairs
    ∷ fit_of (same 0 0 ∷ same 2 0 ∷ []) target
    -- LINE: three on one line; three with both sums under 1, that of x, that of y; four, whose sums are 1, have a fit
    ∷ fit_of (same 0 0 ∷ same 1 1 ∷ same 2 2 ∷ []) target
    ∷ fit_of (same 0 0 ∷ same 1 0 ∷ same 0 1 ∷ []) target
    ∷ fit_of (same 0 0 ∷ same 1 0 ∷ same 0 2 ∷ []) target
    ∷ fit_of (same 0 0 ∷ same 2 0 ∷ same 0 1 ∷ []) target
    ∷ fit_of (same 0 0 ∷ same 1 0 ∷ same 0 1 ∷ same 1 1 ∷ []) target
    -- STEEP: a, b, c, d, e and f, by (0,0), (2,0) and (0,2) onto these; a target one short of a's limit is WIDE, and one short of c's has a fit
    ∷ fit_of (onto (negsuc 30516) (pos 0) (pos 30520) (pos 0) (negsuc 30516) (pos 2)) target
    ∷ fit_of (onto (negsuc 30516) (pos 0) (pos 30521) (pos 0) (negsuc 30516) (pos 2)) target
    ∷ fit_of (onto (negsuc 30516) (pos 0) (negsuc 30514) (pos 0) (pos 30519) (pos 2)) target
    ∷ fit_of (onto (pos 30517) (pos 0) (pos 30519) (pos 0) (pos 30517) (pos 2)) target
    ∷ fit_of (onto (pos 30518) (pos 0) (pos 30520) (pos 0) (pos 30518) (pos 2)) target
    ∷ fit_of (onto (pos 0) (negsuc 30516) (pos 2) (pos 30519) (pos 0) (negsuc 30514)) target
    ∷ fit_of (onto (pos 0) (negsuc 30516) (pos 2) (negsuc 30516) (pos 0) (pos 30521)) target
    ∷ fit_of (onto (pos 0) (pos 30518) (pos 2) (pos 30518) (pos 0) (pos 30520)) target
    -- several beyond it, the first is told: b and d; e and f; all six
    ∷ fit_of (onto (negsuc 30516) (negsuc 30516) (negsuc 30514) (pos 30519) (pos 30519) (negsuc 30514)) target
    ∷ fit_of (onto (pos 0) (negsuc 30517) (pos 2) (negsuc 30517) (pos 0) (pos 30520)) target
    ∷ fit_of (onto (negsuc 32767) (negsuc 32767) (pos 32767) (pos 32767) (pos 32767) (pos 32767)) target
    -- WIDE: 32767 · 65536 + 4 · 32767, past i32 in `resid` (where the Rust overflows)
    ∷ fit_of (pair (pos 0) (pos 0) (negsuc 1) (pos 0) ∷ pair (pos 32767) (pos 0) (pos 32767) (pos 0) ∷ pair (pos 0) (pos 100) (negsuc 1) (pos 100) ∷ []) target
    ∷ [])
    ≡ (4, 0) ∷ (5, 0) ∷ (6, 0) ∷ (16, 0) ∷ (16, 0) ∷ (16, 0) ∷ (16, 0) ∷ (0, 0) ∷ (3, 0) ∷ (17, 0) ∷ (17, 1) ∷ (0, 0) ∷ (17, 2) ∷ (17, 3) ∷ (17, 4) ∷ (17, 5) ∷ (17, 1) ∷ (17, 4) ∷ (17, 0) ∷ (3, 0) ∷ []
unfolding fit_by solved_of stepped_of first_refused moments_of place_of add_pair shared_of add_about det_of spreads coefs_of deltas_of steps_of in_steps q16_of in_reach nearest_step half_away resid_by misses_of miss_of largest apply_of line line_fits in32 in16 down digit root_by squared gap_of tenths_of check_of verdict_of scale_holds mild near stays all_stay on_panel all_on_panel sum_of mean_of when◌then◌else◌ ◌and◌ ◌or◌ of_bits add sub mul div lt of_int to_signed
refusals = refl

-- ---- the smallest fits found with a coefficient beyond its steps, a to f, and c with f: three taps nearly on one line, all targets (0,0) but that of
-- the one between. One short of it, before a and before c, there is a fit

abbrev between : (x0 y0 x1 y1 x2 y2 : ℤ) → ℕ → ℕ → List Aim
between x0 y0 x1 y1 x2 y2 u v = pair x0 y0 (pos 0) (pos 0) ∷ pair x1 y1 (pos u) (pos v) ∷ pair x2 y2 (pos 0) (pos 0) ∷ []

abbrev upright : ℕ → ℕ → List Aim
upright = between (negsuc 0) (pos 19) (pos 0) (pos 0) (pos 1) (negsuc 16)

abbrev level : ℕ → ℕ → List Aim
level = between (pos 19) (negsuc 0) (pos 0) (pos 0) (negsuc 16) (pos 1)

abbrev aside : ℕ → ℕ → List Aim
aside = between (pos 25) (negsuc 8) (pos 26) (pos 0) (pos 27) (pos 8)

pub steepest : map (λ ps. why_told (fit_of ps target))
    (upright 1_695 0 ∷ upright 1_696 0 ∷ level 1_696 0 ∷ aside 68 0 ∷ aside 69 0 ∷ upright 0 1_696 ∷ level 0 1_696 ∷ aside 0 69 ∷ aside 69 69 ∷ [])
    ≡ (0, 0) ∷ (17, 0) ∷ (17, 1) ∷ (0, 0) ∷ (17, 2) ∷ (17, 3) ∷ (17, 4) ∷ (17, 5) ∷ (17, 2) ∷ []
unfolding fit_by solved_of stepped_of first_refused moments_of place_of add_pair shared_of add_about det_of spreads coefs_of deltas_of steps_of in_steps q16_of in_reach nearest_step half_away resid_by misses_of miss_of largest apply_of line line_fits in32 in16 down digit root_by squared gap_of tenths_of check_of verdict_of scale_holds mild near stays all_stay on_panel all_on_panel sum_of mean_of when◌then◌else◌ ◌and◌ ◌or◌ of_bits add sub mul div lt of_int to_signed
steepest = refl

-- ---- `q16` at its edges: NaN; s = 2.0e9, and the float below it; a half of a step either way; and the largest s below a half, which is
-- 1 step: the half is added in f32, where the sum is 1

pub q16-edges : map q16_of
    (nan
    ∷ fin false 1_953_125 (negsuc 5)
    ∷ fin false 15_624_999 (negsuc 8)
    ∷ fin false 1 (negsuc 16)
    ∷ fin true 1 (negsuc 16)
    ∷ fin false 16_777_215 (negsuc 40)
    ∷ [])
    ≡ Err Huge
    ∷ Err Huge
    ∷ Ok (record { 0 = pos 1_999_999_872 })
    ∷ Ok (record { 0 = pos 1 })
    ∷ Ok (record { 0 = negsuc 0 })
    ∷ Ok (record { 0 = pos 1 })
    ∷ []
unfolding q16_of in_reach nearest_step half_away when◌then◌else◌ ◌and◌ add sub mul lt to_signed
q16-edges = refl

-- no calibration is the identity
pub no-calibration : to_f32_of identity ≡ record { a = one32; b = zero32; c = zero32; d = zero32; e = one32; f = zero32 }
unfolding to_f32_of out_of add div of_int
no-calibration = refl
