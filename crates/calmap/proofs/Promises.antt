-- The public calls in document 01's numbers: what each tells for every input, and that its contract leaves no second
-- answer. Assumes nothing.
use Rattle.std.specs.Prelude.{Option, Some, None, Result, Ok}
use Prim.Native.Nat.{ℕ, ◌-◌, ◌^◌, ◌<◌}
use mathlib.Core.Path.{◌≡◌, refl, ap, subst, ◌∙◌}
use mathlib.Core.Bool.{Bool, true, false}
use mathlib.Core.List.{List, map}
use native.Mathlib.Omega.{arith}
use lib.IntN.{ℤ, pos}
use lib.ListN.{length, take}
use Rattle.panel.proofs.Follow.{if-of}
use Rattle.panel.proofs.Laws.{and_left, and_right}
use Rattle.panel.proofs.Promises.{one_answer}
use Rattle.panel.specs.Points.{all_on_panel}
use Rattle.panel.specs.Refusals.{Told}
use Rattle.panel.specs.Sizes.{width, height}
use Rattle.panel.specs.Tests.{when◌then◌else◌, ◌and◌, ◌<?◌}
use Rattle.panel.specs.declared.points.Point.{Point}
use Rattle.calmap.specs.Checks.{none, judged, scale_holds, all_stay, verdict_of, check_of, check_first, told_check}
use Rattle.calmap.specs.Distances.{squared, gap_of, IsTenths, Rule, tenths_of, in_tenths, dist10_by, dist10_of, told_dist10}
use Rattle.calmap.specs.Maps.{line, line_fits, spot, apply_of, told_apply}
use Rattle.calmap.specs.Resids.{Misses, pairs_of, known, wide, miss_of, misses_of, mean_of, largest, spread, spread_by, resid_of, resid_by, resid_first, resid_first_by, told_resid}
use Rattle.calmap.specs.Roots.{IsRoot, root_of}
use Rattle.calmap.specs.Screening.{nudge, nudge_fits, moved, screen_of, told_screen}
use Rattle.calmap.specs.Sizes.{longest}
use Rattle.calmap.specs.Units.{sixteenths, tenths, in_sixteenths, down_twelve, ◌⊟◌, sixteenths_fit, farther_of}
use Rattle.calmap.specs.Wide.{in16}
use Rattle.calmap.specs.code.Arrays.{held_points, held_pairs, resid_held, check_held}
use Rattle.calmap.specs.declared.arrays.Held.{Held}
use Rattle.calmap.specs.declared.limits.Verdict.TheVariants.{Pass, Scale, Shift}
use Rattle.calmap.specs.declared.residuals.Spread.{Spread}
use Rattle.calmap.specs.declared.units.Aim.{Aim}
use Rattle.calmap.specs.declared.units.Cal.{Cal}
use Rattle.calmap.specs.declared.units.Sixteenths.{Sixteenths}
use Rattle.calmap.specs.declared.units.Tap.{Tap}
use Rattle.calmap.specs.declared.units.Tenths.{Tenths}
use Rattle.calmap.proofs.Bounds.{squared-reach}
use Rattle.calmap.proofs.Rooted.{root_is}
use Rattle.calmap.proofs.Telling.{tenths-are}
use Rattle.calmap.specs.declared.limits.Verdict.{Verdict}
use Rattle.calmap.specs.declared.mapping.Spot.{Spot}
use Rattle.panel.specs.declared.refusals.Refusal.{Refusal}

abbrev tells : {A : Type 0} → ℕ → A → Told A
tells n a = record { number = n; value = a }

-- WIDE, number 3 and zeros, exactly if x or y is outside i16, or a product or partial sum leaves i32.
pub apply16-tells : (c : Cal) (x y : ℤ) → told_apply (apply_of c x y)
    ≡ when◌then◌else◌ (◌and◌ (in16 x) (◌and◌ (in16 y) (◌and◌ (line_fits x c.c0 c.c1 c.c2 x y) (line_fits y c.c3 c.c4 c.c5 x y))))
    (tells 0 (spot (down_twelve (line x c.c0 c.c1 c.c2 x y)) (down_twelve (line y c.c3 c.c4 c.c5 x y))))
    (tells 3 (spot (sixteenths (pos 0)) (sixteenths (pos 0))))
unfolding apply_of
apply16-tells c x y = if-of told_apply _ _ _

-- WIDE exactly if a product or partial sum leaves i32; never for where the point is.
pub screen-tells : (c : Cal) (p : Point) → told_screen (screen_of c p)
    ≡ when◌then◌else◌ (◌and◌ (nudge_fits c.c0 c.c1 c.c2 (pos p.x) (pos p.y)) (nudge_fits c.c3 c.c4 c.c5 (pos p.x) (pos p.y)))
    (tells 0 (record { x = moved (width - 1) p.x (nudge c.c0 c.c1 c.c2 (pos p.x) (pos p.y)); y = moved (height - 1) p.y (nudge c.c3 c.c4 c.c5 (pos p.x) (pos p.y)) }))
    (tells 3 (record { x = 0; y = 0 }))
unfolding screen_of
screen-tells c p = if-of told_screen _ _ _

-- Every u64 is answered, with the largest r with r·r ≤ v.
pub isqrt-tells : (v : ℕ) → v < 2 ^ 64 → IsRoot (root_of v) v
isqrt-tells v h = root_is v h

-- WIDE exactly if a coordinate difference leaves i32.
pub dist10-tells : (ax ay bx by : Sixteenths) → told_dist10 (dist10_of ax ay bx by)
    ≡ when◌then◌else◌ (◌and◌ (sixteenths_fit (ax ⊟ bx)) (sixteenths_fit (ay ⊟ by))) (tells 0 (tenths_of (squared (ax ⊟ bx) (ay ⊟ by)))) (tells 3 (tenths 0))
unfolding gap_of
dist10-tells ax ay bx by = if-of (λ g. told_dist10 (in_tenths tenths_of g)) _ _ _

-- What it tells is the largest t with (16t) squared at most 100 times the squared distance, whatever that is: it is at most
-- 2^63 (`squared-reach`).
measured : (b : Bool) (d2 : ℕ) (t : Tenths) → (b ≡ true → d2 < 2 ^ 64) → in_tenths tenths_of (when◌then◌else◌ b (Some d2) None) ≡ Ok t → IsTenths t d2
unfolding when◌then◌else◌
measured true d2 t f e = let q : tenths_of d2 ≡ t = cc in subst (λ (x : Tenths). IsTenths x d2) q (tenths-are d2 (f refl))
measured false d2 t f e = let z : ◌≡◌ {A = ℕ} 0 1 = cc in absurd (omega arith)

pub dist10-measures : (ax ay bx by : Sixteenths) (t : Tenths) → dist10_of ax ay bx by ≡ Ok t → IsTenths t (squared (ax ⊟ bx) (ay ⊟ by))
unfolding gap_of
dist10-measures ax ay bx by t e =
    let dx = ax ⊟ bx in
    let dy = ay ⊟ by in
    measured _ (squared dx dy) t (λ h. omega (arith, squared-reach dx dy (and_left _ _ h) (and_right _ _ h))) e

-- LONG, number 4, exactly for more than 64 pairs; else WIDE exactly if a tap has no distance; else mean and largest.
abbrev nowhere : Spread
nowhere = spread (tenths 0) (tenths 0)

abbrev told_misses : Misses → Told Spread
told_misses (known ds) = tells 0 (spread (mean_of (map tenths_of ds)) (largest (map tenths_of ds)))
told_misses wide = tells 3 nowhere

spread-told : (ms : Misses) → told_resid (spread_by tenths_of ms) ≡ told_misses ms
spread-told (known ds) = refl
spread-told wide = refl

pub resid-tells : (c : Cal) (ps : List Aim) → told_resid (resid_of c ps) ≡ when◌then◌else◌ (longest <? length ps) (tells 4 nowhere) (told_misses (misses_of c ps))
unfolding resid_by
resid-tells c ps = if-of told_resid _ _ _ ∙ ap (when◌then◌else◌ (longest <? length ps) (tells 4 nowhere)) (spread-told (misses_of c ps))

-- The same over the first n of an array of 64.
pub resid-of-tells : (c : Cal) (n : ℕ) (ps : List Aim) → told_resid (resid_first c n ps) ≡ when◌then◌else◌ (longest <? n) (tells 4 nowhere) (told_resid (resid_of c (take n ps)))
unfolding resid_first_by
resid-of-tells c n ps = if-of told_resid _ _ _

-- LONG, number 4, exactly for more than 64 targets; else TARGET, number 5, exactly for one off the panel; else the verdict.
pub check-tells : (c : Cal) (ps : List Point) → told_check (check_of c ps)
    ≡ when◌then◌else◌ (longest <? length ps) (tells 4 none) (when◌then◌else◌ (all_on_panel ps) (tells 0 (judged (verdict_of c ps))) (tells 5 none))
unfolding check_of
check-tells c ps = if-of told_check _ _ _ ∙ ap (when◌then◌else◌ (longest <? length ps) (tells 4 none)) (if-of told_check _ _ _)

pub verdict-is : (c : Cal) (ps : List Point) → verdict_of c ps ≡ when◌then◌else◌ (scale_holds c) (when◌then◌else◌ (all_stay c ps) Pass Shift) Scale
unfolding verdict_of
verdict-is c ps = refl

pub check-of-tells : (c : Cal) (n : ℕ) (ps : List Point) → told_check (check_first c n ps) ≡ when◌then◌else◌ (longest <? n) (tells 4 none) (told_check (check_of c (take n ps)))
unfolding check_first
check-of-tells c n ps = if-of told_check _ _ _

-- Each contract determines the answer, one line for each public function: panel's `one_answer`.

pub isqrt-unique : (v : ℕ) {r s : ℕ} → r ≡ root_of v → s ≡ root_of v → r ≡ s
isqrt-unique v = one_answer

-- the coordinate of a point and that of a tap, in sixteenths
pub of-point-unique : (v : ℕ) {r s : Sixteenths} → r ≡ in_sixteenths (pos v) → s ≡ in_sixteenths (pos v) → r ≡ s
of-point-unique v = one_answer

pub of-tap-unique : (v : ℤ) {r s : Sixteenths} → r ≡ in_sixteenths v → s ≡ in_sixteenths v → r ≡ s
of-tap-unique v = one_answer

-- in_tenths of the rule of the calls. Its contract has a bound besides, as square's has: so of any rule
pub tenths-unique : (d2 : ℕ) {r s : Tenths} → r ≡ tenths_of d2 → s ≡ tenths_of d2 → r ≡ s
tenths-unique d2 = one_answer

pub gap-unique : (ax ay bx by : Sixteenths) {r s : Option ℕ} → r ≡ gap_of ax ay bx by → s ≡ gap_of ax ay bx by → r ≡ s
gap-unique ax ay bx by = one_answer

pub dist10-unique : (ax ay bx by : Sixteenths) {r s : Result Tenths Refusal} → r ≡ dist10_of ax ay bx by → s ≡ dist10_of ax ay bx by → r ≡ s
dist10-unique ax ay bx by = one_answer

module _ (rule : Rule) where
  pub dist10-by-unique : (ax ay bx by : Sixteenths) {r s : Result Tenths Refusal} → r ≡ dist10_by rule ax ay bx by → s ≡ dist10_by rule ax ay bx by → r ≡ s
  dist10-by-unique ax ay bx by = one_answer

  pub resid-by-unique : (c : Cal) (n : ℕ) (ps : List Aim) {r s : Result Spread Refusal} → r ≡ resid_first_by rule c n ps → s ≡ resid_first_by rule c n ps → r ≡ s
  resid-by-unique c n ps = one_answer

pub farther-unique : (a b : Tenths) {r s : Tenths} → r ≡ farther_of a b → s ≡ farther_of a b → r ≡ s
farther-unique a b = one_answer

module _ (c : Cal) where
  pub apply16-unique : (x y : ℤ) {r s : Result Spot Refusal} → r ≡ apply_of c x y → s ≡ apply_of c x y → r ≡ s
  apply16-unique x y = one_answer

  pub screen-unique : (p : Point) {r s : Result Point Refusal} → r ≡ screen_of c p → s ≡ screen_of c p → r ≡ s
  screen-unique p = one_answer

  pub miss-unique : (p : Aim) {r s : Option ℕ} → r ≡ miss_of c p → s ≡ miss_of c p → r ≡ s
  miss-unique p = one_answer

  pub resid-of-unique : (n : ℕ) (ps : List Aim) {r s : Result Spread Refusal} → r ≡ resid_first c n ps → s ≡ resid_first c n ps → r ≡ s
  resid-of-unique n ps = one_answer

  pub resid-held-unique : (a : Held Aim) {r s : Result Spread Refusal} → r ≡ resid_held c a → s ≡ resid_held c a → r ≡ s
  resid-held-unique a = one_answer

  pub check-of-unique : (n : ℕ) (ps : List Point) {r s : Result Verdict Refusal} → r ≡ check_first c n ps → s ≡ check_first c n ps → r ≡ s
  check-of-unique n ps = one_answer

  pub check-held-unique : (a : Held Point) {r s : Result Verdict Refusal} → r ≡ check_held c a → s ≡ check_held c a → r ≡ s
  check-held-unique a = one_answer

-- and of those that take lent lists, which they cannot alter
module _ (raw tgt : List Tap) where
  pub pairs-of-unique : {r s : Held Aim} → r ≡ held_pairs raw tgt → s ≡ held_pairs raw tgt → r ≡ s
  pairs-of-unique = one_answer

  pub resid-unique : (c : Cal) {r s : Result Spread Refusal} → r ≡ resid_of c (pairs_of raw tgt) → s ≡ resid_of c (pairs_of raw tgt) → r ≡ s
  resid-unique c = one_answer

module _ (ps : List Point) where
  pub points-of-unique : {r s : Held Point} → r ≡ held_points ps → s ≡ held_points ps → r ≡ s
  points-of-unique = one_answer

  pub check-unique : (c : Cal) {r s : Result Verdict Refusal} → r ≡ check_of c ps → s ≡ check_of c ps → r ≡ s
  check-unique c = one_answer
