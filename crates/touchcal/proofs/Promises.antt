-- The public calls in document 01's numbers: what each tells for every input, what was put is taken once, and that each
-- contract leaves no second answer. Assumes nothing.
use Rattle.std.specs.Prelude.{Option, Some, None, Result, Ok, Err}
use Rattle.std.proofs.Common.{◌≡◌, ℕ, Bool, true, false, List, length, pos, refl, ◌∙◌}
use lib.Ieee.{Float}
use Rattle.panel.specs.Tests.{when◌then◌else◌, ◌or◌, ◌<?◌}
use Rattle.panel.specs.Points.{all_on_panel}
use Rattle.panel.specs.declared.points.Point.{Point}
use Rattle.panel.specs.declared.refusals.Refusal.TheVariants.{Huge}
use Rattle.panel.proofs.Follow.{if-of, if-false}
use Rattle.panel.proofs.Promises.{one_answer}
use Rattle.calmap.specs.Distances.{Rule}
use Rattle.calmap.specs.Resids.{pairs_of}
use Rattle.calmap.specs.Sizes.{longest}
use Rattle.calmap.specs.declared.arrays.Held.{Held}
use Rattle.calmap.specs.declared.units.Aim.{Aim}
use Rattle.calmap.specs.declared.units.Cal.{Cal}
use Rattle.calmap.specs.declared.units.Tap.{Tap}
use Rattle.touchcal.specs.Floats.{in_reach, nearest_step, q16_of, told_q16, off_identity, to_f32_of, from_f32_of, identity, told_cal}
use Rattle.touchcal.specs.Scpi.{clear, kept, taken, put_of, take_of, told_put, told_take}
use Rattle.touchcal.specs.declared.scpi.Pending.{Pending}
use Rattle.touchcal.specs.Solutions.{solved_of}
use Rattle.touchcal.specs.declared.fitting.Unfit.TheVariants.{Refused}
use Rattle.touchcal.specs.Fits.{unfit_of, weighed, fit_by, fit_of, told_fit}
use Rattle.touchcal.specs.declared.solving.Unsolved.{Unsolved}
use Rattle.touchcal.specs.code.Arrays.{fit_first, fit_first_by, fit_held}
use Rattle.touchcal.specs.declared.fitting.Fit.{Fit}
use Rattle.touchcal.specs.declared.fitting.Unfit.{Unfit}
use Rattle.touchcal.specs.declared.floats.Coefs.{Coefs}
use Rattle.touchcal.proofs.Reach.{all_reach, nearest_cal, steps-are}
use Rattle.touchcal.proofs.Fitted.{tells, zeros, by_solution, solution-tells}
use Rattle.touchcal.proofs.Choices.{if-then, if-else, neither_left, neither_right}
use Rattle.calmap.specs.declared.residuals.Spread.{Spread}
use Rattle.calmap.specs.declared.limits.Verdict.{Verdict}
use Rattle.panel.specs.declared.refusals.Refusal.{Refusal}
use Rattle.calmap.specs.declared.units.Q16.{Q16}

-- HUGE, number 7 and a zero, exactly out of reach.
pub q16-tells : (v : Float) → told_q16 (q16_of v) ≡ (when in_reach v then tells 0 (nearest_step v) else tells 7 (record { 0 = pos 0 }))
unfolding q16_of
q16-tells v = if-of told_q16 _ _ _

-- HUGE exactly where one of the six is out of reach.
pub from-tells : (v : Coefs) → told_cal (from_f32_of v) ≡ (when all_reach (off_identity v) then tells 0 (nearest_cal (off_identity v)) else tells 7 identity)
unfolding from_f32_of
from-tells v = rw (steps-are (off_identity v)) (if-of told_cal _ _ _)

-- Whatever was pending: the calibration that was put, or with HUGE nothing.
pub put-tells : (p : Pending) (v : Coefs) → told_put (put_of p v) ≡ (when all_reach (off_identity v) then tells 0 (record { set = true; cal = nearest_cal (off_identity v) }) else tells 7 clear)
unfolding put_of from_f32_of
put-tells p v = rw (steps-are (off_identity v)) (if-of (λ a. told_put (kept a)) _ _ _)

-- Number 0 always, and nothing pending after it.
pub take-tells : (p : Pending) → told_take (take_of p) ≡ (when p.set then tells 0 (record { some = true; cal = p.cal; after = clear }) else tells 0 (record { some = false; cal = identity; after = clear }))
unfolding take_of
take-tells p = if-of told_take _ _ _

-- LONG, TARGET, FEW, LINE, STEEP and WIDE in this order, zeros with each but for the place of STEEP; else the calibration, its residuals and the verdict.
pub fit-tells : (ps : List Aim) (ts : List Point) → told_fit (fit_of ps ts) ≡ (when longest <? length ps or longest <? length ts then tells 4 zeros else when all_on_panel ts then by_solution (solved_of ps) ps ts else tells 5 zeros)
unfolding fit_by
fit-tells ps ts =
    if-of told_fit _ _ _
    ∙ if-else _ _ _ _ (λ short.
    if-of told_fit _ _ _
    ∙ if-then _ _ _ _ (λ on. solution-tells ps ts (neither_left _ _ short) (neither_right _ _ short) on (solved_of ps)))

-- ---- what was put is taken once

none_left : (b : Bool) (c : Cal) → (told_take (when b then taken (Some c) clear else taken None clear)).value.after ≡ clear
unfolding when◌then◌else◌
none_left true c = refl
none_left false c = refl

pub taken-once : (p : Pending) → take_of (told_take (take_of p)).value.after ≡ taken None clear
unfolding take_of
taken-once p = rw (none_left p.set p.cal) (if-false _ _ _ refl)

pub put-taken : (p : Pending) (v : Coefs) (c : Cal) → from_f32_of v ≡ Ok c → take_of (told_put (put_of p v)).value ≡ taken (Some c) clear
unfolding put_of take_of when◌then◌else◌
put-taken p v c e = rw e

pub huge-clears : (p : Pending) (v : Coefs) → from_f32_of v ≡ Err Huge → take_of (told_put (put_of p v)).value ≡ taken None clear
unfolding put_of take_of when◌then◌else◌
huge-clears p v e = rw e

-- ---- each contract determines the answer, one line for each public function: panel's `one_answer`

pub q16-unique : (v : Float) {r s : Result Q16 Refusal} → r ≡ q16_of v → s ≡ q16_of v → r ≡ s
q16-unique v = one_answer

pub to-unique : (c : Cal) {r s : Coefs} → r ≡ to_f32_of c → s ≡ to_f32_of c → r ≡ s
to-unique c = one_answer

pub from-unique : (v : Coefs) {r s : Result Cal Refusal} → r ≡ from_f32_of v → s ≡ from_f32_of v → r ≡ s
from-unique v = one_answer

pub no-cal-unique : {r s : Cal} → r ≡ identity → s ≡ identity → r ≡ s
no-cal-unique = one_answer

-- nothing pending
pub cleared-unique : {r s : Pending} → r ≡ clear → s ≡ clear → r ≡ s
cleared-unique = one_answer

-- what is answered, and what is pending after the call
module _ (p : Pending) where
  pub put-unique : (v : Coefs) {r s : Result (Unit {0}) Refusal} {q t : Pending} → (r ≡ (put_of p v).answer) × (q ≡ (put_of p v).after) → (s ≡ (put_of p v).answer) × (t ≡ (put_of p v).after) → (r ≡ s) × (q ≡ t)
  put-unique v a b = (one_answer a.0 b.0, one_answer a.1 b.1)

  pub take-unique : {r s : Option Cal} {q t : Pending} → (r ≡ (take_of p).answer) × (q ≡ (take_of p).after) → (s ≡ (take_of p).answer) × (t ≡ (take_of p).after) → (r ≡ s) × (q ≡ t)
  take-unique a b = (one_answer a.0 b.0, one_answer a.1 b.1)

-- why there is no fit, from a refusal and from what kept it from being solved
pub unfit-unique : (why : Refusal) {r s : Unfit} → r ≡ Refused why → s ≡ Refused why → r ≡ s
unfit-unique why = one_answer

pub unsolved-unique : (why : Unsolved) {r s : Unfit} → r ≡ unfit_of why → s ≡ unfit_of why → r ≡ s
unsolved-unique why = one_answer

module _ {r s : Result Fit Unfit} where
  pub weigh-unique : (c : Cal) (after before : Result Spread Refusal) (k : Result Verdict Refusal) → r ≡ weighed c after before k → s ≡ weighed c after before k → r ≡ s
  weigh-unique c after before k = one_answer

  pub fit-by-unique : (rule : Rule) (n : ℕ) (ps : List Aim) (m : ℕ) (ts : List Point) → r ≡ fit_first_by rule n ps m ts → s ≡ fit_first_by rule n ps m ts → r ≡ s
  fit-by-unique rule n ps m ts = one_answer

  pub fit-of-unique : (n : ℕ) (ps : List Aim) (m : ℕ) (ts : List Point) → r ≡ fit_first n ps m ts → s ≡ fit_first n ps m ts → r ≡ s
  fit-of-unique n ps m ts = one_answer

  pub fit-held-unique : (a : Held Aim) (t : Held Point) → r ≡ fit_held a t → s ≡ fit_held a t → r ≡ s
  fit-held-unique a t = one_answer

  -- over lent lists, which it cannot alter
  pub fit-unique : (raw tgt : List Tap) (ts : List Point) → r ≡ fit_of (pairs_of raw tgt) ts → s ≡ fit_of (pairs_of raw tgt) ts → r ≡ s
  fit-unique raw tgt ts = one_answer
