-- The first pairs and the first targets of arrays that hold 64: where `fit` refuses them, and what it comes to where it does not. The
-- targets are refused as `check` refuses them, for any calibration. Assumes nothing.
use Rattle.std.specs.Prelude.{Result, Ok, Err}
use Rattle.std.proofs.Common.{◌≡◌, ℕ, ◌<◌, ◌≤◌, Bool, true, false, List, length, take, sym, refl, ◌∙◌, arith, length-take, ltb-false, le-ltb}
use Rattle.calmap.specs.code.Arrays.{held_pairs, held_points}
use Rattle.calmap.specs.declared.units.Tap.{Tap}
use Rattle.calmap.proofs.Holding.{pairs-long, pairs-count, pairs-all, points-long, points-count, points-all}
use Rattle.panel.specs.Tests.{when◌then◌else◌, ◌or◌, ◌<?◌}
use Rattle.panel.specs.Points.{all_on_panel}
use Rattle.panel.specs.declared.points.Point.{Point}
use Rattle.panel.specs.declared.refusals.Refusal.{Refusal}
use Rattle.panel.specs.declared.refusals.Refusal.TheVariants.{Long, Target}
use Rattle.panel.proofs.Follow.{follow, if-true, if-false, or-false}
use Rattle.calmap.specs.Sizes.{longest}
use Rattle.calmap.specs.Distances.{Rule}
use Rattle.calmap.specs.Resids.{pairs_of, resid_by, resid_first_by}
use Rattle.calmap.specs.Checks.{verdict_of, check_of, check_first}
use Rattle.calmap.specs.declared.units.Cal.{Cal}
use Rattle.calmap.specs.declared.units.Aim.{Aim}
use Rattle.calmap.specs.declared.limits.Verdict.{Verdict}
use Rattle.touchcal.specs.Solutions.{solved_of}
use Rattle.touchcal.specs.Fits.{fitted_by, fit_of, fit_by}
use Rattle.touchcal.specs.code.Arrays.{cal_or_identity, fit_first_by, fit_held}
use Rattle.touchcal.specs.declared.solving.Unsolved.{Unsolved}
use Rattle.touchcal.specs.declared.fitting.Fit.{Fit}
use Rattle.touchcal.specs.declared.fitting.Unfit.{Unfit}
use Rattle.touchcal.specs.declared.fitting.Unfit.TheVariants.{Refused}
use Rattle.touchcal.proofs.Choices.{neither_left, neither_right}

by-test : {X : Type 0} (b : Bool) → (b ≡ true → X) → (b ≡ false → X) → X
by-test true f g = f refl
by-test false f g = g refl

-- the same three tests, of `check` and of `fit`
abbrev of_check : Bool → Bool → Bool → Result Verdict Refusal → Result Verdict Refusal
of_check long longer on x = when long then Err Long else when longer then Err Long else when on then x else Err Target

abbrev of_fit : Bool → Bool → Bool → Result Fit Unfit → Result Fit Unfit
of_fit long longer on x = when long then Err (Refused Long) else when longer then Err (Refused Long) else when on then x else Err (Refused Target)

both-refuse : (l l' on : Bool) (v : Verdict) (x : Result Fit Unfit) (r : Refusal) → of_check l l' on (Ok v) ≡ Err r → of_fit l l' on x ≡ Err (Refused r)
unfolding when◌then◌else◌
both-refuse true l' on v x r e = cc
both-refuse false true on v x r e = cc
both-refuse false false true v x r e = cc
both-refuse false false false v x r e = cc

both-go-on : (l l' on : Bool) (v w : Verdict) (x : Result Fit Unfit) → of_check l l' on (Ok v) ≡ Ok w → of_fit l l' on x ≡ x
unfolding when◌then◌else◌
both-go-on true l' on v w x e = cc
both-go-on false true on v w x e = cc
both-go-on false false true v w x e = refl
both-go-on false false false v w x e = cc

not-refused : (l : Bool) (x : Result Verdict Refusal) (v : Verdict) → (when l then Err Long else x) ≡ Ok v → l ≡ false
unfolding when◌then◌else◌
not-refused true x v e = cc
not-refused false x v e = refl

not-long : {A : Type 0} (n : ℕ) (xs : List A) → n ≤ longest → longest <? length (take n xs) ≡ false
not-long n xs h = le-ltb longest (length (take n xs)) (rw length-take (omega arith))

module _ (rule : Rule) (n : ℕ) (ps : List Aim) (m : ℕ) (ts : List Point) where
  pub fit-long : longest < n → fit_first_by rule n ps m ts ≡ Err (Refused Long)
  unfolding fit_first_by
  fit-long h = search follow

  module _ (few : n ≤ longest) where
    abbrev solution : Result Fit Unfit
    solution = fitted_by rule (solved_of (take n ps)) (take n ps) (take m ts)

    fit-first : fit_first_by rule n ps m ts ≡ of_fit (longest <? m) (longest <? length (take m ts)) (all_on_panel (take m ts)) solution
    unfolding fit_first_by fit_by
    fit-first = rw (or-false _ _ (le-ltb _ _ few), or-false _ _ (not-long n ps few))

    pub fit_refused : (c : Cal) (r : Refusal) → check_first c m ts ≡ Err r → fit_first_by rule n ps m ts ≡ Err (Refused r)
    unfolding check_first check_of
    fit_refused c r e = rw fit-first (both-refuse _ _ _ (verdict_of c (take m ts)) _ r e)

    pub fit-goes-on : (c : Cal) (v : Verdict) → check_first c m ts ≡ Ok v → fit_first_by rule n ps m ts ≡ solution
    unfolding check_first check_of
    fit-goes-on c v e = rw fit-first (both-go-on _ _ _ (verdict_of c (take m ts)) v _ e)

    pub resid-first : (c : Cal) → resid_first_by rule c n ps ≡ resid_by rule c (take n ps)
    unfolding resid_first_by
    resid-first c = if-false _ _ _ (le-ltb _ _ few)

    pub check-first : (c d : Cal) (v : Verdict) → check_first d m ts ≡ Ok v → check_first c m ts ≡ check_of c (take m ts)
    unfolding check_first
    check-first c d v e = if-false _ _ _ (not-refused _ _ v e)

-- ---- the calibration that is judged

pub found-is : (s : Result Cal Unsolved) (c : Cal) → s ≡ Ok c → cal_or_identity s ≡ c
unfolding cal_or_identity
found-is s c e = rw e

-- ---- what is held of lists, as calmap holds them, gives what the lists give

module _ (raw tgt : List Tap) (ts : List Point) where
  abbrev ps : List Aim
  ps = pairs_of raw tgt

  held-long : longest <? length ps or longest <? length ts ≡ true → fit_held (held_pairs raw tgt) (held_points ts) ≡ fit_of ps ts
  unfolding fit_held fit_by
  held-long h = rw (pairs-long raw tgt, points-long ts) (if-true _ _ _ h ∙ sym (if-true _ _ _ h))

  held-short : longest <? length ps or longest <? length ts ≡ false → fit_held (held_pairs raw tgt) (held_points ts) ≡ fit_of ps ts
  unfolding fit_held fit_first_by
  held-short h =
      let few = ltb-false longest (length ps) (neither_left _ _ h) in
      let few' = ltb-false longest (length ts) (neither_right _ _ h) in
      let counted : longest <? (held_pairs raw tgt).n or longest <? (held_points ts).n ≡ false = rw (pairs-count raw tgt few, points-count ts few') h in
      rw (pairs-long raw tgt, points-long ts) (if-false _ _ _ h ∙ if-false _ _ _ counted ∙ (λ i. fit_of (pairs-all raw tgt few i) (points-all ts few' i)))

  pub fit-of-held : fit_held (held_pairs raw tgt) (held_points ts) ≡ fit_of ps ts
  fit-of-held = by-test (longest <? length ps or longest <? length ts) held-long held-short
