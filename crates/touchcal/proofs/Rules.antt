-- `fit` by one rule of tenths and by another: the same calls are refused, with the same refusal, and the calibration is the
-- same; what is told in tenths, and the verdict that hangs on it, is that of each rule. Assumes nothing.
use Rattle.std.specs.Prelude.{Result, Ok, Err}
use Rattle.std.proofs.Common.{◌≡◌, ℕ, Bool, true, false, List, length, take, sym, refl, ap, ◌∙◌, true≢false}
use Rattle.panel.specs.Tests.{when◌then◌else◌, ◌or◌, ◌<?◌}
use Rattle.panel.specs.Points.{all_on_panel}
use Rattle.panel.specs.declared.points.Point.{Point}
use Rattle.calmap.specs.Distances.{Rule}
use Rattle.calmap.specs.Resids.{Misses, known, wide, misses_of, spread_by, resid_by, resid_first_by}
use Rattle.calmap.specs.Checks.{check_of, check_first}
use Rattle.calmap.specs.Sizes.{longest}
use Rattle.calmap.specs.declared.units.Cal.{Cal}
use Rattle.calmap.specs.declared.units.Aim.{Aim}
use Rattle.touchcal.specs.Floats.{identity}
use Rattle.touchcal.specs.Solutions.{solved_of}
use Rattle.touchcal.specs.Fits.{weighed, fitted_by, fit_by}
use Rattle.touchcal.specs.code.Arrays.{fit_first_by}
use Rattle.touchcal.specs.declared.solving.Unsolved.{Unsolved}
use Rattle.touchcal.specs.declared.fitting.Fit.{Fit}
use Rattle.touchcal.specs.declared.fitting.Unfit.{Unfit}
use Rattle.touchcal.specs.declared.fitting.Unfit.TheVariants.{Refused}
use Rattle.touchcal.proofs.Fitted.{never, fit-measured}
use Rattle.panel.specs.declared.refusals.Refusal.{Refusal}
use Rattle.calmap.specs.declared.limits.Verdict.{Verdict}

-- a call that is refused, STEEP with its place among them
abbrev pub unanswered : Result Fit Unfit → Bool
unanswered (Ok f) = false
unanswered (Err why) = true

never-answered : {X : Type 0} (x : Result Fit Unfit) (f : Fit) → unanswered x ≡ true → Ok f ≡ x → X
never-answered x f h e = absurd (true≢false (sym (ap unanswered e ∙ h)))

module _ (a b : Rule) where
  -- ---- the same refusals

  same-weighed : (long : Bool) (ms before : Misses) (c : Cal) (k : Result Verdict Refusal) (x : Result Fit Unfit) → unanswered x ≡ true
      → weighed c (when long then Err Refusal.Long else spread_by a ms) (when long then Err Refusal.Long else spread_by a before) k ≡ x
      → weighed c (when long then Err Refusal.Long else spread_by b ms) (when long then Err Refusal.Long else spread_by b before) k ≡ x
  unfolding when◌then◌else◌
  same-weighed true ms before c k x h e = e
  same-weighed false (known ds) (known d0) c (Ok v) x h e = never-answered x _ h e
  same-weighed false (known ds) (known d0) c (Err s) x h e = e
  same-weighed false (known ds) wide c k x h e = e
  same-weighed false wide before c k x h e = e

  same-fitted : (s : Result Cal Unsolved) (ps : List Aim) (ts : List Point) (x : Result Fit Unfit) → unanswered x ≡ true → fitted_by a s ps ts ≡ x → fitted_by b s ps ts ≡ x
  unfolding resid_by
  same-fitted (Ok c) ps ts x h e = same-weighed (longest <? length ps) (misses_of c ps) (misses_of identity ps) c (check_of c ts) x h e
  same-fitted (Err why) ps ts x h e = e

  same-inside : (long on : Bool) (s : Result Cal Unsolved) (ps : List Aim) (ts : List Point) (x : Result Fit Unfit) → unanswered x ≡ true
      → (when long then Err (Refused Refusal.Long) else when on then fitted_by a s ps ts else Err (Refused Refusal.Target)) ≡ x
      → (when long then Err (Refused Refusal.Long) else when on then fitted_by b s ps ts else Err (Refused Refusal.Target)) ≡ x
  unfolding when◌then◌else◌
  same-inside true on s ps ts x h e = e
  same-inside false true s ps ts x h e = same-fitted s ps ts x h e
  same-inside false false s ps ts x h e = e

  pub same-refused : (ps : List Aim) (ts : List Point) (x : Result Fit Unfit) → unanswered x ≡ true → fit_by a ps ts ≡ x → fit_by b ps ts ≡ x
  unfolding fit_by
  same-refused ps ts x h e = same-inside (longest <? length ps or longest <? length ts) (all_on_panel ts) (solved_of ps) ps ts x h e

  -- ---- the same calibration

  -- what stands inside the tests that a fit has passed
  passed : (long on : Bool) (x y : Result Fit Unfit) (f : Fit) → (when long then Err (Refused Refusal.Long) else when on then x else Err (Refused Refusal.Target)) ≡ Ok f → (when long then Err (Refused Refusal.Long) else when on then y else Err (Refused Refusal.Target)) ≡ y
  unfolding when◌then◌else◌
  passed true on x y f e = never (Refused Refusal.Long) f e
  passed false true x y f e = refl
  passed false false x y f e = never (Refused Refusal.Target) f e

  pub same-cal : (ps : List Aim) (ts : List Point) (f : Fit) → fit_by a ps ts ≡ Ok f → fit_by b ps ts ≡ weighed f.cal (resid_by b f.cal ps) (resid_by b identity ps) (check_of f.cal ts)
  unfolding fit_by
  same-cal ps ts f e =
      passed (longest <? length ps or longest <? length ts) (all_on_panel ts) (fitted_by a (solved_of ps) ps ts) (fitted_by b (solved_of ps) ps ts) f e
      ∙ ap (λ (s : Result Cal Unsolved). fitted_by b s ps ts) (fit-measured a ps ts f e).0

  -- ---- the same of the first pairs and targets of arrays

  module _ (n : ℕ) (ps : List Aim) (m : ℕ) (ts : List Point) where
    first-refused : (long : Bool) (x : Result Fit Unfit) → unanswered x ≡ true → (when long then Err (Refused Refusal.Long) else fit_by a (take n ps) (take m ts)) ≡ x → (when long then Err (Refused Refusal.Long) else fit_by b (take n ps) (take m ts)) ≡ x
    unfolding when◌then◌else◌
    first-refused true x h e = e
    first-refused false x h e = same-refused (take n ps) (take m ts) x h e

    pub same-refused-first : (x : Result Fit Unfit) → unanswered x ≡ true → fit_first_by a n ps m ts ≡ x → fit_first_by b n ps m ts ≡ x
    unfolding fit_first_by
    same-refused-first x h e = first-refused (longest <? n or longest <? m) x h e

    first-cal : (l l' : Bool) (f : Fit) → (when l or l' then Err (Refused Refusal.Long) else fit_by a (take n ps) (take m ts)) ≡ Ok f
        → (when l or l' then Err (Refused Refusal.Long) else fit_by b (take n ps) (take m ts))
        ≡ weighed f.cal (when l then Err Refusal.Long else resid_by b f.cal (take n ps)) (when l then Err Refusal.Long else resid_by b identity (take n ps)) (when l' then Err Refusal.Long else check_of f.cal (take m ts))
    unfolding when◌then◌else◌ ◌or◌
    first-cal true l' f e = never (Refused Refusal.Long) f e
    first-cal false true f e = never (Refused Refusal.Long) f e
    first-cal false false f e = same-cal (take n ps) (take m ts) f e

    pub same-cal-first : (f : Fit) → fit_first_by a n ps m ts ≡ Ok f → fit_first_by b n ps m ts ≡ weighed f.cal (resid_first_by b f.cal n ps) (resid_first_by b identity n ps) (check_first f.cal m ts)
    unfolding fit_first_by resid_first_by check_first
    same-cal-first f e = first-cal (longest <? n) (longest <? m) f e
