-- `fit` case by case: which refusal comes where, and that the residuals of a fit are those of `resid` and its verdict that of `check`.
-- Assumes nothing.
use Rattle.std.specs.Prelude.{Result, Ok, Err}
use Rattle.std.proofs.Common.{◌≡◌, ℕ, Bool, true, false, List, map, length, refl, ap, subst}
use Rattle.panel.specs.Tests.{when◌then◌else◌, ◌<?◌}
use Rattle.panel.specs.Points.{all_on_panel}
use Rattle.panel.specs.Refusals.{Told}
use Rattle.panel.specs.declared.points.Point.{Point}
use Rattle.panel.specs.declared.refusals.Refusal.{Refusal}
use Rattle.panel.proofs.Follow.{follow, if-of}
use Rattle.calmap.specs.Sizes.{longest}
use Rattle.calmap.specs.Distances.{Rule, tenths_of}
use Rattle.calmap.specs.Resids.{resid_by, Misses, known, wide, misses_of, mean_of, largest, spread_by}
use Rattle.calmap.specs.Checks.{check_of, verdict_of, judged}
use Rattle.calmap.specs.declared.units.Cal.{Cal}
use Rattle.calmap.specs.declared.units.Aim.{Aim}
use Rattle.calmap.specs.declared.units.Tenths.{Tenths}
use Rattle.calmap.specs.declared.limits.Verdict.{Verdict}
use Rattle.touchcal.specs.Sizes.{fewest}
use Rattle.touchcal.specs.Floats.{identity}
use Rattle.touchcal.specs.Moments.{moments_of}
use Rattle.touchcal.specs.Solutions.{spreads, coefs_of, deltas_of, first_refused, in_order, place, of_steps, solved_of}
use Rattle.touchcal.specs.Fits.{judged_by, fit_with, weighed, unfit_of, fitted_by, fit_by, Tells, unmeasured, told_fit}
use Rattle.touchcal.specs.declared.floats.Coefs.{Coefs}
use Rattle.touchcal.specs.declared.floats.CoefPlace.{CoefPlace}
use Rattle.touchcal.specs.declared.solving.Unsolved.{Unsolved}
use Rattle.touchcal.specs.declared.fitting.Fit.{Fit}
use Rattle.touchcal.specs.declared.fitting.Unfit.{Unfit}
use Rattle.touchcal.specs.declared.fitting.Unfit.TheVariants.{Refused, Steep}
use Rattle.touchcal.proofs.Reach.{all_reach, nearest_cal, stepped-are}
use Rattle.calmap.specs.declared.residuals.Spread.{Spread}

-- ---- the solution: the Rust's three ways to `None`, in its order, and no other

abbrev pub deltas : List Aim → Coefs
deltas ps = deltas_of (coefs_of (moments_of ps))

abbrev pub few : List Aim → Bool
few ps = length ps <? fewest

abbrev pub spread : List Aim → Bool
spread ps = spreads (moments_of ps).sums

abbrev pub near : List Aim → Bool
near ps = all_reach (deltas ps)

-- the place of the first coefficient that is out of reach
abbrev pub first : List Aim → CoefPlace
first ps = place (first_refused (in_order (deltas ps)))

pub solved-are : (ps : List Aim) → solved_of ps ≡ (when few ps then Err Unsolved.Few else when spread ps then (when near ps then Ok (nearest_cal (deltas ps)) else Err (Unsolved.Steep (first ps))) else Err Unsolved.Line)
unfolding solved_of
solved-are ps = rw (stepped-are (deltas ps), if-of of_steps (near ps) _ _)

-- FEW, LINE and STEEP, and behind them what is measured
pub unfit-exactly : (rule : Rule) (ps : List Aim) (ts : List Point)
    → fitted_by rule (solved_of ps) ps ts
    ≡ (let c = nearest_cal (deltas ps) in
    when few ps then Err (Refused Refusal.Few)
    else when spread ps then (when near ps then weighed c (resid_by rule c ps) (resid_by rule identity ps) (check_of c ts) else Err (Steep (first ps)))
    else Err (Refused Refusal.Line))
unfolding when◌then◌else◌
unfit-exactly rule ps ts = rw (solved-are ps) (go (few ps) (spread ps) (near ps) (nearest_cal (deltas ps)) (first ps))
  where
    go : (f s n : Bool) (c : Cal) (p : CoefPlace)
        → fitted_by rule (when f then Err Unsolved.Few else when s then (when n then Ok c else Err (Unsolved.Steep p)) else Err Unsolved.Line) ps ts
        ≡ (when f then Err (Refused Refusal.Few) else when s then (when n then weighed c (resid_by rule c ps) (resid_by rule identity ps) (check_of c ts) else Err (Steep p)) else Err (Refused Refusal.Line))
    go true s n c p = refl
    go false true true c p = refl
    go false true false c p = refl
    go false false n c p = refl

-- ---- no list too long, and all targets on the panel

module _ (ps : List Aim) (ts : List Point) (few : longest <? length ps ≡ false) (few' : longest <? length ts ≡ false) (on : all_on_panel ts ≡ true) where
  pub fit_is : (rule : Rule) → fit_by rule ps ts ≡ fitted_by rule (solved_of ps) ps ts
  unfolding fit_by
  fit_is rule = search follow

  pub resid-is : (rule : Rule) (c : Cal) → resid_by rule c ps ≡ spread_by rule (misses_of c ps)
  unfolding resid_by
  resid-is rule c = search follow

  pub check-is : (c : Cal) → check_of c ts ≡ Ok (verdict_of c ts)
  unfolding check_of
  check-is c = search follow

-- ---- what a fit tells, by the solution and by the distances of the taps with it and without

abbrev pub tells : {A : Type 0} → ℕ → A → Told A
tells n a = record { number = n; value = a }

abbrev pub zeros : Tells
zeros = unmeasured (place 0)

abbrev pub by_misses : Cal → List Point → Misses → Misses → Told Tells
by_misses c ts (known ds) (known before) =
    let told = map tenths_of ds in
    tells 0 (record { cal = c; mean = mean_of told; max = largest told; before = mean_of (map tenths_of before); verdict = judged (judged_by (verdict_of c ts) (largest told)); place = place 0 })
by_misses c ts (known ds) wide = tells 3 zeros
by_misses c ts wide before = tells 3 zeros

abbrev pub by_solution : Result Cal Unsolved → List Aim → List Point → Told Tells
by_solution (Ok c) ps ts = by_misses c ts (misses_of c ps) (misses_of identity ps)
by_solution (Err Unsolved.Few) ps ts = tells 6 zeros
by_solution (Err Unsolved.Line) ps ts = tells 16 zeros
by_solution (Err (Unsolved.Steep p)) ps ts = tells 17 (unmeasured p)

misses-tell : (c : Cal) (ts : List Point) (ms before : Misses) → told_fit (weighed c (spread_by tenths_of ms) (spread_by tenths_of before) (Ok (verdict_of c ts))) ≡ by_misses c ts ms before
misses-tell c ts (known ds) (known d0) = refl
misses-tell c ts (known ds) wide = refl
misses-tell c ts wide before = refl

module _ (ps : List Aim) (ts : List Point) (few : longest <? length ps ≡ false) (few' : longest <? length ts ≡ false) (on : all_on_panel ts ≡ true) where
  pub solution-tells : (s : Result Cal Unsolved) → told_fit (fitted_by tenths_of s ps ts) ≡ by_solution s ps ts
  solution-tells (Ok c) = rw (resid-is ps ts few few' on tenths_of c, resid-is ps ts few few' on tenths_of identity, check-is ps ts few few' on c) (misses-tell c ts (misses_of c ps) (misses_of identity ps))
  solution-tells (Err Unsolved.Few) = refl
  solution-tells (Err Unsolved.Line) = refl
  solution-tells (Err (Unsolved.Steep p)) = refl

-- ---- the residuals and the verdict of a fit that is answered

pub record Measured (rule : Rule) (ps : List Aim) (ts : List Point) (f : Fit) : Type 0 where
  -- the largest distance without a calibration, which a fit does not tell, and the verdict of `check`
  pub most : Tenths
  pub checked : Verdict
  pub after : resid_by rule f.cal ps ≡ Ok (record { mean = f.mean; max = f.max })
  pub before : resid_by rule identity ps ≡ Ok (record { mean = f.before; max = most })
  pub check : check_of f.cal ts ≡ Ok checked
  pub verdict : f.verdict ≡ judged_by checked f.max

pub never : {X : Type 0} (why : Unfit) (f : Fit) → Err why ≡ Ok f → X
never why f e = cc

weighed-back : (rule : Rule) (ps : List Aim) (ts : List Point) (c : Cal) (r r0 : Result Spread Refusal) (k : Result Verdict Refusal) (f : Fit)
    → resid_by rule c ps ≡ r → resid_by rule identity ps ≡ r0 → check_of c ts ≡ k → weighed c r r0 k ≡ Ok f → (c ≡ f.cal) × Measured rule ps ts f
weighed-back rule ps ts c (Ok s) (Ok s0) (Ok v) f p p0 q e =
    let is : fit_with c s s0 v ≡ f = cc in
    subst (λ (g : Fit). (c ≡ g.cal) × Measured rule ps ts g) is (refl, record { most = s0.max; checked = v; after = p; before = p0; check = q; verdict = refl })
weighed-back rule ps ts c (Ok s) (Ok s0) (Err r) f p p0 q e = never (Refused r) f e
weighed-back rule ps ts c (Ok s) (Err r) k f p p0 q e = never (Refused r) f e
weighed-back rule ps ts c (Err r) r0 k f p p0 q e = never (Refused r) f e

fitted-back : (rule : Rule) (ps : List Aim) (ts : List Point) (s : Result Cal Unsolved) (f : Fit) → fitted_by rule s ps ts ≡ Ok f → (s ≡ Ok f.cal) × Measured rule ps ts f
fitted-back rule ps ts (Ok c) f e =
    let m = weighed-back rule ps ts c (resid_by rule c ps) (resid_by rule identity ps) (check_of c ts) f refl refl refl e in
    (ap (λ (k : Cal). Ok k) m.0, m.1)
fitted-back rule ps ts (Err why) f e = never (unfit_of why) f e

answered-inside : (a b : Bool) (r r' : Refusal) (x : Result Fit Unfit) (f : Fit) → (when a then Err (Refused r) else when b then x else Err (Refused r')) ≡ Ok f → x ≡ Ok f
unfolding when◌then◌else◌
answered-inside true b r r' x f e = never (Refused r) f e
answered-inside false true r r' x f e = e
answered-inside false false r r' x f e = never (Refused r') f e

-- the calibration is the solution, its residuals are those of `resid`, its verdict is that of `check`: none of them is made up
pub fit-measured : (rule : Rule) (ps : List Aim) (ts : List Point) (f : Fit) → fit_by rule ps ts ≡ Ok f → (solved_of ps ≡ Ok f.cal) × Measured rule ps ts f
unfolding fit_by
fit-measured rule ps ts f e = fitted-back rule ps ts (solved_of ps) f (answered-inside _ _ _ _ _ f e)
