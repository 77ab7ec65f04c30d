-- `fit`.
--
-- "4 LONG: over 64 pairs in use, or over 64 targets; 5 TARGET: a target off the panel; 6 NOFIT: Rust `fit` answers `None`;
-- 3 WIDE: a 32-bit value or sum named below does not fit". Order: "LONG, TARGET, NOFIT, WIDE in `fit`". "Verdict: Scale,
-- Shift, then Resid if max > 250." Mean, max and before are those of `resid`, Scale and Shift those of `check`. Document 02,
-- [2]: NOFIT divides, "6 becomes FEW, 16 LINE, 17 STEEP, in that order, after TARGET and before WIDE; STEEP alone carries a
-- value, the coefficient's place". It is stated over the rule of tenths that `resid` goes by (calmap's Distances).
use Rattle.std.specs.Prelude.{List, length, Result, Ok, Err}
use Rattle.panel.specs.Tests.{when◌then◌else◌, ◌or◌, ◌<?◌}
use Rattle.panel.specs.Points.{all_on_panel}
use Rattle.panel.specs.Refusals.{Told, answered, refused}
use Rattle.panel.specs.declared.points.Point.{Point}
use Rattle.calmap.specs.Sizes.{longest}
use Rattle.calmap.specs.Units.{tenths, over}
use Rattle.calmap.specs.Distances.{Rule, tenths_of}
use Rattle.calmap.specs.Resids.{resid_by}
use Rattle.calmap.specs.Checks.{check_of, Judged, none, judged}
use Rattle.calmap.specs.declared.units.Cal.{Cal}
use Rattle.calmap.specs.declared.units.Aim.{Aim}
use Rattle.calmap.specs.declared.units.Tenths.{Tenths}
use Rattle.calmap.specs.declared.residuals.Spread.{Spread}
use Rattle.calmap.specs.declared.limits.Verdict.{Verdict}
use Rattle.touchcal.specs.Sizes.{resid_limit}
use Rattle.touchcal.specs.Floats.{identity}
use Rattle.touchcal.specs.Solutions.{place, solved_of}
use Rattle.touchcal.specs.declared.floats.CoefPlace.{CoefPlace}
use Rattle.touchcal.specs.declared.solving.Unsolved.{Unsolved}
use Rattle.touchcal.specs.declared.fitting.Fit.{Fit}
use Rattle.touchcal.specs.declared.fitting.Unfit.{Unfit}
use Rattle.touchcal.specs.declared.fitting.Unfit.TheVariants.{Refused, Steep}
use Rattle.panel.specs.declared.refusals.Refusal.{Refusal}

-- the verdict of `check`, and then the residuals
abbrev pub judged_by : Verdict → Tenths → Verdict
judged_by Verdict.Pass max = when over resid_limit max then Verdict.Resid else Verdict.Pass
judged_by Verdict.Scale max = Verdict.Scale
judged_by Verdict.Shift max = Verdict.Shift
judged_by Verdict.Resid max = Verdict.Resid

-- a calibration with its residuals, those without it, and the verdict of `check`
abbrev pub fit_with : Cal → Spread → Spread → Verdict → Fit
fit_with c after before v =
    record { cal = c; mean = after.mean; max = after.max; before = before.mean; verdict = judged_by v after.max }

abbrev pub weighed : Cal → Result Spread Refusal → Result Spread Refusal → Result Verdict Refusal → Result Fit Unfit
weighed c (Ok s) (Ok s0) (Ok v) = Ok (fit_with c s s0 v)
weighed c (Ok s) (Ok s0) (Err r) = Err (Refused r)
weighed c (Ok s) (Err r) k = Err (Refused r)
weighed c (Err r) before k = Err (Refused r)

-- what says that there is no solution
abbrev pub unfit_of : Unsolved → Unfit
unfit_of Unsolved.Few = Refused Refusal.Few
unfit_of Unsolved.Line = Refused Refusal.Line
unfit_of (Unsolved.Steep p) = Steep p

-- what is solved is measured and judged; where the Rust says `None`, it is said why
abbrev pub fitted_by : Rule → Result Cal Unsolved → List Aim → List Point → Result Fit Unfit
fitted_by rule (Ok c) ps ts = weighed c (resid_by rule c ps) (resid_by rule identity ps) (check_of c ts)
fitted_by rule (Err why) ps ts = Err (unfit_of why)

unfoldable pub fit_by : Rule → List Aim → List Point → Result Fit Unfit
fit_by rule ps ts =
    when longest <? length ps or longest <? length ts then Err (Refused Refusal.Long)
    else when all_on_panel ts then fitted_by rule (solved_of ps) ps ts
    else Err (Refused Refusal.Target)

-- by the rule of the calls
abbrev pub fit_of : List Aim → List Point → Result Fit Unfit
fit_of = fit_by tenths_of

-- what a fit tells; zeros and no verdict for a refusal, but that STEEP tells a place
pub record Tells : Type 0 where
  pub cal : Cal
  pub mean : Tenths
  pub max : Tenths
  pub before : Tenths
  pub verdict : Judged
  pub place : CoefPlace

abbrev pub unmeasured : CoefPlace → Tells
unmeasured p = record { cal = identity; mean = tenths 0; max = tenths 0; before = tenths 0; verdict = none; place = p }

abbrev pub told_fit : Result Fit Unfit → Told Tells
told_fit (Ok f) =
    answered (record { cal = f.cal; mean = f.mean; max = f.max; before = f.before; verdict = judged f.verdict; place = place 0 })
told_fit (Err (Refused r)) = refused r (unmeasured (place 0))
told_fit (Err (Steep p)) = refused Refusal.Steep (unmeasured p)
