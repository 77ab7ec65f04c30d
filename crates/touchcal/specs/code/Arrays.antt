-- `fit` of arrays by value with counts, and of what calmap holds of lent lists. proofs/Firsts.antt has that `fit` of what is
-- held is that of the lists (`fit-of-held`).
use Rattle.std.specs.Prelude.{ℕ, List, take, Result, Ok, Err}
use Rattle.panel.specs.Tests.{when◌then◌else◌, ◌or◌, ◌<?◌}
use Rattle.panel.specs.declared.points.Point.{Point}
use Rattle.panel.specs.declared.refusals.Refusal.TheVariants.{Long}
use Rattle.calmap.specs.Distances.{Rule, tenths_of}
use Rattle.calmap.specs.Sizes.{longest}
use Rattle.calmap.specs.declared.units.Cal.{Cal}
use Rattle.calmap.specs.declared.units.Aim.{Aim}
use Rattle.calmap.specs.declared.arrays.Held.{Held}
use Rattle.touchcal.specs.Floats.{identity}
use Rattle.touchcal.specs.Fits.{fit_by}
use Rattle.touchcal.specs.declared.solving.Unsolved.{Unsolved}
use Rattle.touchcal.specs.declared.fitting.Fit.{Fit}
use Rattle.touchcal.specs.declared.fitting.Unfit.{Unfit}
use Rattle.touchcal.specs.declared.fitting.Unfit.TheVariants.{Refused}

-- the calibration that was found, or none
unfoldable pub cal_or_identity : Result Cal Unsolved → Cal
cal_or_identity (Ok c) = c
cal_or_identity (Err why) = identity

-- the first n pairs and the first m targets, of arrays that hold 64
unfoldable pub fit_first_by : Rule → ℕ → List Aim → ℕ → List Point → Result Fit Unfit
fit_first_by rule n ps m ts =
    when longest <? n or longest <? m then Err (Refused Long)
    else fit_by rule (take n ps) (take m ts)

abbrev pub fit_first : ℕ → List Aim → ℕ → List Point → Result Fit Unfit
fit_first = fit_first_by tenths_of

unfoldable pub fit_held : Held Aim → Held Point → Result Fit Unfit
fit_held a t =
    when a.long or t.long then Err (Refused Long)
    else fit_first a.n a.list t.n t.list
