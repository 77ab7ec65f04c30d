-- The contracts leave no second answer: panel's `one_answer`, a line for each public function. Assumes nothing.
use Rattle.std.specs.Prelude.{Result}
use Prim.Native.Nat.{ℕ}
use mathlib.Core.Path.{◌≡◌}
use mathlib.Core.List.{List}
use Rattle.panel.proofs.Promises.{one_answer}
use Rattle.panel.specs.declared.points.Point.{Point}
use Rattle.calmap.specs.Distances.{dist10_by}
use Rattle.calmap.specs.Resids.{resid_first_by}
use Rattle.calmap.specs.declared.units.Aim.{Aim}
use Rattle.calmap.specs.declared.units.Cal.{Cal}
use Rattle.calmap.specs.declared.units.Sixteenths.{Sixteenths}
use Rattle.touchcal.specs.code.Arrays.{fit_first_by}
use Rattle.touchcal.specs.declared.fitting.Fit.{Fit}
use Rattle.touchcal.specs.declared.fitting.Unfit.{Unfit}
use Rattle.oldtenths.specs.OldTenths.{old_tenths_of}
use Rattle.calmap.specs.declared.residuals.Spread.{Spread}
use Rattle.panel.specs.declared.refusals.Refusal.{Refusal}
use Rattle.calmap.specs.declared.units.Tenths.{Tenths}

pub old-tenths-unique : (d2 : ℕ) {r s : Tenths} → r ≡ old_tenths_of d2 → s ≡ old_tenths_of d2 → r ≡ s
old-tenths-unique d2 = one_answer

pub old-dist10-unique : (ax ay bx by : Sixteenths) {r s : Result Tenths Refusal} → r ≡ dist10_by old_tenths_of ax ay bx by → s ≡ dist10_by old_tenths_of ax ay bx by → r ≡ s
old-dist10-unique ax ay bx by = one_answer

pub old-resid-of-unique : (c : Cal) (n : ℕ) (ps : List Aim) {r s : Result Spread Refusal} → r ≡ resid_first_by old_tenths_of c n ps → s ≡ resid_first_by old_tenths_of c n ps → r ≡ s
old-resid-of-unique c n ps = one_answer

pub old-fit-of-unique : (n : ℕ) (ps : List Aim) (m : ℕ) (ts : List Point) {r s : Result Fit Unfit} → r ≡ fit_first_by old_tenths_of n ps m ts → s ≡ fit_first_by old_tenths_of n ps m ts → r ≡ s
old-fit-of-unique n ps m ts = one_answer
