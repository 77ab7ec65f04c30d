-- `touchcal::fitting::cal_or_identity` meets its contract. Assumes nothing.
use Rattle.std.specs.Prelude.{Result, Ok, Err}
use Rattle.std.proofs.Common.{◌≡◌, refl}
use Rattle.std.specs.Result.{result_unwrap_or}
use Rattle.calmap.specs.declared.units.Cal.{Cal}
use Rattle.touchcal.specs.Floats.{identity}
use Rattle.touchcal.specs.code.Arrays.{cal_or_identity}
use Rattle.touchcal.specs.declared.solving.Unsolved.{Unsolved}
use Rattle.touchcal.proofs.fitting.cal_or_identity.Goals as goal

found : (s : Result Cal Unsolved) → result_unwrap_or s identity ≡ cal_or_identity s
unfolding cal_or_identity
found (Ok c) = refl
found (Err why) = refl

pub returns : goal.returns
returns c = rw (c.unwrap_or.ensures, c.no_cal.ensures) (found c.args.s)
