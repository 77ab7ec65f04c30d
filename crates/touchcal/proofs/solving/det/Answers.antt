-- `touchcal::solving::det` meets its contract. Assumes nothing.
use Rattle.std.proofs.Common.{refl}
use Rattle.touchcal.specs.Solutions.{det_of}
use Rattle.touchcal.proofs.solving.det.Goals as goal

pub returns : goal.returns
unfolding det_of
returns c = refl
