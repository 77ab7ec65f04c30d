-- `touchcal::solving::deltas` meets its contract. Assumes nothing.
use Rattle.std.proofs.Common.{refl}
use lib.Ieee.{of_bits}
use Rattle.touchcal.specs.Solutions.{deltas_of}
use Rattle.touchcal.proofs.solving.deltas.Goals as goal

pub returns : goal.returns
unfolding of_bits deltas_of
returns c = refl
