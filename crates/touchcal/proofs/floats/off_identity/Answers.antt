-- `touchcal::floats::off_identity` meets its contract. Assumes nothing.
use Rattle.std.proofs.Common.{refl}
use lib.Ieee.{of_bits}
use Rattle.touchcal.specs.Floats.{off_identity}
use Rattle.touchcal.proofs.floats.off_identity.Goals as goal

pub returns : goal.returns
unfolding of_bits off_identity
returns c = refl
