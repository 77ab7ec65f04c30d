-- `touchcal::moments::shared` meets its contract. Assumes nothing.
use Rattle.std.proofs.Common.{◌^◌, refl, arith, le→leb}
use lib.Ieee.{in_float}
use lib.Ieee.{of_bits}
use Rattle.touchcal.specs.Moments.{shared_of}
use Rattle.touchcal.proofs.moments.shared.Goals as goal

pub int_to_float-nf : goal.int_to_float-nf
unfolding in_float
int_to_float-nf c = le→leb c.args.n (2 ^ 24) (omega arith)

pub returns : goal.returns
unfolding of_bits shared_of
returns c = refl
