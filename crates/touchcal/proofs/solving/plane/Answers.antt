-- `touchcal::solving::plane` meets its contract. Assumes nothing.
use Rattle.touchcal.specs.Solutions.{coefs_of}
use Rattle.touchcal.proofs.solving.plane.Goals as goal

pub returns : goal.returns
unfolding coefs_of
returns c = cc
