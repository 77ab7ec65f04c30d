-- `touchcal::moments::moments_of` meets its contract. Assumes nothing.
use Rattle.touchcal.specs.Moments.{moments_of}
use Rattle.touchcal.proofs.moments.moments_of.Goals as goal

pub returns : goal.returns
unfolding moments_of
returns c = cc
