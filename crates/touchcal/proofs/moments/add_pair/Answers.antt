-- `touchcal::moments::add_pair` meets its contract. Assumes nothing.
use Rattle.touchcal.specs.Moments.{add_pair}
use Rattle.touchcal.proofs.moments.add_pair.Goals as goal

pub returns : goal.returns
unfolding add_pair
returns c = cc
