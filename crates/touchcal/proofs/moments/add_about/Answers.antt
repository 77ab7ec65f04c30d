-- `touchcal::moments::add_about` meets its contract. Assumes nothing.
use Rattle.touchcal.specs.Moments.{add_about}
use Rattle.touchcal.proofs.moments.add_about.Goals as goal

pub returns : goal.returns
unfolding add_about
returns c = cc
