-- `fingers_of` meets its contract: the smaller of the count and five. Assumes nothing.
use borrow.Author.Rules.{rules}
use Rattle.panel.specs.Points.{fingers}
use Rattle.panel.proofs.points.fingers_of.Goals as goal

pub returns : goal.returns
unfolding fingers
returns c = search rules
