-- `gap` meets its contract. Assumes nothing.
use borrow.Author.Rules.{rules}
use Rattle.panel.specs.Distances.{difference}
use Rattle.panel.proofs.distances.gap.Goals as goal

pub returns : goal.returns
unfolding difference
returns c = search rules
