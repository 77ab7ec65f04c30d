-- `apart` meets its contract: the larger of the two gaps. Assumes nothing.
use Rattle.panel.specs.Distances.{distance}
use Rattle.panel.proofs.Follow.{follow}
use Rattle.panel.proofs.distances.apart.Goals as goal

pub returns : goal.returns
unfolding distance
returns c = search (follow, c.from.ensures, c.max.ensures, ← c.gap-2.ensures, ← c.gap.ensures)
