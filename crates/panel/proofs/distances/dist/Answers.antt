-- `dist` meets its contract: an answer where both points are on the panel, and a refusal elsewhere. Assumes nothing.
use Rattle.panel.specs.Distances.{dist_of}
use Rattle.panel.proofs.Follow.{follow}
use Rattle.panel.proofs.distances.dist.Goals as goal
use Rattle.panel.proofs.distances.dist.Goals.{else-on_panel-via-then-on_panel+else-on_panel-2, else-on_panel-via-else-on_panel}

pub returns-then-on_panel-2 : goal.returns-then-on_panel-2
unfolding dist_of
returns-then-on_panel-2 c = search (follow, ← c.apart.ensures, ← c.on_panel-then-on_panel.ensures, ← c.on_panel.ensures)

pub returns-else-on_panel : goal.returns-else-on_panel
unfolding dist_of
returns-else-on_panel c = elim c.else-on_panel.branch [
  | else-on_panel-via-then-on_panel+else-on_panel-2 w ↦ search (follow, ← w.on_panel-then-on_panel.ensures, ← c.on_panel.ensures)
  | else-on_panel-via-else-on_panel w ↦ search (follow, ← c.on_panel.ensures)
]
