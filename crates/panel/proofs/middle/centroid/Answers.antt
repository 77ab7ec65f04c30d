-- `centroid` meets its contract: an answer where the points in use are on the panel, and a refusal elsewhere. Assumes nothing.
use Rattle.panel.specs.Centroids.{centroid_of}
use Rattle.panel.proofs.Follow.{follow}
use Rattle.panel.proofs.middle.centroid.Goals as goal

pub returns-then-all_on_panel : goal.returns-then-all_on_panel
unfolding centroid_of
returns-then-all_on_panel c = search (follow, ← c.middle_of.ensures, ← c.all_on_panel.ensures)

pub returns-else-all_on_panel : goal.returns-else-all_on_panel
unfolding centroid_of
returns-else-all_on_panel c = search (follow, ← c.all_on_panel.ensures)
