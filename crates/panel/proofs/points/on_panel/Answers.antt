-- `on_panel` meets its contract: both coordinates below their limits. Assumes nothing.
use Rattle.panel.specs.Points.{on_panel}
use Rattle.panel.proofs.Follow.{follow}
use Rattle.panel.proofs.points.on_panel.Goals as goal

pub returns-then-p-lt-WIDTH : goal.returns-then-p-lt-WIDTH
unfolding on_panel
returns-then-p-lt-WIDTH c = search follow

pub returns-else-p-lt-WIDTH : goal.returns-else-p-lt-WIDTH
unfolding on_panel
returns-else-p-lt-WIDTH c = search follow
