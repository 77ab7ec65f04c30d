-- `image::touches::axis_from` meets its contract. Assumes nothing.
use Rattle.panel.proofs.Follow.{follow}
use Rattle.image.specs.code.Touches.{axis_from}
use Rattle.image.proofs.touches.axis_from.Goals as goal

pub returns-then-n-eq0 : goal.returns-then-n-eq0
unfolding axis_from
returns-then-n-eq0 c = search follow

pub returns-else-n-eq0 : goal.returns-else-n-eq0
unfolding axis_from
returns-else-n-eq0 c = search follow
