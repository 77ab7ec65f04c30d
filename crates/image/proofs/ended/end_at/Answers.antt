-- `image::ended::end_at` meets its contract. Assumes nothing.
use Rattle.panel.proofs.Follow.{follow}
use Rattle.image.specs.code.Ended.{end_from}
use Rattle.image.proofs.ended.end_at.Goals as goal

pub returns-then-n-eq0 : goal.returns-then-n-eq0
unfolding end_from
returns-then-n-eq0 c = search (follow, ← c.get1-n.ensures)

pub returns : goal.returns
unfolding end_from
returns c = search (follow, ← c.get1-n.ensures, ← c.get8.ensures)
