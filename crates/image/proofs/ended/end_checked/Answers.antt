-- `image::ended::end_checked` meets its contract. Assumes nothing.
use Rattle.panel.proofs.Follow.{follow}
use Rattle.image.specs.code.Numbers.{is_zero}
use Rattle.image.specs.code.Ended.{end_checked}
use Rattle.image.proofs.ended.end_checked.Goals as goal

pub returns-then-n-eq0 : goal.returns-then-n-eq0
unfolding end_checked is_zero
returns-then-n-eq0 c = search (follow, ← c.is_zero8.ensures, ← c.get1-n.ensures)

pub returns : goal.returns
unfolding end_checked is_zero
returns c = search (follow, ← c.get1-n.ensures)
