-- `image::touches::pairing_at` meets its contract. Assumes nothing.
use Rattle.panel.proofs.Follow.{follow}
use Rattle.image.specs.code.Touches.{pairing_from}
use Rattle.image.proofs.touches.pairing_at.Goals as goal

pub returns-then-n-eq0 : goal.returns-then-n-eq0
unfolding pairing_from
returns-then-n-eq0 c = search (follow, ← c.get1-n.ensures)

pub returns : goal.returns
unfolding pairing_from
returns c = search (follow, ← c.get1-n.ensures, ← c.pair_at.ensures)
