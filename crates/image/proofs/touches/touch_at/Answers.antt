-- `image::touches::touch_at` meets its contract. Assumes nothing.
use Rattle.panel.proofs.Follow.{follow}
use Rattle.image.specs.code.Touches.{touch_from, touch_at}
use Rattle.image.proofs.touches.touch_at.Goals as goal

pub returns-then-n-eq0 : goal.returns-then-n-eq0
unfolding touch_from touch_at
returns-then-n-eq0 c = search (follow, ← c.get1-n.ensures)

pub returns-then-n-eq-DOWN : goal.returns-then-n-eq-DOWN
unfolding touch_from touch_at
returns-then-n-eq-DOWN c = search (follow, ← c.get8.ensures, ← c.get_point.ensures, ← c.get1-n.ensures)

pub returns-then-n-eq-MULTI : goal.returns-then-n-eq-MULTI
unfolding touch_from touch_at
returns-then-n-eq-MULTI c =
    search (follow, ← c.pairing_at.ensures, ← c.multi_at.ensures, ← c.get1-n.ensures)

pub returns : goal.returns
unfolding touch_from touch_at
returns c = search (follow, ← c.get1-n.ensures)
