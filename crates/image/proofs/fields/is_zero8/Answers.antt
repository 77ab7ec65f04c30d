-- `image::fields::is_zero8` meets its contract. Assumes nothing.
use Rattle.panel.proofs.Follow.{follow}
use Rattle.image.specs.code.Numbers.{is_zero}
use Rattle.image.proofs.fields.is_zero8.Goals as goal

pub returns : goal.returns
unfolding is_zero
returns c = search (follow, ← c.get8.ensures)
