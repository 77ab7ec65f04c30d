-- `image::fields::is_flag` meets its contract. Assumes nothing.
use Rattle.panel.proofs.Follow.{follow}
use Rattle.image.specs.code.Numbers.{is_flag}
use Rattle.image.proofs.fields.is_flag.Goals as goal

pub returns : goal.returns
unfolding is_flag
returns c = search (follow, ← c.get1.ensures)
