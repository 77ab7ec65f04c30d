-- `image::fields::get1` meets its contract. Assumes nothing.
use Rattle.image.proofs.Bytes.{read-1}
use Rattle.image.proofs.fields.get1.Goals as goal

pub returns : goal.returns
returns c = read-1 _ _
