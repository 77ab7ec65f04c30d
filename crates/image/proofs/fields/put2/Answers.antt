-- `image::fields::put2` meets its contract. Assumes nothing.
use mathlib.Core.Path.{◌∙◌, ap}
use lib.Seq.{sets}
use Rattle.image.proofs.Bytes.{bytes-2}
use Rattle.image.proofs.fields.put2.Goals as goal

pub returns : goal.returns
returns c =
    c.put.ensures ∙ ap (sets c.args.image.now c.args.place.at) (c.to_le_bytes.ensures ∙ bytes-2 c.args.v)
