-- `image::fields::put1` meets its contract. Assumes nothing.
use mathlib.Core.Path.{◌∙◌, ap}
use native.Mathlib.Omega.{arith}
use lib.Seq.{sets}
use Rattle.image.proofs.Bytes.{bytes-1}
use Rattle.image.proofs.fields.put1.Goals as goal

pub returns : goal.returns
returns c =
    c.put.ensures ∙ ap (sets c.args.image.now c.args.place.at) (bytes-1 c.args.v (omega arith))
