-- `image::fields::put_flag` meets its contract. Assumes nothing.
use Prim.Native.Nat.{ℕ}
use mathlib.Core.Path.{◌∙◌, ap}
use lib.Seq.{sets}
use Rattle.image.specs.Rows.{bytes_of}
use Rattle.image.proofs.fields.put_flag.Goals as goal

pub returns : goal.returns
returns c =
    c.put1.ensures ∙ ap (λ (n : ℕ). sets c.args.image.now c.args.place.at (bytes_of 1 n)) c.bit.ensures
