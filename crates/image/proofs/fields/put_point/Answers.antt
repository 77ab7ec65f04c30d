-- `image::fields::put_point` meets its contract. Assumes nothing.
use mathlib.Core.Path.{◌∙◌, ap}
use mathlib.Core.List.{List}
use Prim.Native.Nat.{ℕ, ◌+◌}
use lib.Seq.{sets}
use Rattle.image.specs.Rows.{bytes_of}
use Rattle.image.specs.Image.{point_rows}
use Rattle.image.specs.code.Puts.{puts}
use Rattle.image.proofs.fields.put_point.Goals as goal

pub returns : goal.returns
unfolding puts point_rows
returns c =
    c.put2-2.ensures ∙ ap (λ (area : List ℕ). sets area (c.args.place.at + 2) (bytes_of 2 c.args.p.y)) c.put2.ensures
