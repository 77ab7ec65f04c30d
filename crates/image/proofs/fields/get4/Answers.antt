-- `image::fields::get4` meets its contract. Assumes nothing.
use mathlib.Core.Path.{◌∙◌, ap}
use Rattle.std.specs.Int.{w32, from_le_bytes}
use Rattle.image.proofs.Bytes.{read-4}
use Rattle.image.proofs.fields.get4.Goals as goal

pub returns : goal.returns
returns c = c.from_le_bytes.ensures ∙ ap (from_le_bytes w32) c.get.ensures ∙ read-4 _ _
