-- `image::fields::get8` meets its contract. Assumes nothing.
use mathlib.Core.Path.{◌∙◌, ap}
use Rattle.std.specs.Int.{w64, from_le_bytes}
use Rattle.image.proofs.Bytes.{read-8}
use Rattle.image.proofs.fields.get8.Goals as goal

pub returns : goal.returns
returns c = c.from_le_bytes.ensures ∙ ap (from_le_bytes w64) c.get.ensures ∙ read-8 _ _
