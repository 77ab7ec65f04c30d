-- `image::fields::get2` meets its contract. Assumes nothing.
use mathlib.Core.Path.{◌∙◌, ap}
use Rattle.std.specs.Int.{w16, from_le_bytes}
use Rattle.image.proofs.Bytes.{read-2}
use Rattle.image.proofs.fields.get2.Goals as goal

pub returns : goal.returns
returns c = c.from_le_bytes.ensures ∙ ap (from_le_bytes w16) c.get.ensures ∙ read-2 _ _
