-- `image::fields::put` meets its contract. Assumes nothing.
use mathlib.Core.Path.{◌∙◌}
use native.Mathlib.Omega.{arith}
use borrow.Rule.Slice.PartMut.{mid_len}
use Rattle.image.proofs.Bytes.{put-at}
use Rattle.image.proofs.fields.put.Goals as goal

pub returns : goal.returns
returns g c =
    put-at _ _ _ _ _ (omega arith) (c.copy_from_slice.ensures.len ∙ mid_len c.args.place.at _ c.args.image.now (omega arith) ∙ omega arith) c.copy_from_slice.ensures.after
