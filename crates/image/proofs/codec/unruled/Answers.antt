-- `image::codec::unruled` meets its contract. Assumes nothing.
use mathlib.Core.Path.{sym, ◌∙◌}
use Rattle.image.proofs.Codecs.{found-answers, found-fails}
use Rattle.image.proofs.codec.unruled.Goals as goal

pub returns-then-is_image : goal.returns-then-is_image
returns-then-is_image c =
    found-answers _ c.told-image c.fits-image _ c.tracker_at.ensures (sym c.is_image.ensures ∙ c.if-is_image.true)

pub returns-else-is_image : goal.returns-else-is_image
returns-else-is_image c =
    found-fails _ c.told-image c.fits-image (sym c.is_image.ensures ∙ c.if-is_image.false)
