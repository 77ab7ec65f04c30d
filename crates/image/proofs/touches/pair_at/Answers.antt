-- `image::touches::pair_at` meets its contract. Assumes nothing.
use mathlib.Core.Path.{◌∙◌, ap}
use Rattle.image.specs.code.Touches.{axis_from, pair_at}
use Rattle.image.proofs.touches.pair_at.Goals as goal

pub returns : goal.returns
unfolding pair_at
returns c =
    λ i. record { a = c.get_point.ensures i; b = c.get_point-2.ensures i; axis = (c.axis_from.ensures ∙ ap axis_from c.get1.ensures) i; span0 = c.get2.ensures i; c0 = c.get_point-3.ensures i; state = c.get1-2.ensures i }
