-- `image::touches::multi_at` meets its contract. Assumes nothing.
use Rattle.image.specs.code.Touches.{multi_at}
use Rattle.image.proofs.touches.multi_at.Goals as goal

pub returns : goal.returns
unfolding multi_at
returns c = λ i. record { n = c.get1.ensures i; c0 = c.get_point.ensures i; t0 = c.get8.ensures i; c1 = c.get_point-2.ensures i; t1 = c.get8-2.ensures i }
