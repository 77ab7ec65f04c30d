-- `image::fields::get_point` meets its contract. Assumes nothing.
use Rattle.image.proofs.fields.get_point.Goals as goal

pub returns : goal.returns
returns c = λ i. record { x = c.get2.ensures i; y = c.get2-2.ensures i }
