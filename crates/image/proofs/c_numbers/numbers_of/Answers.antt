-- `image::c_numbers::numbers_of` meets its contract. Assumes nothing.
use Rattle.image.specs.Numbers.{listed, numbers_of}
use Rattle.image.proofs.c_numbers.numbers_of.Goals as goal

pub returns : goal.returns
unfolding numbers_of
returns c = λ i. listed (c.given_numbers-g.ensures i) (c.log_numbers-l.ensures i)
