-- `image::finger::app_at` meets its contract. Assumes nothing.
use Rattle.image.specs.code.Finger.{app_at}
use Rattle.image.proofs.finger.app_at.Goals as goal

pub returns : goal.returns
unfolding app_at
returns c = λ i. record { captured = c.get_flag.ensures i; raw = c.get_flag-2.ensures i; direct = c.get_flag-3.ensures i }
