-- `image::ended::end_number` meets its contract. Assumes nothing.
use mathlib.Core.Path.{sym, ap}
use Rattle.image.specs.Image.{end_number}
use Rattle.image.proofs.ended.end_number.Goals as goal

pub returns-in-None : goal.returns-in-None
unfolding end_number
returns-in-None c = sym (ap end_number c.in-None.is)

pub returns-in-Some : goal.returns-in-Some
unfolding end_number
returns-in-Some c = sym (ap end_number c.in-Some.is)
