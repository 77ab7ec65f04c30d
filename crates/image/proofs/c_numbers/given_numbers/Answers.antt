-- `image::c_numbers::given_numbers` meets its contract. Assumes nothing.
use mathlib.Core.Path.{sym, ◌∙◌, ap}
use Rattle.image.specs.Numbers.{given_numbers}
use Rattle.image.proofs.c_numbers.given_numbers.Goals as goal

pub returns-in-None : goal.returns-in-None
unfolding given_numbers
returns-in-None c = c.alone.ensures ∙ sym (ap given_numbers c.in-None.is)

pub returns-in-Some : goal.returns-in-Some
unfolding given_numbers
returns-in-Some c = c.gesture_numbers.ensures ∙ sym (ap given_numbers c.in-Some.is)
