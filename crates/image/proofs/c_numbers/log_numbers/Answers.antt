-- `image::c_numbers::log_numbers` meets its contract. Assumes nothing.
use mathlib.Core.Path.{sym, ◌∙◌, ap}
use Rattle.image.specs.Numbers.{log_numbers}
use Rattle.image.proofs.c_numbers.log_numbers.Goals as goal

pub returns-in-None : goal.returns-in-None
unfolding log_numbers
returns-in-None c = sym (ap log_numbers c.in-None.is)

pub returns-in-Some : goal.returns-in-Some
unfolding log_numbers
returns-in-Some c =
    let l = c.in-Some.l in
    (λ i. record { letter = c.from.ensures i; argument = c.from-in-Some.ensures i; x = c.from-in-Some-2.ensures i; y = c.from-in-Some-3.ensures i; time = l.time }) ∙ sym (ap log_numbers c.in-Some.is)
