-- `image::finger::one_at` meets its contract. Assumes nothing.
use mathlib.Core.Path.{◌∙◌, ap}
use Rattle.image.specs.code.Finger.{lock_from, one_at}
use Rattle.image.proofs.finger.one_at.Goals as goal

pub returns : goal.returns
unfolding one_at
returns c =
    λ i. record { last = c.get_point.ensures i; moved = c.get_flag.ensures i; far = c.get2.ensures i; axis = (c.lock_from.ensures ∙ ap lock_from c.get1.ensures) i; long_sent = c.get_flag-2.ensures i; grabbed = c.get_flag-3.ensures i; early = c.get_flag-4.ensures i }
