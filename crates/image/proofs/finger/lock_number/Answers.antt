-- `image::finger::lock_number` meets its contract. Assumes nothing.
use mathlib.Core.Path.{sym, ap, ◌∙◌}
use Prim.Native.Nat.{ℕ, ◌+◌}
use native.Mathlib.Omega.{arith}
use Rattle.image.specs.Image.{lock_number}
use Rattle.image.proofs.Laid.{axis-small}
use Rattle.image.proofs.finger.lock_number.Goals as goal

pub overflow_add-result : goal.overflow_add-result
overflow_add-result c =
    let e = c.from.ensures in
    let small = axis-small c.in-Some.a in
    record { fits = omega (arith, e, small) }

pub returns-in-None : goal.returns-in-None
unfolding lock_number
returns-in-None c = sym (ap lock_number c.in-None.is)

pub returns-in-Some : goal.returns-in-Some
unfolding lock_number
returns-in-Some c = ap (λ (n : ℕ). 1 + n) c.from.ensures ∙ sym (ap lock_number c.in-Some.is)
