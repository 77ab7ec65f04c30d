-- `calmap::checked::times` meets its contract. Assumes nothing.
use lib.IntN.{◌*ℤ◌}
use Rattle.calmap.specs.Units.{steps}
use Rattle.calmap.specs.code.Checked.{narrow_of}
use Rattle.calmap.proofs.Chains.{checked-some, checked-none}
use Rattle.calmap.proofs.Signed.{plain}
use Rattle.calmap.proofs.checked.times.Goals as goal

pub returns-in_err-checked_mul : goal.returns-in_err-checked_mul
unfolding narrow_of
returns-in_err-checked_mul c =
    rw c.from_residual.ensures (checked-none steps (λ i. plain c.ranges.a i *ℤ plain c.ranges.b i) c.in_err-checked_mul.ensures)

pub returns : goal.returns
unfolding narrow_of
returns c =
    checked-some steps (λ i. plain c.ranges.a i *ℤ plain c.ranges.b i) c.in_ok-checked_mul.ensures
