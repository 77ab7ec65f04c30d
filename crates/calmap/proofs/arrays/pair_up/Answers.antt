-- `calmap::arrays::pair_up` meets its contract. Assumes nothing.
use mathlib.Core.Path.{sym, ◌∙◌}
use Rattle.panel.proofs.Follow.{and-true, and-false}
use Rattle.calmap.specs.code.Arrays.{pair_up}
use Rattle.calmap.proofs.arrays.pair_up.Goals as goal

pub returns-then-a : goal.returns-then-a
unfolding pair_up
returns-then-a c =
    let a = c.args in
    λ i. record { list = c.side_by_side.ensures i; n = c.min.ensures i; long = sym (and-true a.a.long a.b.long c.if-a.true) i }

pub returns-else-a : goal.returns-else-a
unfolding pair_up
returns-else-a c =
    let a = c.args in
    λ i. record { list = c.side_by_side.ensures i; n = c.min.ensures i; long = (c.if-a.false ∙ sym (and-false a.a.long a.b.long c.if-a.false)) i }
