-- `calmap::arrays::check_held` meets its contract. Assumes nothing.
use mathlib.Core.Path.{sym, ◌∙◌}
use Rattle.panel.proofs.Follow.{if-true, if-false}
use Rattle.calmap.specs.code.Arrays.{check_held}
use Rattle.calmap.proofs.arrays.check_held.Goals as goal

pub returns-then-a : goal.returns-then-a
unfolding check_held
returns-then-a c = sym (if-true _ _ _ c.if-a.true)

pub returns : goal.returns
unfolding check_held
returns c = c.check_of.ensures ∙ sym (if-false _ _ _ c.if-a.false)
