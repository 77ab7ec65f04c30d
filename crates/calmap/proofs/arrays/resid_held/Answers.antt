-- `calmap::arrays::resid_held` meets its contract. Assumes nothing.
use mathlib.Core.Path.{sym, ◌∙◌}
use Rattle.panel.proofs.Follow.{if-true, if-false}
use Rattle.calmap.specs.code.Arrays.{resid_held}
use Rattle.calmap.proofs.arrays.resid_held.Goals as goal

pub returns-then-a : goal.returns-then-a
unfolding resid_held
returns-then-a c = sym (if-true _ _ _ c.if-a.true)

pub returns : goal.returns
unfolding resid_held
returns c = c.resid_of.ensures ∙ sym (if-false _ _ _ c.if-a.false)
