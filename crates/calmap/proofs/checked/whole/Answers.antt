-- `calmap::checked::whole` meets its contract. Assumes nothing.
use mathlib.Core.Path.{ap, ◌∙◌}
use lib.IntN.{ℤ}
use Rattle.calmap.specs.Units.{whole_steps}
use Rattle.calmap.specs.code.Checked.{narrow_of}
use Rattle.calmap.proofs.Signed.{plain}
use Rattle.calmap.proofs.checked.whole.Goals as goal

pub returns : goal.returns
returns c = c.times.ensures ∙ ap (λ (z : ℤ). narrow_of (whole_steps z)) (plain c.ranges.v)
