-- `calmap::mapping::in_i16` meets its contract. Assumes nothing.
use mathlib.Core.Path.{ap, ◌∙◌}
use lib.IntN.{ℤ}
use mir.Syntax.{w32}
use mir.Val.{to_z, of_z}
use Rattle.calmap.specs.Wide.{in16}
use Rattle.calmap.proofs.Signed.{plain, range-is}
use Rattle.calmap.proofs.mapping.in_i16.Goals as goal

pub returns : goal.returns
unfolding in16
returns c = c.contains.ensures.value ∙ range-is 32767 (to_z w32 (of_z w32 c.args.v)) ∙ ap (λ (z : ℤ). in16 z) (plain c.ranges.v)
