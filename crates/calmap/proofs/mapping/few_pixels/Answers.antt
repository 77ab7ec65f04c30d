-- `calmap::mapping::few_pixels` meets its contract. Assumes nothing.
use mathlib.Core.Path.{ap, ◌∙◌}
use lib.IntN.{ℤ}
use mir.Syntax.{w32}
use mir.Val.{to_z, of_z}
use Rattle.calmap.specs.code.Checked.{few_pixels}
use Rattle.calmap.proofs.Signed.{plain, range-is}
use Rattle.calmap.proofs.mapping.few_pixels.Goals as goal

pub returns : goal.returns
unfolding few_pixels
returns c = c.contains.ensures.value ∙ range-is 8191 (to_z w32 (of_z w32 c.args.v)) ∙ ap (λ (z : ℤ). few_pixels z) (plain c.ranges.v)
