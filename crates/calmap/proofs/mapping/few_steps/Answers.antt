-- `calmap::mapping::few_steps` meets its contract. Assumes nothing.
use mathlib.Core.Path.{◌∙◌}
use Rattle.calmap.specs.code.Checked.{few_steps}
use Rattle.calmap.proofs.Signed.{range-is}
use Rattle.calmap.proofs.mapping.few_steps.Goals as goal

pub returns : goal.returns
unfolding few_steps
returns c = c.contains.ensures.value ∙ range-is 536870911 c.args.q.0
