-- `calmap::limits::scale_holds` meets its contract. Assumes nothing.
use native.Mathlib.Omega.{arith}
use Rattle.std.proofs.lemmas.Grind.{common_steps}
use Rattle.panel.specs.Tests.{◌and◌}
use Rattle.calmap.specs.Checks.{scale_holds}
use Rattle.calmap.proofs.limits.scale_holds.Goals as goal

pub returns-then-is_mild-3 : goal.returns-then-is_mild-3
unfolding scale_holds ◌and◌
returns-then-is_mild-3 c = grind (arith, common_steps)

pub returns-else-is_mild-3 : goal.returns-else-is_mild-3
unfolding scale_holds ◌and◌
returns-else-is_mild-3 c = grind (arith, common_steps)
