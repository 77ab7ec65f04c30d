-- `calmap::mapping::both_fit` meets its contract. Assumes nothing.
use native.Mathlib.Omega.{arith}
use Rattle.std.proofs.lemmas.Grind.{common_steps}
use Rattle.panel.specs.Tests.{◌and◌}
use Rattle.calmap.specs.code.Checked.{both_fit, map_fits}
use Rattle.calmap.proofs.Signed.{plain}
use Rattle.calmap.proofs.mapping.both_fit.Goals as goal

pub returns-then-line_fits : goal.returns-then-line_fits
unfolding map_fits both_fit ◌and◌
returns-then-line_fits c = grind (arith, common_steps, plain c.ranges.x, plain c.ranges.y)

pub returns-else-line_fits : goal.returns-else-line_fits
unfolding map_fits both_fit ◌and◌
returns-else-line_fits c = grind (arith, common_steps, plain c.ranges.x, plain c.ranges.y)
