-- `check` of what is held is that of the list (`check-of-held` of proofs/Holding.antt). Assumes nothing.
use mathlib.Core.Path.{ap, ◌∙◌}
use Rattle.calmap.specs.code.Arrays.{check_held}
use Rattle.calmap.proofs.Holding.{check-of-held}
use Rattle.calmap.proofs.lists.check.Goals as goal

pub returns : goal.returns
returns c = c.check_held.ensures ∙ ap (check_held c.args.c) c.points_of.ensures ∙ check-of-held c.args.c c.args.targets.now
