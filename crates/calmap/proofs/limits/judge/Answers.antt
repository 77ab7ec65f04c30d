-- `calmap::limits::judge` meets its contract. Assumes nothing.
use Rattle.panel.proofs.Follow.{follow}
use Rattle.calmap.specs.Checks.{verdict_of}
use Rattle.calmap.proofs.limits.judge.Goals as goal

pub returns-then-not-scale_holds : goal.returns-then-not-scale_holds
unfolding verdict_of
returns-then-not-scale_holds c = search (follow, ← c.scale_holds.ensures)

pub returns-then-all_kept : goal.returns-then-all_kept
unfolding verdict_of
returns-then-all_kept c = search (follow, ← c.all_kept.ensures, ← c.scale_holds.ensures)

pub returns-else-all_kept : goal.returns-else-all_kept
unfolding verdict_of
returns-else-all_kept c = search (follow, ← c.all_kept.ensures, ← c.scale_holds.ensures)
