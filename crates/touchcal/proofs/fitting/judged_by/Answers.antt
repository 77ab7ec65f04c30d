-- `touchcal::fitting::judged_by` meets its contract. Assumes nothing.
use Rattle.panel.proofs.Follow.{follow}
use Rattle.touchcal.proofs.fitting.judged_by.Goals as goal

pub returns-in-Pass : goal.returns-in-Pass
returns-in-Pass c = search (follow, c.in-Pass.is, ← c.is_over.ensures)

pub returns-in_default : goal.returns-in_default
returns-in_default c = search (follow, c.in-Pass.is, ← c.is_over.ensures)
