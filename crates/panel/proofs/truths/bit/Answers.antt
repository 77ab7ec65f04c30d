-- `bit` meets its contract. Assumes nothing.
use Rattle.panel.proofs.Follow.{follow}
use Rattle.panel.specs.Tests.{bit}
use Rattle.panel.proofs.truths.bit.Goals as goal

pub returns : goal.returns
unfolding bit
returns c = search (follow, c.from.ensures)
