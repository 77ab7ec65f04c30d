-- `touchcal::fitting::fit_held` meets its contract. Assumes nothing.
use Rattle.panel.proofs.Follow.{follow}
use Rattle.touchcal.specs.code.Arrays.{fit_held}
use Rattle.touchcal.proofs.fitting.fit_held.Goals as goal
use Rattle.touchcal.proofs.fitting.fit_held.Goals.{then-a-via-then-a, then-a-via-else-a+then-t}

pub returns-then-a : goal.returns-then-a
unfolding fit_held
returns-then-a c =
    elim c.then-a.branch [ then-a-via-then-a w ↦ search follow | then-a-via-else-a+then-t w ↦ search follow ]

pub returns : goal.returns
unfolding fit_held
returns c = search (follow, ← c.fit_of.ensures)
