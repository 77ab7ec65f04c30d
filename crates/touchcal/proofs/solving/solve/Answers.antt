-- `touchcal::solving::solve` meets its contract. Assumes nothing.
use Rattle.std.proofs.Common.{rules}
use Rattle.panel.proofs.Follow.{follow}
use Rattle.touchcal.specs.Solutions.{solved_of}
use Rattle.touchcal.proofs.solving.solve.Goals as goal

pub returns-then-pairs-lt-FEWEST : goal.returns-then-pairs-lt-FEWEST
unfolding solved_of
returns-then-pairs-lt-FEWEST c = search follow

pub returns-then-not-is_spread : goal.returns-then-not-is_spread
unfolding solved_of
returns-then-not-is_spread c = search (follow, ← c.moments_of-w.ensures, ← c.is_spread.ensures)

pub returns : goal.returns
unfolding solved_of
returns c = let h = c.map_err.ensures.cases in search (rules, follow, ← c.moments_of-w.ensures, ← c.is_spread.ensures, ← c.plane.ensures, ← c.deltas.ensures, ← c.in_steps.ensures)
