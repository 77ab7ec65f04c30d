-- `axis_along` meets its contract: each answer by the tests that led to it. Assumes nothing.
use Rattle.panel.specs.Axes.{axis_of}
use Rattle.panel.proofs.Follow.{follow}
use Rattle.panel.proofs.axes.axis_along.Goals as goal

pub returns-then-y-x : goal.returns-then-y-x
unfolding axis_of
returns-then-y-x c = search follow

pub returns-then-x-y : goal.returns-then-x-y
unfolding axis_of
returns-then-x-y c = search follow

pub returns-then-ay-ax : goal.returns-then-ay-ax
unfolding axis_of
returns-then-ay-ax c = search (follow, ← c.max.ensures)

pub returns-else-ay-ax : goal.returns-else-ay-ax
unfolding axis_of
returns-else-ay-ax c = search (follow, ← c.max.ensures)

pub returns : goal.returns
unfolding axis_of
returns c = search (follow, ← c.max.ensures)
