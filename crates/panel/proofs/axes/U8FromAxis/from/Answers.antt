-- An axis becomes its number. Assumes nothing.
use Rattle.panel.proofs.Follow.{follow}
use Rattle.panel.specs.Axes.{axis_number}
use Rattle.panel.proofs.axes.U8FromAxis.from.Goals as goal

pub returns-in-H : goal.returns-in-H
unfolding axis_number
returns-in-H c = search (follow, c.in-H.is)

pub returns-in-V : goal.returns-in-V
unfolding axis_number
returns-in-V c = search (follow, c.in-V.is)
