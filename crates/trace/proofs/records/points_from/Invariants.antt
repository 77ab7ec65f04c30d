-- `trace::records::points_from` meets its contract. Assumes nothing.
use mathlib.Core.List.{◌++◌}
use lib.ListN.{drop}
use Rattle.trace.specs.Records.{no_points}
use Rattle.trace.proofs.PointsIn.{Reading}
use Rattle.trace.proofs.records.points_from.Given as goal

abbrev pub invariant-loop-p : goal.invariant-loop-p
invariant-loop-p l = Reading l.s l.at l.n (l.p-items ++ drop l.n no_points) l.to l.p-index
