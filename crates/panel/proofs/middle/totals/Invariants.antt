-- `totals` meets its contract. The loop's invariant: the totals of the points passed, each at most 65535 a point. Assumes nothing.
use Prim.Native.Nat.{◌*◌, ◌≤◌}
use mathlib.Core.Path.{◌≡◌}
use lib.ListN.{take}
use Rattle.panel.specs.Centroids.{xs, ys, total}
use Rattle.panel.proofs.middle.totals.Given as goal

abbrev pub invariant-loop-p : goal.invariant-loop-p
invariant-loop-p l =
    (l.sums.x ≡ total (xs (take l.p-index l.pts))) × (l.sums.y ≡ total (ys (take l.p-index l.pts))) × (l.sums.x ≤ 65535 * l.p-index) × (l.sums.y ≤ 65535 * l.p-index)
