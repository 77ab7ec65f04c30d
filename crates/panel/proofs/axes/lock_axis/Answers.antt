-- `lock_axis` meets its contract: the magnitudes are those of the parts, and past the limit it is refused. Assumes nothing.
use Prim.Native.Nat.{◌<◌, ◌≤◌}
use native.Mathlib.Omega.{arith}
use lib.IntN.{nat_abs}
use mir.Facts.{to_z-of_z}
use Rattle.panel.specs.Axes.{lock_of}
use Rattle.panel.specs.Sizes.{lock_wide}
use Rattle.panel.proofs.Follow.{follow}
use Rattle.panel.proofs.axes.lock_axis.Goals as goal
use Rattle.panel.proofs.axes.lock_axis.Goals.{then-ax-gt-LOCK_WIDE-via-then-ax-gt-LOCK_WIDE, then-ax-gt-LOCK_WIDE-via-else-ax-gt-LOCK_WIDE+then-ay-gt-LOCK_WIDE}

pub returns-then-ax-gt-LOCK_WIDE : goal.returns-then-ax-gt-LOCK_WIDE
unfolding lock_of
returns-then-ax-gt-LOCK_WIDE c =
    let across = simp (to_z-of_z c.ranges.dx) at c.magnitude-ax.ensures in
    let along = simp (to_z-of_z c.ranges.dy) at c.magnitude-ay.ensures in
    elim c.then-ax-gt-LOCK_WIDE.branch [
      | then-ax-gt-LOCK_WIDE-via-then-ax-gt-LOCK_WIDE w ↦ let over : lock_wide < nat_abs c.args.dx = omega arith in search follow
      | then-ax-gt-LOCK_WIDE-via-else-ax-gt-LOCK_WIDE+then-ay-gt-LOCK_WIDE w ↦
          let within : nat_abs c.args.dx ≤ lock_wide = omega arith in
          let over : lock_wide < nat_abs c.args.dy = omega arith in
          search follow
    ]

pub returns : goal.returns
unfolding lock_of
returns c =
    let across = simp (to_z-of_z c.ranges.dx) at c.magnitude-ax.ensures in
    let along = simp (to_z-of_z c.ranges.dy) at c.magnitude-ay.ensures in
    let within-x : nat_abs c.args.dx ≤ lock_wide = omega arith in
    let within-y : nat_abs c.args.dy ≤ lock_wide = omega arith in
    search (follow, ← c.axis_along.ensures, ← across, ← along)
