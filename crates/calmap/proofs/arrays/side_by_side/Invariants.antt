-- `side_by_side`: what is passed stands side by side. Assumes nothing.
use mathlib.Core.Path.{◌≡◌}
use lib.ListN.{length, take}
use Rattle.calmap.specs.Resids.{pairs_of}
use Rattle.calmap.specs.Sizes.{longest}
use Rattle.calmap.proofs.arrays.side_by_side.Given as goal

abbrev pub invariant-loop-i : goal.invariant-loop-i
invariant-loop-i l = (length l.r ≡ longest) × (take l.i l.r ≡ take l.i (pairs_of l.a l.b))
