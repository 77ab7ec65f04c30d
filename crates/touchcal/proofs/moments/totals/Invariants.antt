-- The totals of the pairs so far.
use Rattle.std.proofs.Common.{◌≡◌, take}
use Rattle.touchcal.specs.Moments.{totals_of}
use Rattle.touchcal.proofs.moments.totals.Given as goal

abbrev pub invariant-loop-p : goal.invariant-loop-p
invariant-loop-p l = l.t ≡ totals_of (take l.p-index l.pairs)
