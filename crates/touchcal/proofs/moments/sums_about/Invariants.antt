-- The sums over the pairs so far.
use Rattle.std.proofs.Common.{◌≡◌, take}
use Rattle.touchcal.specs.Moments.{sums_of}
use Rattle.touchcal.proofs.moments.sums_about.Given as goal

abbrev pub invariant-loop-p : goal.invariant-loop-p
invariant-loop-p l = l.s ≡ sums_of l.m (take l.p-index l.pairs)
