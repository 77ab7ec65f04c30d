-- The loop's invariant is what is found when the pair of digits that `bit` counts is next; the measure is `bit`.
use Rattle.calmap.proofs.Digits.{Found}
use Rattle.calmap.proofs.roots.isqrt.Given as goal

abbrev pub invariant-loop-bit : goal.invariant-loop-bit
invariant-loop-bit l = Found l.v l.bit l.root l.rest

abbrev pub decreases-loop-bit : goal.decreases-loop-bit
decreases-loop-bit l = l.bit
