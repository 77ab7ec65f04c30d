-- The bits, and what they are shifted to, are those of proofs/Wholes.antt.
use Rattle.std.proofs.Common.{T, arith, rules}
use lib.Ieee.{Float, binary32, to_bits, fits, le}
use Rattle.touchcal.specs.Sizes.{half32, most32}
use Rattle.touchcal.proofs.Wholes.{InReach, bits-in-reach, whole_is}
use Rattle.touchcal.proofs.floats.whole.Goals as goal

reach : (t : Float) → T (le half32 t) × T (le t most32) → InReach (to_bits binary32 t)
reach t h = bits-in-reach t h.0 h.1

pub overflow_sub-result : goal.overflow_sub-result
overflow_sub-result c = let r = reach c.args.t c.requires in omega (arith, r.high)

pub overflow_shr-result : goal.overflow_shr-result
overflow_shr-result c = let r = reach c.args.t c.requires in omega (arith, r.low)

pub returns : goal.returns
returns c =
    let held : T (fits binary32 c.args.t) = search rules in
    rw c.from.ensures (whole_is c.args.t held c.requires.0 c.requires.1)
