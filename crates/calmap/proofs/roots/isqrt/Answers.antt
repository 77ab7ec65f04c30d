-- The loop's invariant is what is found when the pair of digits that `bit` counts is next; the measure is `bit`.
use Prim.Native.Nat.{ℕ, ◌<◌}
use mathlib.Core.Path.{◌≡◌}
use native.Mathlib.Omega.{arith}
use Rattle.calmap.specs.Roots.{IsRoot}
use Rattle.calmap.proofs.Digits.{found_first, found-one, found-zero, found_all}
use Rattle.calmap.proofs.Rooted.{one-root, root_is}
use Rattle.calmap.proofs.roots.isqrt.Goals as goal

zero-root : {v : ℕ} → v ≡ 0 → IsRoot 0 v
zero-root e = record { below = omega arith; above = omega (arith, e) }

pub returns-then-v-eq0 : goal.returns-then-v-eq0
returns-then-v-eq0 c = one-root (zero-root c.if-v-eq0.true) (root_is c.args.v c.ranges.v.fits)

pub top_pair-first-requires : goal.top_pair-first-requires
top_pair-first-requires c = omega (arith, c.if-v-eq0.false)

pub overflow_sub-rest : goal.overflow_sub-rest
overflow_sub-rest c = c.top_pair-first.ensures.0

pub loop-bit-init : goal.loop-bit-init
loop-bit-init c = let e = c.top_pair-first.ensures in found_first _ _ e.3.0 e.3.1 e.0 e.1 e.2

pub overflow_add-next : goal.overflow_add-next
overflow_add-next c = record { fits = omega (arith, c.loop-bit.invariant.fits) }

pub loop-bit-preserved-then-rest-next : goal.loop-bit-preserved-then-rest-next
loop-bit-preserved-then-rest-next c =
    let to-come : 0 < c.loop-bit.bit = omega (arith, c.loop-bit-test.true) in
    found-zero c.loop-bit.invariant to-come c.if-rest-next.true

pub overflow_add-root : goal.overflow_add-root
overflow_add-root c = record { fits = omega (arith, c.loop-bit.invariant.fits) }

pub loop-bit-preserved : goal.loop-bit-preserved
loop-bit-preserved c =
    let to-come : 0 < c.loop-bit.bit = omega (arith, c.loop-bit-test.true) in
    found-one c.loop-bit.invariant to-come c.if-rest-next.false

pub returns : goal.returns
returns c = one-root (found_all c.loop-bit.invariant c.loop-bit-test.false) (root_is c.args.v c.ranges.v.fits)
