-- `tenths_of d2` is the largest t with (16t) squared at most 100 times d2, for every d2 of 64 bits, and there is one such t.
-- The root of 25·d2/64, rounded down, is it too. Assumes nothing.
use Prim.Native.Nat.{ℕ, ◌+◌, ◌*◌, ◌/◌, ◌%◌, ◌^◌, ◌≤◌, ◌<◌}
use mathlib.Core.Path.{◌≡◌, ap}
use native.Mathlib.Nat.{le_trans, lt_of_lt_of_le, lt_of_not-le, not-le_of_lt, le_antisymm}
use native.Mathlib.Omega.{arith}
use lib.Bits.{bit_and, and_mask}
use Rattle.calmap.specs.Distances.{square, IsTenths, tenths_of}
use Rattle.calmap.specs.Roots.{IsRoot, root_by}
use Rattle.calmap.specs.Sizes.{sixteenths_in, hundred}
use Rattle.calmap.specs.Units.{tenths}
use Rattle.calmap.specs.code.Checked.{farthest, farthest_tenths}
use Rattle.calmap.specs.declared.units.Tenths.{Tenths}
use Rattle.calmap.proofs.Rooted.{square_le, square-times, root_by-root}

-- One only.

at_most : (t s : ℕ) → (s + 1 ≤ t → ⊥) → t ≤ s
at_most t s f = omega (arith, lt_of_not-le f)

scaled-le : {a b : ℕ} → a ≤ b → square (sixteenths_in * a) ≤ square (sixteenths_in * b)
scaled-le {a} {b} h = square_le (omega (arith, h))

-- tenths are no more than what is too many
pub no_more : (t : Tenths) (s d2 : ℕ) → IsTenths t d2 → hundred * d2 < square (sixteenths_in * (s + 1)) → t.0 ≤ s
no_more t s d2 p over = at_most t.0 s (λ g. not-le_of_lt (lt_of_lt_of_le over (scaled-le g)) p.below)

pub one-tenths : {t s : Tenths} {d2 : ℕ} → IsTenths t d2 → IsTenths s d2 → t ≡ s
one-tenths {t} {s} {d2} p q = ap tenths (le_antisymm (no_more t s.0 d2 p q.above) (no_more s t.0 d2 q p.above))

-- As often as 16 goes into the root of 100 times d2.

of-root : (r d2 : ℕ) → IsRoot r (hundred * d2) → IsTenths (tenths (r / sixteenths_in)) d2
of-root r d2 i =
    let least : sixteenths_in * (r / sixteenths_in) ≤ r = omega arith in
    let most : r + 1 ≤ sixteenths_in * (r / sixteenths_in + 1) = omega arith in
    record { below = le_trans (square_le least) i.below; above = lt_of_lt_of_le i.above (square_le most) }

module _ (d2 : ℕ) (h : d2 < 2 ^ 64) where
  pub tenths-are : IsTenths (tenths_of d2) d2
  unfolding tenths_of
  tenths-are = of-root (root_by 36 (hundred * d2)) d2 (root_by-root 36 (hundred * d2) (omega (arith, h)))

  -- (16t) squared is at most 100 times d2 for no more than the tenths
  pub tenths-at-least : (t : ℕ) → square (sixteenths_in * t) ≤ hundred * d2 → t ≤ (tenths_of d2).0
  tenths-at-least t lo = at_most t (tenths_of d2).0 (λ g. not-le_of_lt (lt_of_lt_of_le tenths-are.above (scaled-le g)) lo)

  -- where the next one's is over it, they are at most t
  pub tenths-at-most : (t : ℕ) → hundred * d2 < square (sixteenths_in * (t + 1)) → (tenths_of d2).0 ≤ t
  tenths-at-most t over = no_more (tenths_of d2) t d2 tenths-are over

-- so a tap's distance from its target is at most 1310720 tenths
pub tenths-of-miss : (d2 : ℕ) → d2 ≤ farthest → (tenths_of d2).0 ≤ farthest_tenths
tenths-of-miss d2 h = tenths-at-most d2 (omega (arith, h)) farthest_tenths (omega (arith, h))

-- The root of 25·d2/64.

mask : (d2 : ℕ) → bit_and d2 63 ≡ d2 % 64
mask d2 = and_mask d2 6

pub low-digits : (d2 : ℕ) → bit_and d2 63 < 64
low-digits d2 = omega (arith, mask d2)

-- as the code works it out, by shifts and a mask
pub by-root : (r d2 : ℕ) → IsRoot r (25 * (d2 / 64) + 25 * bit_and d2 63 / 64) → IsTenths (tenths r) d2
by-root r d2 i = record {
  below = omega (arith, square-times sixteenths_in r, mask d2, i.below);
  above = omega (arith, square-times sixteenths_in (r + 1), mask d2, i.above);
}
