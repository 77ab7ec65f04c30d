-- `root_of v` is the largest r with r·r ≤ v, for every v of 64 bits, and there is one such r. Assumes nothing.
use Prim.Native.Nat.{ℕ, zero, suc, ◌+◌, ◌*◌, ◌/◌, ◌^◌, ◌≤◌, ◌<◌, zero-le}
use mathlib.Core.Path.{◌≡◌, sym, ap, subst, ◌∙◌}
use mathlib.Core.Bool.{Bool, true, false, not}
use native.Mathlib.Nat.{le_trans, lt_of_lt_of_le, lt_of_le_of_lt, zero-lt-suc, lt_of_not-le, not-le_of_lt, le_antisymm, mul-add, add-mul, mul_assoc, mul_comm, mul-le-mul, div-lt_iff_lt-mul, div-mul-le_self, pow-suc}
use native.Mathlib.Omega.{arith}
use lib.Dec.{T, leb, leb→le, nleb→lt}
use Rattle.panel.specs.Tests.{when◌then◌else◌}
use Rattle.calmap.specs.Roots.{IsRoot, digit, root_by, root_of}

-- Squares.

pub square_le : {a b : ℕ} → a ≤ b → a * a ≤ b * b
square_le h = mul-le-mul h h

pub square-next : (r : ℕ) → r * r < (r + 1) * (r + 1)
square-next r = omega (arith, add-mul r 1 (r + 1), mul-add r r 1)

pub square-times : (k r : ℕ) → k * r * (k * r) ≡ k * k * (r * r)
square-times k r = mul_assoc k r (k * r) ∙ ap (λ (x : ℕ). k * x) (mul_comm r (k * r) ∙ mul_assoc k r r) ∙ sym (mul_assoc k k (r * r))

-- One root only.

no_more : (r s v : ℕ) → IsRoot r v → IsRoot s v → r ≤ s
no_more r s v p q = at_most (λ g. not-le_of_lt (lt_of_lt_of_le q.above (square_le g)) p.below)
  where
    at_most : (s + 1 ≤ r → ⊥) → r ≤ s
    at_most f = omega (arith, lt_of_not-le f)

pub one-root : {r s v : ℕ} → IsRoot r v → IsRoot s v → r ≡ s
one-root {r} {s} {v} p q = le_antisymm (no_more r s v p q) (no_more s r v q p)

-- By digits.

pick : (b : Bool) (r v : ℕ) → (T b → (r + 1) * (r + 1) ≤ v) → (T (not b) → v < (r + 1) * (r + 1)) → r * r ≤ v → v < (r + 2) * (r + 2) → IsRoot (when◌then◌else◌ b (r + 1) r) v
unfolding when◌then◌else◌
pick true r v f g lo hi = record { below = f tt; above = subst (λ (k : ℕ). v < k * k) (two r) hi }
  where
    two : (r : ℕ) → r + 2 ≡ r + 1 + 1
    two r = omega arith
pick false r v f g lo hi = record { below = lo; above = g tt }

pub square-two : (q : ℕ) → 2 * q * (2 * q) ≡ 4 * (q * q)
square-two q = square-times 2 q

doubled : (q : ℕ) → 2 * q + 2 ≡ 2 * (q + 1)
doubled q = omega arith

pub root_by-root : (n v : ℕ) → v < 4 ^ n → IsRoot (root_by n v) v
unfolding root_by digit
root_by-root zero v h = record { below = zero-le; above = h }
root_by-root (suc n) v h =
    let q = root_by n (v / 4) in
    let i = root_by-root n (v / 4) ((div-lt_iff_lt-mul (zero-lt-suc 3)).1 (subst (λ (k : ℕ). v < k) (pow-suc 4 n) h)) in
    pick (leb ((2 * q + 1) * (2 * q + 1)) v) (2 * q) v (leb→le ((2 * q + 1) * (2 * q + 1)) v) (nleb→lt ((2 * q + 1) * (2 * q + 1)) v)
    (omega (arith, square-two q, i.below, div-mul-le_self v 4))
    (subst (λ (k : ℕ). v < k * k) (sym (doubled q)) (omega (arith, square-two (q + 1), i.above)))

module _ (v : ℕ) (h : v < 2 ^ 64) where
  pub root_is : IsRoot (root_of v) v
  unfolding root_of
  root_is = root_by-root 32 v h

  -- the root of what is at most a square
  pub root-at-most : (r : ℕ) → v ≤ r * r → root_of v ≤ r
  root-at-most r l = at_most (λ g. not-le_of_lt (lt_of_lt_of_le (square-next r) (le_trans (square_le g) root_is.below)) l)
    where
      at_most : (r + 1 ≤ root_of v → ⊥) → root_of v ≤ r
      at_most f = omega (arith, lt_of_not-le f)

  pub root-below-end : root_of v < 4294967296
  root-below-end = lt_of_not-le (λ (g : 4294967296 ≤ root_of v). not-le_of_lt (lt_of_le_of_lt root_is.below h) (square_le g))
