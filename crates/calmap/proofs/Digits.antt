-- The root of v, a binary digit for each pair of v's digits, from the highest: what is found when so many pairs are still to
-- come, the next digit, 1 or 0, and that where no pair is to come it is the root. Assumes nothing.
use Prim.Native.Nat.{ℕ, zero, suc, ◌+◌, ◌-◌, ◌*◌, ◌/◌, ◌%◌, ◌^◌, ◌≤◌, ◌<◌}
use mathlib.Core.Path.{◌≡◌, refl, sym, ap, subst, ◌∙◌}
use native.Mathlib.Nat.{le_trans, le_of_eq, lt_of_lt_of_le, mod-eq_of_lt, suc-mul, add-mul, mul-add, mul_assoc, mul_comm, mul-div_cancel, mul-one, one-mul, one-le-pow, lt_irrefl, pow-suc, zero-lt-suc, not-suc-le-zero}
use native.Mathlib.Omega.{arith}
use lib.Dec.{lit<}
use lib.Pow.{pow_mono, pow-add, shl_exact}
use Rattle.calmap.specs.Roots.{IsRoot}
use Rattle.calmap.proofs.Rooted.{square-two}

-- Of v's pairs of digits the last `places` are still to come, and what stands before them has the root `digits`: the root so
-- far is a = digits·2 ^ places, and its next digit counts b = 2 ^ places / 2. `bit` is b·b, what the next pair counts, 0 if
-- there is none; `root` is 2·a·b and `rest` is v - a·a. The sums stay within 64 bits.
pub record Found (v bit root rest : ℕ) : Type 0 where
  pub places : ℕ
  pub digits : ℕ
  pub next : bit ≡ 4 ^ places / 4
  pub weighed : root ≡ digits * 4 ^ places
  pub left : rest + digits * digits * 4 ^ places ≡ v
  pub above : v < (digits + 1) * (digits + 1) * 4 ^ places
  pub fits : root + 2 * bit ≤ 2 ^ 63

-- `1 << s` at 64 bits
power-of-two : (s : ℕ) → s ≤ 63 → 1 * 2 ^ s % 2 ^ 64 ≡ 2 ^ s
power-of-two s h = shl_exact {a = 1} 1 s 64 (lit< tt) (omega arith) ∙ one-mul (2 ^ s)

-- a pair of binary digits is a digit to the base four
pow-pairs : (n : ℕ) → 2 ^ (n * 2) ≡ 4 ^ n
pow-pairs zero = refl
pow-pairs (suc n) = ap (λ (x : ℕ). 2 ^ x) (suc-mul n 2) ∙ pow-add 2 (n * 2) 2 ∙ ap (λ (x : ℕ). x * 4) (pow-pairs n) ∙ sym (pow-suc 4 n)

-- The highest pair that v has, where its highest digit is at place j: `1 << (j >> 1 << 1)`, and the shift's places are
-- 32 bits.
pub top-pair : (v j r : ℕ) → 2 ^ j ≤ v → v < 2 ^ suc j → j ≤ 63 → r ≡ 1 * 2 ^ (j / 2 * 2 % 2 ^ 32) % 2 ^ 64 → (r ≤ v) × (v < 4 * r) × (r ≤ 2 ^ 62) × ((n : ℕ) × (r ≡ 4 ^ n))
top-pair v j r lo hi b e =
    let s = j / 2 * 2 in
    let short : s % 2 ^ 32 ≡ s = mod-eq_of_lt (omega arith) in
    let is : r ≡ 2 ^ s = e ∙ ap (λ (x : ℕ). 1 * 2 ^ x % 2 ^ 64) short ∙ power-of-two s (omega arith) in
    let at_most : s ≤ j = omega arith in
    let over : suc j ≤ s + 2 = omega arith in
    let most : s ≤ 62 = omega arith in (
      le_trans (le_of_eq is) (le_trans (pow_mono at_most) lo),
      lt_of_lt_of_le hi (le_trans (pow_mono over) (omega (arith, pow-add 2 s 2, is))),
      le_trans (le_of_eq is) (pow_mono most),
      (j / 2, is ∙ pow-pairs (j / 2)),
    )

-- the highest pair that v has: the root of what stands there, from 1 to 3, is 1
pub found_first : (v r n : ℕ) → r ≡ 4 ^ n → r ≤ v → v < 4 * r → r ≤ 2 ^ 62 → Found v (r / 4) r (v - r)
found_first v r n e lo hi b = record {
  places = n;
  digits = 1;
  next = ap (λ (x : ℕ). x / 4) e;
  weighed = e ∙ sym (one-mul (4 ^ n));
  left = omega (arith, e);
  above = omega (arith, e);
  fits = omega arith;
}

quarter : (m : ℕ) → 4 ^ suc m / 4 ≡ 4 ^ m
quarter m = ap (λ (x : ℕ). x / 4) (pow-suc 4 m) ∙ mul-div_cancel (4 ^ m) (zero-lt-suc 3)

-- where a pair is to come
more : (n bit : ℕ) → bit ≡ 4 ^ n / 4 → 0 < bit → (m : ℕ) × (bit ≡ 4 ^ m) × (4 ^ n ≡ bit * 4)
more zero bit e h = absurd (not-suc-le-zero (subst (λ (x : ℕ). 0 < x) e h))
more (suc m) bit e h =
    let one : bit ≡ 4 ^ m = e ∙ quarter m in
    (m, one, pow-suc 4 m ∙ ap (λ (x : ℕ). x * 4) (sym one))

-- a product by the weight of the pair before
before : (a u : ℕ) → a * (u * 4) ≡ 4 * (a * u)
before a u = sym (mul_assoc a u 4) ∙ mul_comm (a * u) 4

-- with the digit 1 behind it: the number, its square, and the square of the next
odd : (d u : ℕ) → (2 * d + 1) * u ≡ 2 * (d * u) + u
odd d u = omega (arith, add-mul (2 * d) 1 u, mul_assoc 2 d u)

square-odd : (d u : ℕ) → (2 * d + 1) * (2 * d + 1) * u ≡ 4 * (d * d * u) + 4 * (d * u) + u
square-odd d u =
    let e : (2 * d + 1) * (2 * d + 1) ≡ 4 * (d * d) + 4 * d + 1 = omega (arith, add-mul (2 * d) 1 (2 * d + 1), mul-add (2 * d) (2 * d) 1, square-two d) in
    ap (λ (x : ℕ). x * u) e ∙ omega (arith, add-mul (4 * (d * d) + 4 * d) 1 u, add-mul (4 * (d * d)) (4 * d) u, mul_assoc 4 (d * d) u, mul_assoc 4 d u)

square-even : (d u : ℕ) → 2 * d * (2 * d) * u ≡ 4 * (d * d * u)
square-even d u = ap (λ (x : ℕ). x * u) (square-two d) ∙ mul_assoc 4 (d * d) u

square-next : (d u : ℕ) → (2 * d + 1 + 1) * (2 * d + 1 + 1) * u ≡ 4 * ((d + 1) * (d + 1) * u)
square-next d u =
    let e : 2 * d + 1 + 1 ≡ 2 * (d + 1) = omega arith in
    ap (λ (x : ℕ). x * x * u) e ∙ square-even (d + 1) u

-- While a pair is to come.
module _ {v bit root rest : ℕ} (f : Found v bit root rest) (h : 0 < bit) where
  by_bit : (a : ℕ) → a * 4 ^ f.places ≡ 4 * (a * bit)
  by_bit a = ap (λ (x : ℕ). a * x) (more f.places bit f.next h).2 ∙ before a bit

  -- what is found has one more digit, in the weight of the pair that was next
  with-digit : (d r s : ℕ) → r ≡ d * bit → s + d * d * bit ≡ v → v < (d + 1) * (d + 1) * bit → r ≤ root / 2 + bit → Found v (bit / 4) r s
  with-digit d r s w l a b =
      let m = more f.places bit f.next h in
      record {
        places = m.0;
        digits = d;
        next = ap (λ (x : ℕ). x / 4) m.1;
        weighed = subst (λ (x : ℕ). r ≡ d * x) m.1 w;
        left = subst (λ (x : ℕ). s + d * d * x ≡ v) m.1 l;
        above = subst (λ (x : ℕ). v < (d + 1) * (d + 1) * x) m.1 a;
        fits = omega (arith, f.fits);
      }

  -- The next digit is 1 where the square with it is not over v, else 0.
  pub found-one : root + bit ≤ rest → Found v (bit / 4) (root / 2 + bit) (rest - (root + bit))
  found-one l =
      let d = f.digits in
      let w = f.weighed ∙ by_bit d in
      with-digit (2 * d + 1) (root / 2 + bit) (rest - (root + bit))
      (omega (arith, odd d bit, w))
      (omega (arith, square-odd d bit, w, f.left, by_bit (d * d)))
      (omega (arith, square-next d bit, f.above, by_bit ((d + 1) * (d + 1))))
      (omega arith)

  pub found-zero : rest < root + bit → Found v (bit / 4) (root / 2) rest
  found-zero l =
      let d = f.digits in
      let w = f.weighed ∙ by_bit d in
      with-digit (2 * d) (root / 2) rest
      (omega (arith, mul_assoc 2 d bit, w))
      (omega (arith, square-even d bit, f.left, by_bit (d * d)))
      (omega (arith, square-odd d bit, w, f.left, by_bit (d * d)))
      (omega arith)

-- Where none is to come, it is the root.
none : (n : ℕ) → 4 ^ n / 4 ≡ 0 → 4 ^ n ≡ 1
none zero e = refl
none (suc m) e = absurd (lt_irrefl 0 (subst (λ (x : ℕ). 0 < x) (sym (quarter m) ∙ e) (one-le-pow m 4 (zero-lt-suc 3))))

pub found_all : {v bit root rest : ℕ} → Found v bit root rest → bit ≡ 0 → IsRoot root v
found_all {v} {bit} {root} {rest} f e =
    let d = f.digits in
    let by : (a : ℕ) → a * 4 ^ f.places ≡ a = λ a. ap (λ (x : ℕ). a * x) (none f.places (sym f.next ∙ e)) ∙ mul-one a in
    subst (λ (r : ℕ). IsRoot r v) (sym (f.weighed ∙ by d)) (record { below = omega (arith, f.left, by (d * d)); above = subst (λ (x : ℕ). v < x) (by ((d + 1) * (d + 1))) f.above })
