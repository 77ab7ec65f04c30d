-- The cut of a float between 1/2 and 2.0e9, from its bits: which they are, and what they are shifted to. Assumes nothing.
use Rattle.std.proofs.Common.{◌≡◌, ℕ, suc, ◌+◌, ◌-◌, ◌*◌, ◌/◌, ◌%◌, ◌^◌, ◌<◌, ◌≤◌, min, Bool, true, false, cond, not, T, eqb, leb, pos, sym, refl, ap, ◌∙◌, subst, le_trans, le_of_eq, lt_of_lt_of_le, mod-eq_of_lt, mul_comm, div-lt_iff_lt-mul, mul-le-mul_left, mul-lt-mul_of_pos_right, lt_of_not-le, le-div_iff_mul-le, mul_right_comm, not-le_of_lt, mul_left_comm, arith, lit<, eqb→eq, leb→le, pow_pos, pow_mono, pow-add}
use native.Mathlib.Nat.{mul-div-mul_right}
use lib.Dec.{not_T}
use lib.Ieee.{Float, nan, inf, fin, binary32, up, down, size, odd, of_fields, of_bits, to_bits, fits, is_nan, le, to_signed}
use lib.Ieee.Bits.{is_false, cond_no, of_bits-to_bits}
use lib.Ieee.Digits.{size-lt, size-le, size_reaches}
use lib.Ieee.Exact.{HasValue, odd_sign}
use lib.Ieee.Fits.{down_pos}
use lib.Ieee.Positive.{positive, between, le→cross}
use Rattle.touchcal.specs.Sizes.{half32, most32}

-- 2^23: the weight of the first digit
abbrev pub first : ℕ
first = 8388608

-- ---- the bits of a number of n smallest values, each 2^-149

module _ (n : ℕ) (lo : 2 ^ 148 ≤ n) (hi : n < 2 ^ 180) where
  abbrev k : ℕ
  k = size n - 24

  long : 149 ≤ size n
  long = lt_of_not-le (λ (g : size n ≤ 148). not-le_of_lt (size-lt n) (le_trans (pow_mono g) lo))

  short : size n ≤ 180
  short = size-le n 180 hi

  top_digit : first ≤ n / 2 ^ k
  top_digit =
      let l = long in
      let e : size n ≡ suc (23 + k) = omega arith in
      let r : 2 ^ (23 + k) ≤ n = size_reaches n (23 + k) (omega arith) in
      (le-div_iff_mul-le (pow_pos k)).1 (le_trans (le_of_eq (sym (pow-add 2 23 k))) r)

  no_more : n / 2 ^ k < 16777216
  no_more =
      let l = long in
      let e : size n ≡ 24 + k = omega arith in
      (div-lt_iff_lt-mul (pow_pos k)).1 (lt_of_lt_of_le (size-lt n) (le_of_eq (ap (λ (x : ℕ). 2 ^ x) e ∙ pow-add 2 24 k)))

  exponent-is : (0 + k * first + n / 2 ^ k) / first ≡ suc k
  exponent-is =
      let a = top_digit in
      let b = no_more in
      omega arith

  exponent-in : (126 ≤ suc k) × (suc k ≤ 157)
  exponent-in =
      let l = long in
      let s = short in
      (omega arith, omega arith)

pub record InReach (b : ℕ) : Type 0 where
  pub low : 126 ≤ b / first
  pub high : b / first ≤ 157

in_reach : (b e : ℕ) → b / first ≡ e → (126 ≤ e) × (e ≤ 157) → InReach b
in_reach b e p r = record { low = subst (λ (x : ℕ). 126 ≤ x) (sym p) r.0; high = subst (λ (x : ℕ). x ≤ 157) (sym p) r.1 }

at_least : (p n d : ℕ) → d ≤ n * 2 → p * d ≤ n * (p * 2)
at_least p n d h = le_trans (mul-le-mul_left p h) (le_of_eq (mul_left_comm p n 2))

below : (p n d : ℕ) → 0 < p → n < 2147483648 * d → n * p < 2147483648 * p * d
below p n d h l = lt_of_lt_of_le (mul-lt-mul_of_pos_right l h) (le_of_eq (mul_right_comm 2147483648 d p))

pub bits-in-reach : (x : Float) → T (le half32 x) → T (le x most32) → InReach (to_bits binary32 x)
unfolding to_bits
bits-in-reach nan l h = absurd (between half32 nan most32 tt tt l h)
bits-in-reach (inf s) l h = absurd (between half32 (inf s) most32 tt tt l h)
bits-in-reach (fin true m e) l h = absurd (between half32 (fin true m e) most32 tt tt l h)
bits-in-reach (fin false m e) l h =
    let x = fin false m e in
    let p : T (positive x) = between half32 x most32 tt tt l h in
    let lo = le→cross half32 x tt p l in
    let hi = le→cross x most32 p tt h in
    let d = down_pos e in
    let least : 2 ^ 148 ≤ m * up e * 2 ^ 149 / down e = (le-div_iff_mul-le d).1 (at_least (2 ^ 148) (m * up e) (down e) (omega arith)) in
    let most : m * up e * 2 ^ 149 / down e < 2 ^ 180 = (div-lt_iff_lt-mul d).1 (below (2 ^ 149) (m * up e) (down e) (pow_pos 149) (omega arith)) in
    in_reach _ _ (exponent-is _ least most) (exponent-in _ least most)

pub no_nan : (x : Float) → T (le half32 x) → T (le x most32) → T (not (is_nan x))
unfolding is_nan
no_nan nan l h = absurd (between half32 nan most32 tt tt l h)
no_nan (inf s) l h = tt
no_nan (fin s m e) l h = tt

-- ---- the number that such bits stand for, in smallest values

abbrev value : ℕ → ℕ
value b = (first + b % first) * 2 ^ (b / first - 1)

fields-of : (b : ℕ) → of_bits binary32 b ≡ of_fields binary32 (leb 2147483648 b) (b % 2147483648 / first) (b % first)
unfolding of_bits
fields-of b = refl

differ : (x : ℕ) → suc x ≤ 157 → suc x ≡ 255 → ⊥
differ x h e = omega arith

digits_of : (t x : ℕ) → suc x ≤ 157 → of_fields binary32 false (suc x) t ≡ odd 24 false (first + t) x 149
unfolding of_fields
digits_of t x h = cond_no (eqb (suc x) 255) (cond (eqb t 0) (inf false) nan) (odd 24 false (first + t) x 149) (not_T (eqb (suc x) 255) (λ (u : T (eqb (suc x) 255)). differ x h (eqb→eq (suc x) 255 u)))

no_sign : (b : ℕ) → b / first ≤ 157 → b < 2147483648
no_sign b h = omega arith

one_less : (x : ℕ) → 126 ≤ x → suc (x - 1) ≡ x
one_less x h = omega arith

stands-for : (b : ℕ) → InReach b → of_bits binary32 b ≡ odd 24 false (first + b % first) (b / first - 1) 149
stands-for b r =
    let l = no_sign b r.high in
    let e = one_less (b / first) r.low in
    fields-of b
    ∙ ap (λ (s : Bool). of_fields binary32 s (b % 2147483648 / first) (b % first)) (is_false (leb 2147483648 b) (not_T (leb 2147483648 b) (λ (u : T (leb 2147483648 b)). not-le_of_lt l (leb→le 2147483648 b u))))
    ∙ ap (λ (x : ℕ). of_fields binary32 false (x / first) (b % first)) (mod-eq_of_lt l)
    ∙ ap (λ (x : ℕ). of_fields binary32 false x (b % first)) (sym e)
    ∙ digits_of (b % first) (b / first - 1) (subst (λ (x : ℕ). x ≤ 157) (sym e) r.high)

has_value : (x : Float) → T (fits binary32 x) → InReach (to_bits binary32 x) → HasValue x false (value (to_bits binary32 x)) (2 ^ 149)
has_value x h r =
    let b = to_bits binary32 x in
    subst (λ (y : Float). HasValue y false (value b) (2 ^ 149)) (sym (stands-for b r) ∙ of_bits-to_bits binary32 x h) (odd_sign 24 false (first + b % first) (b / first - 1) 149)

-- ---- shifted

shifted : (d x : ℕ) → 126 ≤ x → x ≤ 157 → d * 256 / 2 ^ (158 - x) ≡ d * 2 ^ (x - 1) / 2 ^ 149
shifted d x lo hi =
    let p = 2 ^ (x - 1) in
    let all : 158 - x + (x - 1) ≡ 157 = omega arith in
    let under : 2 ^ (158 - x) * p ≡ 2 ^ 149 * 256 = sym (pow-add 2 (158 - x) (x - 1)) ∙ ap (λ (z : ℕ). 2 ^ z) all in
    sym (mul-div-mul_right (d * 256) (2 ^ (158 - x)) (pow_pos (x - 1)))
    ∙ (λ i. mul_right_comm d 256 p i / under i)
    ∙ mul-div-mul_right (d * p) (2 ^ 149) (lit< tt)

quotient : (n d v : ℕ) → 0 < d → n * 2 ^ 149 ≡ v * d → n / d ≡ v / 2 ^ 149
quotient n d v h e =
    sym (mul-div-mul_right n d (pow_pos 149)) ∙ (λ i. e i / mul_comm d (2 ^ 149) i) ∙ mul-div-mul_right v (2 ^ 149) h

-- what the code makes of the bits
abbrev pub shifted_bits : ℕ → ℕ
shifted_bits b = (first + b % first) * 256 / 2 ^ (158 - b / first)

pub whole_is : (x : Float) → T (fits binary32 x) → T (le half32 x) → T (le x most32) → pos (shifted_bits (to_bits binary32 x)) ≡ to_signed 31 x
unfolding to_signed
whole_is nan f l h = absurd (between half32 nan most32 tt tt l h)
whole_is (inf s) f l h = absurd (between half32 (inf s) most32 tt tt l h)
whole_is (fin true m e) f l h = absurd (between half32 (fin true m e) most32 tt tt l h)
whole_is (fin false m e) f l h =
    let x = fin false m e in
    let b = to_bits binary32 x in
    let r = bits-in-reach x l h in
    let hi = le→cross x most32 (between half32 x most32 tt tt l h) tt h in
    let q = m * up e / down e in
    let small : q < 2000000001 = (div-lt_iff_lt-mul (down_pos e)).1 (omega (arith, down_pos e)) in
    let same : q ≡ min q 2147483647 = omega arith in
    let is : shifted_bits b ≡ q = shifted (first + b % first) (b / first) r.low r.high ∙ sym (quotient (m * up e) (down e) (value b) (down_pos e) (has_value x f r).1) in
    ap pos (is ∙ same)
