-- The round trip: a coefficient of at most 2 ^ 23 steps either way comes back from its float. Each operation on the way is exact, but for
-- the half that is added at 2 ^ 23, a tie that goes to the even. One step further it fails. Assumes nothing.
use Rattle.std.specs.Prelude.{Ok}
use Rattle.std.proofs.Common.{◌≡◌, ℕ, suc, ◌+◌, ◌-◌, ◌*◌, ◌/◌, ◌^◌, ◌<◌, ◌≤◌, min, Bool, true, false, cond, not, List, [], ◌∷◌, map, ℤ, pos, negsuc, neg_ℤ, nat_abs, sym, refl, ap, ◌∙◌, subst, inl, inr, mul-le-mul_right, zero-lt-suc, eq-or-lt_of_le, mul-pos, lt_of_not-le, mul_right_comm, arith, lit≤, le-ltb, lt-ltb}
use native.Mathlib.Decide.{dec_lt}
use lib.Ieee.{Float, nan, inf, fin, binary32, up, down, round, neg, add, sub, mul, div, lt, of_int, to_signed}
use lib.Ieee.Fits.{down_pos}
use lib.Ieee.Exact.{HasValue}
use lib.Ieee.Back.{round_whole}
use lib.Ieee.Nearest.{div_same}
use Rattle.panel.specs.Tests.{when◌then◌else◌, ◌and◌}
use Rattle.panel.proofs.Follow.{follow, if-true, if-false}
use Rattle.calmap.specs.declared.units.Q16.{Q16}
use Rattle.calmap.specs.declared.units.Cal.{Cal}
use Rattle.touchcal.specs.Binary32.{◌⊕◌, ◌⊖◌, ◌⊗◌, ◌⊘◌, ◌⊲◌, float, cut}
use Rattle.touchcal.specs.Sizes.{zero32, half32, one32, scale32, most32, least32}
use Rattle.touchcal.specs.Floats.{in_reach, half_away, nearest_step, q16_of, out_of, to_f32_of, off_identity, in_steps, steps_of, from_f32_of}
use Rattle.touchcal.proofs.Fractions.{sum_is, add_at, exact, over, scaled, both, less, more}

-- ---- what the identity has in a place, on and off

minus_is : (x y : Float) → x ⊖ y ≡ x ⊕ neg y
unfolding sub
minus_is x y = refl

turned : (y : Float) (b : ℕ) → HasValue y false b 65536 → HasValue (neg y) true b 65536
unfolding neg
turned nan b v = absurd v
turned (inf t) b v = absurd v
turned (fin s m e) b v = (ap not v.0, v.1)

-- x has n of 65536 parts, the base b of them: 0 or 65536
module _ (x base : Float) (n b : ℕ) (small : n ≤ 2 ^ 23) (few : b ≤ 65536) (is : HasValue base false b 65536) where
  up-and-back : HasValue x false n 65536 → HasValue (x ⊕ base ⊖ base) false n 65536
  up-and-back v =
      let on = both x base false n b (omega arith) v is in
      let off = more (x ⊕ base) (neg base) false (n + b) b (omega arith) (omega arith) on (turned base b is) in
      let e : n + b - b ≡ n = omega arith in
      subst (λ (k : ℕ). HasValue (x ⊕ base ⊖ base) false k 65536) e (rw minus_is off)

  down-and-back : 0 < n → HasValue x true n 65536 → HasValue (x ⊕ base ⊖ base) true n 65536
  down-and-back p v = rw minus_is (go (dec_lt n b))
    where
      go : Dec (n < b) → HasValue (x ⊕ base ⊕ neg base) true n 65536
      go (yes l) =
          let on = less x base true n b l (omega arith) v is in
          let off = less (x ⊕ base) (neg base) false (b - n) b (omega arith) (omega arith) on (turned base b is) in
          let e : b - (b - n) ≡ n = omega arith in
          subst (λ (k : ℕ). HasValue (x ⊕ base ⊕ neg base) true k 65536) e off
      go (no f) =
          let g : b ≤ n = omega (arith, lt_of_not-le (λ (k : suc n ≤ b). f k)) in
          let on = more x base true n b g (omega arith) v is in
          elim (eq-or-lt_of_le g) [
            | inl q ↦
                let plus = subst (λ t. HasValue (x ⊕ base) t (n - b) 65536) (le-ltb b n (omega arith)) on in
                let off = less (x ⊕ base) (neg base) false (n - b) b (omega arith) (omega arith) plus (turned base b is) in
                let e : b - (n - b) ≡ n = omega arith in
                subst (λ (k : ℕ). HasValue (x ⊕ base ⊕ neg base) true k 65536) e off
            | inr l ↦
                let minus = subst (λ t. HasValue (x ⊕ base) t (n - b) 65536) (lt-ltb b n l) on in
                let off = both (x ⊕ base) (neg base) true (n - b) b (omega arith) minus (turned base b is) in
                let e : n - b + b ≡ n = omega arith in
                subst (λ (k : ℕ). HasValue (x ⊕ base ⊕ neg base) true k 65536) e off
          ]

-- ---- the cut
abbrev signed : Bool → ℕ → ℤ
signed s n = cond s (neg_ℤ (pos n)) (pos n)

cut-value : (y : Float) (s : Bool) (n : ℕ) → n < 2 ^ 23 → HasValue y s (n * 2 + 1) 2 → to_signed 31 y ≡ signed s n
unfolding to_signed
cut-value nan s n h v = absurd v
cut-value (inf t) s n h v = absurd v
cut-value (fin t m e) s n h v =
    let q : m * up e / down e ≡ n = div_same (m * up e) (down e) (n * 2 + 1) 2 (down_pos e) (zero-lt-suc 1) v.1 ∙ omega arith in
    let a : min n 2147483648 ≡ n = omega arith in
    let b : min n 2147483647 ≡ n = omega arith in
    rw (v.0, q, a, b)

cut-end : (s : Bool) → to_signed 31 (round binary32 s 16777217 2) ≡ signed s 8388608
unfolding to_signed round
cut-end true = refl
cut-end false = refl

cut-round : (s : Bool) (n : ℕ) → n ≤ 2 ^ 23 → to_signed 31 (round binary32 s (n * 2 + 1) 2) ≡ signed s n
cut-round s n h =
    elim (eq-or-lt_of_le h) [
      | inl e ↦ subst (λ (k : ℕ). to_signed 31 (round binary32 s (k * 2 + 1) 2) ≡ signed s k) (sym e) (cut-end s)
      | inr l ↦ cut-value (round binary32 s (n * 2 + 1) 2) s n l (exact s (n * 2 + 1) 1 (lit≤ tt) (omega arith))
    ]

-- ---- from a whole number of steps to the cut
minus-half : (x : Float) → sub binary32 x half32 ≡ add binary32 x (fin true 1 (negsuc 0))
unfolding sub
minus-half x = refl

halves : (x : Float) (s : Bool) (n : ℕ) → HasValue x s n 1 → HasValue x s (n * 2) 2
halves nan s n v = absurd v
halves (inf t) s n v = absurd v
halves (fin t m e) s n v = (v.0, omega (arith, v.1, mul_right_comm n 2 (down e)))

is-low : (x : Float) (n : ℕ) → HasValue x false n 1 → lt x zero32 ≡ false
unfolding lt
is-low nan n v = absurd v
is-low (inf t) n v = absurd v
is-low (fin t m e) n v = rw v.0 (le-ltb (m * up e * 1) (0 * down e) (omega arith))

is_below : (x : Float) (n : ℕ) → 0 < n → HasValue x true n 1 → lt x zero32 ≡ true
unfolding lt
is_below nan n p v = absurd v
is_below (inf t) n p v = absurd v
is_below (fin t m e) n p v = rw v.0 (lt-ltb 0 (m * up e * 1 + 0 * down e) (omega (arith, v.1, mul-pos p (down_pos e))))

away-false : (x : Float) → x ⊲ zero32 ≡ false → half_away x ≡ x ⊕ half32
unfolding half_away
away-false x h = if-false _ _ _ h

away-true : (x : Float) → x ⊲ zero32 ≡ true → half_away x ≡ x ⊖ half32
unfolding half_away
away-true x h = if-true _ _ _ h

away-up : (x : Float) (n : ℕ) → HasValue x false n 1 → half_away x ≡ round binary32 false (n * 2 + 1) 2
away-up x n v = away-false x (is-low x n v) ∙ add_at binary32 x half32 false false (n * 2) 1 2 (zero-lt-suc 1) (halves x false n v) (refl, refl) ∙ sum_is binary32 false (n * 2) false 1 2

away-down : (x : Float) (n : ℕ) → 0 < n → HasValue x true n 1 → half_away x ≡ round binary32 true (n * 2 + 1) 2
away-down x n p v = away-true x (is_below x n p v) ∙ minus-half x ∙ add_at binary32 x (fin true 1 (negsuc 0)) true true (n * 2) 1 2 (zero-lt-suc 1) (halves x true n v) (refl, refl) ∙ sum_is binary32 true (n * 2) true 1 2

over-low : (x : Float) (s : Bool) (n : ℕ) → n ≤ 2 ^ 23 → HasValue x s n 1 → lt least32 x ≡ true
unfolding lt
over-low nan s n h v = absurd v
over-low (inf t) s n h v = absurd v
over-low (fin true m e) s n h v = lt-ltb (m * up e * 1) (2000000000 * down e) (omega (arith, v.1, mul-le-mul_right (down e) h, down_pos e))
over-low (fin false m e) s n h v = lt-ltb 0 (2000000000 * down e + m * up e * 1) (omega (arith, down_pos e))

under-high : (x : Float) (s : Bool) (n : ℕ) → n ≤ 2 ^ 23 → HasValue x s n 1 → lt x most32 ≡ true
unfolding lt
under-high nan s n h v = absurd v
under-high (inf t) s n h v = absurd v
under-high (fin true m e) s n h v = lt-ltb 0 (m * up e * 1 + 2000000000 * down e) (omega (arith, down_pos e))
under-high (fin false m e) s n h v = lt-ltb (m * up e * 1) (2000000000 * down e) (omega (arith, v.1, mul-le-mul_right (down e) h, down_pos e))

answered : (v : Float) → least32 ⊲ v ⊗ scale32 ≡ true → v ⊗ scale32 ⊲ most32 ≡ true → q16_of v ≡ Ok (record { 0 = cut (half_away (v ⊗ scale32)) })
unfolding q16_of in_reach nearest_step
answered v h k = search follow

module _ (x : Float) (n : ℕ) (small : n ≤ 2 ^ 23) where
  steps_up : HasValue x false n 65536 → q16_of x ≡ Ok (record { 0 = pos n })
  steps_up v =
      let y = x ⊗ scale32 in
      let w = scaled x false n (omega arith) v in
      let z : cut (half_away y) ≡ pos n = rw (away-up y n w) (cut-round false n small) in
      rw z at (answered x (over-low y false n small w) (under-high y false n small w))

  steps-down : 0 < n → HasValue x true n 65536 → q16_of x ≡ Ok (record { 0 = neg_ℤ (pos n) })
  steps-down p v =
      let y = x ⊗ scale32 in
      let w = scaled x true n (omega arith) v in
      let z : cut (half_away y) ≡ neg_ℤ (pos n) = rw (away-down y n p w) (cut-round true n small) in
      rw z at (answered x (over-low y true n small w) (under-high y true n small w))

-- ---- one coefficient

whole-up : (n : ℕ) → n ≤ 2 ^ 23 → HasValue (float (pos n)) false n 1
unfolding of_int
whole-up n h = round_whole binary32 false n (omega arith)

whole-down : (k : ℕ) → suc k ≤ 2 ^ 23 → HasValue (float (negsuc k)) true (suc k) 1
unfolding of_int
whole-down k h = round_whole binary32 true (suc k) (omega arith)

module _ (base : Float) (b : ℕ) (few : b ≤ 65536) (is : HasValue base false b 65536) where
  pub one-back : (z : ℤ) → nat_abs z ≤ 2 ^ 23 → q16_of (out_of base z ⊖ base) ≡ Ok (record { 0 = z })
  unfolding out_of
  one-back (pos n) h =
      let x = float (pos n) ⊘ scale32 in
      let v = over (float (pos n)) false n (omega arith) (whole-up n h) in
      steps_up (x ⊕ base ⊖ base) n h (up-and-back x base n b h few is v)
  one-back (negsuc k) h =
      let x = float (negsuc k) ⊘ scale32 in
      let v = over (float (negsuc k)) true (suc k) (omega arith) (whole-down k h) in
      steps-down (x ⊕ base ⊖ base) (suc k) h (zero-lt-suc k) (down-and-back x base (suc k) b h few is (zero-lt-suc k) v)

-- ---- all six

-- "all |c| <= 8,388,608"
pub record Within (c : Cal) : Type 0 where
  pub c0 : nat_abs c.c0.0 ≤ 8_388_608
  pub c1 : nat_abs c.c1.0 ≤ 8_388_608
  pub c2 : nat_abs c.c2.0 ≤ 8_388_608
  pub c3 : nat_abs c.c3.0 ≤ 8_388_608
  pub c4 : nat_abs c.c4.0 ≤ 8_388_608
  pub c5 : nat_abs c.c5.0 ≤ 8_388_608

pub round_trip : (c : Cal) → Within c → from_f32_of (to_f32_of c) ≡ Ok c
unfolding from_f32_of steps_of in_steps off_identity to_f32_of
round_trip c w =
    let one = one-back one32 65536 (lit≤ tt) (refl, refl) in
    let none = one-back zero32 0 (lit≤ tt) (refl, refl) in
    rw (one c.c0.0 w.c0, none c.c1.0 w.c1, none c.c2.0 w.c2, none c.c3.0 w.c3, one c.c4.0 w.c4, none c.c5.0 w.c5)

-- ---- and no further: at 8,388,609, the first number past the bound, the trip fails in each of the six places and with either sign,
-- and what comes back is the even number beyond

-- z alone, in each place in turn
abbrev alone : ℤ → List Cal
alone z =
    let at : Q16 = record { 0 = z } in
    let none : Q16 = record { 0 = pos 0 } in
    record { c0 = at; c1 = none; c2 = none; c3 = none; c4 = none; c5 = none }
    ∷ record { c0 = none; c1 = at; c2 = none; c3 = none; c4 = none; c5 = none }
    ∷ record { c0 = none; c1 = none; c2 = at; c3 = none; c4 = none; c5 = none }
    ∷ record { c0 = none; c1 = none; c2 = none; c3 = at; c4 = none; c5 = none }
    ∷ record { c0 = none; c1 = none; c2 = none; c3 = none; c4 = at; c5 = none }
    ∷ record { c0 = none; c1 = none; c2 = none; c3 = none; c4 = none; c5 = at }
    ∷ []

pub no-further-up : map (λ c. from_f32_of (to_f32_of c)) (alone (pos 8_388_609)) ≡ map (λ c. Ok c) (alone (pos 8_388_610))
unfolding from_f32_of steps_of in_steps off_identity to_f32_of out_of q16_of in_reach nearest_step half_away when◌then◌else◌ ◌and◌ add sub mul div lt of_int to_signed
no-further-up = refl

pub no-further-down : map (λ c. from_f32_of (to_f32_of c)) (alone (neg_ℤ (pos 8_388_609))) ≡ map (λ c. Ok c) (alone (neg_ℤ (pos 8_388_610)))
unfolding from_f32_of steps_of in_steps off_identity to_f32_of out_of q16_of in_reach nearest_step half_away when◌then◌else◌ ◌and◌ add sub mul div lt of_int to_signed
no-further-down = refl
