-- Floats as fractions: a sum of two floats by any fractions that they equal, and the fractions that are floats exactly. What the round trip
-- (proofs/RoundTrip.antt) stands on. Assumes nothing.
use Rattle.std.proofs.Common.{◌≡◌, ℕ, suc, ◌+◌, ◌-◌, ◌*◌, ◌^◌, ◌<◌, ◌≤◌, Bool, true, false, cond, not, ◌&&◌, ltb, ℤ, sym, refl, ap, ◌∙◌, subst, lt_of_lt_of_le, mul-le-mul_right, zero-lt-suc, mul_assoc, mul_comm, add-mul, mul-lt-mul_of_pos_right, mul-pos, lt_of_not-le, mul_right_comm, not-le_of_lt, le_of_mul-le-mul_right, arith, lit≤, pow_pos, pow_mono, pow-add, shl_lt, le-ltb, lt-ltb}
use mathlib.Core.Bool.{beq}
use native.Mathlib.Nat.{mul-sub}
use native.Mathlib.Decide.{dec_lt}
use lib.Ieee.{Float, nan, inf, fin, Format, binary32, up, down, unlike, round, sum, add, mul, div}
use lib.Ieee.Fits.{down_pos}
use lib.Ieee.Exact.{HasValue, round_exact}
use lib.Ieee.Scale.{round_same}
use Rattle.touchcal.specs.Sizes.{scale32}

-- ---- sums by any fractions that the summands equal

order_same : (A B a b c C : ℕ) → 0 < c → 0 < C → A * c ≡ a * C → B * c ≡ b * C → ltb A B ≡ ltb a b
order_same A B a b c C hc hC e f = go (dec_lt a b)
  where
    go : Dec (a < b) → ltb A B ≡ ltb a b
    go (yes l) =
        lt-ltb A B (lt_of_not-le (λ (g : B ≤ A). not-le_of_lt (mul-lt-mul_of_pos_right l hC) (omega (arith, mul-le-mul_right c g, e, f))))
        ∙ sym (lt-ltb a b l)
    go (no n) =
        let g : b ≤ a = omega (arith, lt_of_not-le (λ (k : suc a ≤ b). n k)) in
        le-ltb A B (le_of_mul-le-mul_right (omega (arith, mul-le-mul_right C g, e, f)) hc) ∙ sym (le-ltb a b g)

sub-mul : (m n k : ℕ) → (m - n) * k ≡ m * k - n * k
sub-mul m n k = mul_comm (m - n) k ∙ mul-sub k m n ∙ (λ i. mul_comm k m i - mul_comm k n i)

pub sum_is : (f : Format) (s : Bool) (a : ℕ) (t : Bool) (b c : ℕ)
    → sum f s a t b c ≡ cond (beq s t) (round f s (a + b) c) (cond (ltb a b) (round f t (b - a) c) (round f (s && ltb b a) (a - b) c))
unfolding sum
sum_is f s a t b c = refl

sum_same : (f : Format) (s t : Bool) (A B a b c C : ℕ) → 0 < c → 0 < C → A * c ≡ a * C → B * c ≡ b * C → sum f s A t B C ≡ sum f s a t b c
sum_same f s t A B a b c C hc hC e g =
    rw (
      sum_is f s A t B C,
      sum_is f s a t b c,
      order_same A B a b c C hc hC e g,
      order_same B A b a c C hc hC g e,
      round_same f s (A + B) C (a + b) c hC hc (add-mul A B c ∙ (λ i. e i + g i) ∙ sym (add-mul a b C)),
      round_same f t (B - A) C (b - a) c hC hc (sub-mul B A c ∙ (λ i. g i - e i) ∙ sym (sub-mul b a C)),
      round_same f (s && ltb b a) (A - B) C (a - b) c hC hc (sub-mul A B c ∙ (λ i. e i - g i) ∙ sym (sub-mul a b C)),
    )

add_is : (f : Format) (u v : Bool) (m n : ℕ) (e d : ℤ) → add f (fin u m e) (fin v n d) ≡ sum f u (m * up e * down d) v (n * up d * down e) (down e * down d)
unfolding add
add_is f u v m n e d = refl

pub add_at : (f : Format) (x y : Float) (s t : Bool) (a b c : ℕ) → 0 < c → HasValue x s a c → HasValue y t b c → add f x y ≡ sum f s a t b c
add_at f nan y s t a b c hc p q = absurd p
add_at f (inf u) y s t a b c hc p q = absurd p
add_at f (fin u m e) nan s t a b c hc p q = absurd q
add_at f (fin u m e) (inf v) s t a b c hc p q = absurd q
add_at f (fin u m e) (fin v n d) s t a b c hc p q =
    rw (add_is f u v m n e d, p.0, q.0)
    (sum_same f s t (m * up e * down d) (n * up d * down e) a b c (down e * down d) hc (mul-pos (down_pos e) (down_pos d))
    (mul_right_comm (m * up e) (down d) c ∙ ap (λ (z : ℕ). z * down d) p.1 ∙ mul_assoc a (down e) (down d))
    (mul_right_comm (n * up d) (down e) c ∙ ap (λ (z : ℕ). z * down e) q.1 ∙ mul_assoc b (down d) (down e) ∙ ap (λ (z : ℕ). b * z) (mul_comm (down d) (down e))))

-- ---- a fraction over a power of two with a numerator below 2 ^ 24 is a float
rejoin : (k : ℕ) → k ≤ 149 → 149 - k + k ≡ 149
rejoin k h = omega arith

fewer : (k : ℕ) → 24 + (149 - k) ≤ 277
fewer k = omega arith

pub exact : (s : Bool) (n k : ℕ) → k ≤ 149 → n < 2 ^ 24 → HasValue (round binary32 s n (2 ^ k)) s n (2 ^ k)
exact s n k h l =
    round_exact binary32 s n (2 ^ k) n (149 - k) (pow_pos k) l
    (lt_of_lt_of_le (shl_lt 24 (149 - k) l) (pow_mono (fewer k)))
    (ap (λ (j : ℕ). n * 2 ^ j) (sym (rejoin k h)) ∙ ap (λ (z : ℕ). n * z) (pow-add 2 (149 - k) k) ∙ sym (mul_assoc n (2 ^ (149 - k)) (2 ^ k)))

-- ---- times and over 65536
not-unlike : (s : Bool) → unlike s false ≡ s
not-unlike true = refl
not-unlike false = refl

scaled-is : (s : Bool) (m : ℕ) (e : ℤ) → mul binary32 (fin s m e) scale32 ≡ round binary32 (unlike s false) (m * up e * 65536) (down e * 1)
unfolding mul
scaled-is s m e = refl

over-is : (s : Bool) (m : ℕ) (e : ℤ) → div binary32 (fin s m e) scale32 ≡ round binary32 (unlike s false) (m * up e * 1) (65536 * down e)
unfolding div
over-is s m e = refl

pub over : (x : Float) (s : Bool) (n : ℕ) → n < 2 ^ 24 → HasValue x s n 1 → HasValue (div binary32 x scale32) s n 65536
over nan s n h v = absurd v
over (inf t) s n h v = absurd v
over (fin t m e) s n h v =
    subst (λ (y : Float). HasValue y s n 65536)
    (sym (over-is t m e ∙ ap (λ (u : Bool). round binary32 u (m * up e * 1) (65536 * down e)) (not-unlike t ∙ v.0)
    ∙ round_same binary32 s (m * up e * 1) (65536 * down e) n 65536 (mul-pos (zero-lt-suc 65535) (down_pos e)) (zero-lt-suc 65535)
    (ap (λ (z : ℕ). z * 65536) v.1 ∙ mul_assoc n (down e) 65536 ∙ ap (λ (z : ℕ). n * z) (mul_comm (down e) 65536))))
    (exact s n 16 (lit≤ tt) h)

pub scaled : (x : Float) (s : Bool) (n : ℕ) → n < 2 ^ 24 → HasValue x s n 65536 → HasValue (mul binary32 x scale32) s n 1
scaled nan s n h v = absurd v
scaled (inf t) s n h v = absurd v
scaled (fin t m e) s n h v =
    subst (λ (y : Float). HasValue y s n 1)
    (sym (scaled-is t m e ∙ ap (λ (u : Bool). round binary32 u (m * up e * 65536) (down e * 1)) (not-unlike t ∙ v.0)
    ∙ round_same binary32 s (m * up e * 65536) (down e * 1) n 1 (mul-pos (down_pos e) (zero-lt-suc 0)) (zero-lt-suc 0)
    (ap (λ (z : ℕ). z * 1) v.1 ∙ mul_assoc n (down e) 1)))
    (exact s n 0 (lit≤ tt) h)

-- ---- a sum over 65536, by which case of `sum` it is
pub both : (x y : Float) (s : Bool) (a b : ℕ) → a + b < 2 ^ 24 → HasValue x s a 65536 → HasValue y s b 65536 → HasValue (add binary32 x y) s (a + b) 65536
both x y true a b h p q = subst (λ (z : Float). HasValue z true (a + b) 65536) (sym (add_at binary32 x y true true a b 65536 (zero-lt-suc 65535) p q ∙ sum_is binary32 true a true b 65536)) (exact true (a + b) 16 (lit≤ tt) h)
both x y false a b h p q = subst (λ (z : Float). HasValue z false (a + b) 65536) (sym (add_at binary32 x y false false a b 65536 (zero-lt-suc 65535) p q ∙ sum_is binary32 false a false b 65536)) (exact false (a + b) 16 (lit≤ tt) h)

-- the second is the larger
pub less : (x y : Float) (s : Bool) (a b : ℕ) → a < b → b < 2 ^ 24 → HasValue x s a 65536 → HasValue y (not s) b 65536 → HasValue (add binary32 x y) (not s) (b - a) 65536
less x y true a b l h p q = subst (λ (z : Float). HasValue z false (b - a) 65536) (sym (add_at binary32 x y true false a b 65536 (zero-lt-suc 65535) p q ∙ sum_is binary32 true a false b 65536 ∙ ap (λ (t : Bool). cond t (round binary32 false (b - a) 65536) (round binary32 (ltb b a) (a - b) 65536)) (lt-ltb a b l))) (exact false (b - a) 16 (lit≤ tt) (omega arith))
less x y false a b l h p q = subst (λ (z : Float). HasValue z true (b - a) 65536) (sym (add_at binary32 x y false true a b 65536 (zero-lt-suc 65535) p q ∙ sum_is binary32 false a true b 65536 ∙ ap (λ (t : Bool). cond t (round binary32 true (b - a) 65536) (round binary32 false (a - b) 65536)) (lt-ltb a b l))) (exact true (b - a) 16 (lit≤ tt) (omega arith))

-- the first is the larger, or they are equal, which gives +0
pub more : (x y : Float) (s : Bool) (a b : ℕ) → b ≤ a → a < 2 ^ 24 → HasValue x s a 65536 → HasValue y (not s) b 65536 → HasValue (add binary32 x y) (s && ltb b a) (a - b) 65536
more x y true a b l h p q = subst (λ (z : Float). HasValue z (ltb b a) (a - b) 65536) (sym (add_at binary32 x y true false a b 65536 (zero-lt-suc 65535) p q ∙ sum_is binary32 true a false b 65536 ∙ ap (λ (t : Bool). cond t (round binary32 false (b - a) 65536) (round binary32 (ltb b a) (a - b) 65536)) (le-ltb a b l))) (exact (ltb b a) (a - b) 16 (lit≤ tt) (omega arith))
more x y false a b l h p q = subst (λ (z : Float). HasValue z false (a - b) 65536) (sym (add_at binary32 x y false true a b 65536 (zero-lt-suc 65535) p q ∙ sum_is binary32 false a true b 65536 ∙ ap (λ (t : Bool). cond t (round binary32 true (b - a) 65536) (round binary32 false (a - b) 65536)) (le-ltb a b l))) (exact false (a - b) 16 (lit≤ tt) (omega arith))
