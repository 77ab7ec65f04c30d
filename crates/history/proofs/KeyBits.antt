-- What a mask has of keys: facts of bytes and keys by computed tests, and of the keys that one mask has and another
-- lacks after one of them is turned over. Assumes nothing.
use Prim.Native.Nat.{ℕ, zero, suc, ◌<◌, ◌+◌, ◌-◌, ◌^◌, min}
use mathlib.Core.Path.{◌≡◌, refl, sym, subst, ap, ap₂, ◌∙◌}
use mathlib.Core.Bool.{Bool, true, false, not, true≢false}
use mathlib.Core.List.{List, [], ◌∷◌}
use native.Mathlib.Omega.{arith}
use native.Mathlib.Nat.{not-suc-le-zero, mod-lt, zero-lt-suc}
use lib.Dec.{T, ltb, eqb, ltb→lt, eqb→eq}
use lib.Count.{count_trailing_zeros}
use lib.Bits.{and_le_l}
use borrow.Author.Tests.{not-true, eqb-true, eq-eqb}
use Rattle.fingers.proofs.Bytes.{both, both_left, both_right, every, below, lowest-is-set}
use Rattle.fingers.proofs.KeyMasks.{bit_at, without-bit, flipped-bit, flipped-rest}
use Rattle.fingers.specs.Keys.{without, lowest, flipped}
use Rattle.panel.proofs.Laws.{and_left, and_right}
use Rattle.panel.specs.Tests.{when◌then◌else◌, ◌and◌}
use Rattle.history.specs.Keys.{has, filter, all_keys, lacking}

abbrev pub xor : Bool → Bool → Bool
xor true b = not b
xor false b = b

-- a test of a byte and a key
at_key : (f : ℕ → ℕ → Bool) → T (every (λ (a : ℕ). every (f a) 8) 256) → (a c : ℕ) → a < 256 → c < 8 → T (f a c)
at_key f t a c h k = below (f a) 8 (below (λ (a : ℕ). every (f a) 8) 256 t a h) c k

-- what the bits of a flipped mask are (fingers' KeyMasks), as keys that a mask has
xor-true : (p : Bool) → xor p true ≡ not p
xor-true true = refl
xor-true false = refl

xor-false : (p : Bool) → xor p false ≡ p
xor-false true = refl
xor-false false = refl

other-digit : (x : ℕ) → x < 2 → eqb (1 - x) 1 ≡ not (eqb x 1)
other-digit zero h = refl
other-digit (suc zero) h = refl
other-digit (suc (suc x)) h = absurd (omega arith)

has-flip-by : (a c e : ℕ) → c < 8 → e < 8 → (same : Bool) → eqb c e ≡ same → has (flipped a c) e ≡ xor (has a e) same
unfolding has
has-flip-by a c e k l true q =
    subst (λ (x : ℕ). has (flipped a c) x ≡ xor (has a x) true) (eqb-true c e q)
    (ap (λ (n : ℕ). eqb n 1) (flipped-bit a c k) ∙ other-digit (bit_at a c) (mod-lt _ (zero-lt-suc 1)) ∙ sym (xor-true (has a c)))
has-flip-by a c e k l false q =
    ap (λ (n : ℕ). eqb n 1) (flipped-rest a c e k l (λ r. absurd (true≢false (sym (eq-eqb c e (sym r)) ∙ q)))) ∙ sym (xor-false (has a e))

pub has-flip : (a c e : ℕ) → c < 8 → e < 8 → has (flipped a c) e ≡ xor (has a e) (eqb c e)
has-flip a c e k l = has-flip-by a c e k l (eqb c e) refl

-- a bit turned over is put in or taken out
pub flip_is : (a c : ℕ) → a < 256 → c < 8 → flipped a c ≡ when◌then◌else◌ (has a c) (a - 2 ^ c) (a + 2 ^ c)
unfolding has flipped when◌then◌else◌
flip_is a c h k = eqb→eq _ _ (at_key (λ a c. eqb (flipped a c) (when◌then◌else◌ (has a c) (a - 2 ^ c) (a + 2 ^ c))) tt a c h k)

pub flip-lt : (a c : ℕ) → a < 256 → c < 8 → flipped a c < 256
unfolding flipped
flip-lt a c h k = ltb→lt _ _ (at_key (λ a c. ltb (flipped a c) 256) tt a c h k)

-- the keys of a byte: the lowest, and those of the byte without it
abbrev alike : List ℕ → List ℕ → Bool
alike [] [] = true
alike [] (b ∷ bs) = false
alike (a ∷ xs) [] = false
alike (a ∷ xs) (b ∷ bs) = both (eqb a b) (alike xs bs)

alike_is : (xs ys : List ℕ) → T (alike xs ys) → xs ≡ ys
alike_is [] [] t = refl
alike_is [] (b ∷ bs) t = absurd t
alike_is (a ∷ xs) [] t = absurd t
alike_is (a ∷ xs) (b ∷ bs) t = ap₂ (λ (c : ℕ) (cs : List ℕ). c ∷ cs) (eqb→eq a b (both_left (eqb a b) (alike xs bs) t)) (alike_is xs bs (both_right (eqb a b) (alike xs bs) t))

abbrev low_test : ℕ → Bool
low_test zero = true
low_test (suc m) = alike (filter (has (suc m)) all_keys) (lowest (suc m) ∷ filter (has (flipped (suc m) (lowest (suc m)))) all_keys)

low-tested : (m : ℕ) → m < 256 → T (low_test m)
unfolding has filter lowest flipped count_trailing_zeros
low-tested m h = below low_test 256 tt m h

pub low-keys : (m : ℕ) → zero < m → m < 256 → filter (has m) all_keys ≡ lowest m ∷ filter (has (flipped m (lowest m))) all_keys
low-keys zero p h = absurd (not-suc-le-zero p)
low-keys (suc m) p h = alike_is _ _ (low-tested (suc m) h)

pub low-has : (m : ℕ) → zero < m → m < 256 → has m (lowest m) ≡ true
unfolding has
low-has m p h = eq-eqb _ _ (lowest-is-set m p h)

pub no_keys : filter (has 0) all_keys ≡ []
unfolding has filter
no_keys = refl

-- two tests that agree keep the same
keep_all : (f k : ℕ → Bool) → f 0 ≡ k 0 → f 1 ≡ k 1 → f 2 ≡ k 2 → f 3 ≡ k 3 → f 4 ≡ k 4 → f 5 ≡ k 5 → f 6 ≡ k 6 → f 7 ≡ k 7 → filter f all_keys ≡ filter k all_keys
unfolding filter
keep_all f k p0 p1 p2 p3 p4 p5 p6 p7 = rw (p0, p1, p2, p3, p4, p5, p6, p7)

pub keep_same : (f k : ℕ → Bool) → ((c : ℕ) → c < 8 → f c ≡ k c) → filter f all_keys ≡ filter k all_keys
keep_same f k h = keep_all f k (h 0 (omega arith)) (h 1 (omega arith)) (h 2 (omega arith)) (h 3 (omega arith)) (h 4 (omega arith)) (h 5 (omega arith)) (h 6 (omega arith)) (h 7 (omega arith))

and-digit : (x y : ℕ) → x < 2 → y < 2 → eqb (min x (1 - y)) 1 ≡ ◌and◌ (eqb x 1) (not (eqb y 1))
unfolding ◌and◌
and-digit zero zero h k = refl
and-digit zero (suc zero) h k = refl
and-digit zero (suc (suc y)) h k = absurd (omega arith)
and-digit (suc zero) zero h k = refl
and-digit (suc zero) (suc zero) h k = refl
and-digit (suc zero) (suc (suc y)) h k = absurd (omega arith)
and-digit (suc (suc x)) y h k = absurd (omega arith)

pub has-lacks : (a b c : ℕ) → b < 256 → c < 8 → has (without a b) c ≡ ◌and◌ (has a c) (not (has b c))
unfolding has
has-lacks a b c h k =
    ap (λ (n : ℕ). eqb n 1) (without-bit a b c h k) ∙ and-digit (bit_at a c) (bit_at b c) (mod-lt _ (zero-lt-suc 1)) (mod-lt _ (zero-lt-suc 1))

-- The keys that a has and b lacks, after a key c is turned over in a or in b
pub more-is : (a b : ℕ) → b < 256 → lacking a b ≡ filter (has (without a b)) all_keys
unfolding lacking
more-is a b h = keep_same _ _ (λ c k. sym (has-lacks a b c h k))

-- c is in a and not in b: without it in a
out-bit : (p q e : Bool) → (e ≡ true → p ≡ true) → (e ≡ true → q ≡ false) → ◌and◌ (xor p e) (not q) ≡ xor (◌and◌ p (not q)) e
unfolding ◌and◌
out-bit p q true f k = rw (f refl, k refl)
out-bit true true false f k = refl
out-bit true false false f k = refl
out-bit false true false f k = refl
out-bit false false false f k = refl

-- .. and what b has more is the same
out-other : (p q e : Bool) → (e ≡ true → q ≡ false) → ◌and◌ q (not (xor p e)) ≡ ◌and◌ q (not p)
unfolding ◌and◌
out-other p q true k = rw (k refl)
out-other true q false k = refl
out-other false q false k = refl

-- c is in b and not in a: with it in a
in-bit : (p q e : Bool) → (e ≡ true → p ≡ false) → (e ≡ true → q ≡ true) → ◌and◌ q (not (xor p e)) ≡ xor (◌and◌ q (not p)) e
unfolding ◌and◌
in-bit p q true f k = rw (f refl, k refl)
in-bit true true false f k = refl
in-bit true false false f k = refl
in-bit false true false f k = refl
in-bit false false false f k = refl

in-other : (p q e : Bool) → (e ≡ true → p ≡ false) → (e ≡ true → q ≡ true) → ◌and◌ (xor p e) (not q) ≡ ◌and◌ p (not q)
unfolding ◌and◌
in-other p q true f k = rw (f refl, k refl)
in-other true q false f k = refl
in-other false q false f k = refl

pub lacks-lt : (a b : ℕ) → a < 256 → without a b < 256
unfolding without
lacks-lt a b h = omega (arith, and_le_l a (255 - b))

module _ (a b c : ℕ) (ha : a < 256) (hb : b < 256) (hc : c < 8) where
  hit : (m e : ℕ) (v : Bool) → has m c ≡ v → eqb c e ≡ true → has m e ≡ v
  hit m e v p q = subst (λ (x : ℕ). has m x ≡ v) (eqb-true c e q) p

  pub out-more : has a c ≡ true → has b c ≡ false → lacking (flipped a c) b ≡ filter (has (flipped (without a b) c)) all_keys
  unfolding lacking
  out-more p q =
      keep_same _ _
      (λ e k.
      ap (λ (x : Bool). ◌and◌ x (not (has b e))) (has-flip a c e hc k) ∙ out-bit (has a e) (has b e) (eqb c e) (hit a e true p) (hit b e false q)
      ∙ ap (λ (x : Bool). xor x (eqb c e)) (sym (has-lacks a b e hb k)) ∙ sym (has-flip (without a b) c e hc k))

  pub out-others : has b c ≡ false → lacking b (flipped a c) ≡ lacking b a
  unfolding lacking
  out-others q =
      keep_same _ _
      (λ e k. ap (λ (x : Bool). ◌and◌ (has b e) (not x)) (has-flip a c e hc k) ∙ out-other (has a e) (has b e) (eqb c e) (hit b e false q))

  pub in-more : has a c ≡ false → has b c ≡ true → lacking b (flipped a c) ≡ filter (has (flipped (without b a) c)) all_keys
  unfolding lacking
  in-more p q =
      keep_same _ _
      (λ e k.
      ap (λ (x : Bool). ◌and◌ (has b e) (not x)) (has-flip a c e hc k) ∙ in-bit (has a e) (has b e) (eqb c e) (hit a e false p) (hit b e true q)
      ∙ ap (λ (x : Bool). xor x (eqb c e)) (sym (has-lacks b a e ha k)) ∙ sym (has-flip (without b a) c e hc k))

  pub in-others : has a c ≡ false → has b c ≡ true → lacking (flipped a c) b ≡ lacking a b
  unfolding lacking
  in-others p q =
      keep_same _ _
      (λ e k. ap (λ (x : Bool). ◌and◌ x (not (has b e))) (has-flip a c e hc k) ∙ in-other (has a e) (has b e) (eqb c e) (hit a e false p) (hit b e true q))

-- a key that is in what a has and b lacks

pub in-first : (a b c : ℕ) → b < 256 → c < 8 → has (without a b) c ≡ true → has a c ≡ true
in-first a b c h k e = and_left _ _ (sym (has-lacks a b c h k) ∙ e)

pub not-second : (a b c : ℕ) → b < 256 → c < 8 → has (without a b) c ≡ true → has b c ≡ false
not-second a b c h k e = not-true _ (and_right _ _ (sym (has-lacks a b c h k) ∙ e))
