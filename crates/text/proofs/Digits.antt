-- The digits of a number as the code writes them, and how many there are. Assumes nothing.
use Prim.Native.Nat.{ℕ, zero, suc, ◌+◌, ◌-◌, ◌*◌, ◌/◌, ◌%◌, ◌≤◌, ◌<◌}
use mathlib.Core.Path.{◌≡◌, refl, sym, ap, ◌∙◌}
use mathlib.Core.Bool.{Bool, true, false}
use mathlib.Core.List.{List, [], ◌∷◌, ◌++◌}
use native.Mathlib.Numerals.{add-one}
use native.Mathlib.Omega.{arith}
use lib.ListN.{length, set, length-append}
use lib.Seq.{sets}
use lib.Dec.{ltb}
use borrow.Author.Tests.{lt-ltb, le-ltb, ltb-true, ltb-false}
use Rattle.panel.proofs.Follow.{if-true, if-false}
use Rattle.text.specs.Sizes.{small_end, small_digits, most_digits}
use Rattle.text.specs.Words.{ten, digit0, digits_by, decimal}
use Rattle.text.specs.code.Written.{Written}
use Rattle.text.proofs.Writing.{sets_more}

-- a fact of two numbers, by which of them is smaller
pub by-lt : {P : Type 0} (a b : ℕ) → (a < b → P) → (b ≤ a → P) → P
by-lt {P} a b f g = go (ltb a b) refl
  where
    go : (t : Bool) → ltb a b ≡ t → P
    go true e = f (ltb-true a b e)
    go false e = g (ltb-false a b e)

digits-zero : (left v : ℕ) → left ≡ 0 → digits_by left v ≡ []
unfolding digits_by
digits-zero left v e = rw e

digits-one : (k v : ℕ) → v < ten → digits_by (suc k) v ≡ (v + digit0) ∷ []
unfolding digits_by
digits-one k v h = if-true _ _ _ (lt-ltb v ten h)

digits_step : (k v : ℕ) → ten ≤ v → digits_by (suc k) v ≡ digits_by k (v / ten) ++ ((v % ten + digit0) ∷ [])
unfolding digits_by
digits_step k v h = if-false _ _ _ (le-ltb v ten h)

module _ (left v : ℕ) (some : left ≡ 0 → ⊥) where
  one_more : left ≡ suc (left - 1)
  one_more = omega arith

  pub digits_last : v < ten → digits_by left v ≡ (v + digit0) ∷ []
  digits_last h = ap (λ (n : ℕ). digits_by n v) one_more ∙ digits-one (left - 1) v h

  digits_more : ten ≤ v → digits_by left v ≡ digits_by (left - 1) (v / ten) ++ ((v % ten + digit0) ∷ [])
  digits_more h = ap (λ (n : ℕ). digits_by n v) one_more ∙ digits_step (left - 1) v h

  pub more-length : ten ≤ v → length (digits_by left v) ≡ length (digits_by (left - 1) (v / ten)) + 1
  more-length h = ap length (digits_more h) ∙ length-append (digits_by (left - 1) (v / ten)) ((v % ten + digit0) ∷ [])

-- What `digits` answers and leaves: none are left, the last, those before and one.

pub written_none : (l : List ℕ) (at left v : ℕ) → left ≡ 0 → Written l at (digits_by left v) at l
written_none l at left v e = rw (digits-zero left v e) (record { ends = omega arith; left = refl })

pub written_last : (l : List ℕ) (at left v : ℕ) → (left ≡ 0 → ⊥) → v < ten → Written l at (digits_by left v) (at + 1) (set l at (v + digit0))
written_last l at left v some h = rw (digits_last left v some h) (record { ends = omega arith; left = refl })

pub written-more : (l : List ℕ) (at left v a : ℕ) (m : List ℕ) → (left ≡ 0 → ⊥) → ten ≤ v →
    Written l at (digits_by (left - 1) (v / ten)) a m → Written l at (digits_by left v) (a + 1) (set m a (v % ten + digit0))
written-more l at left v a m some h p =
    record {
      ends = omega (arith, more-length left v some h, p.ends);
      left =
          ap (λ (x : List ℕ). set x a (v % ten + digit0)) p.left
          ∙ ap (λ (x : ℕ). set (sets l at (digits_by (left - 1) (v / ten))) x (v % ten + digit0)) p.ends
          ∙ sets_more l (digits_by (left - 1) (v / ten)) at (v % ten + digit0)
          ∙ ap (sets l at) (sym (digits_more left v some h));
    }

-- How many: at most as many as are left, and k for a number below ten to the k.

pub digits-most : (k v : ℕ) → length (digits_by k v) ≤ k
unfolding digits_by
digits-most zero v = omega arith
digits-most (suc k) v =
    let ih : length (digits_by k (v / ten)) ≤ k = digits-most k (v / ten) in
    by-lt v ten
    (λ h. rw (digits-one k v h) (omega arith))
    (λ h. rw (digits_step k v h) (omega (arith, length-append (digits_by k (v / ten)) ((v % ten + digit0) ∷ []))))

digits-few : (n k v : ℕ) → v < ten → length (digits_by n v) ≤ suc k
unfolding digits_by
digits-few zero k v h = omega arith
digits-few (suc n) k v h = rw (digits-one n v h) (omega arith)

-- two digits below a hundred, and one more for each time ten
digits-two : (n v : ℕ) → v < 100 → length (digits_by n v) ≤ 2
unfolding digits_by
digits-two zero v h = omega arith
digits-two (suc n) v h =
    by-lt v ten
    (λ g. rw (digits-one n v g) (omega arith))
    (λ g. rw (digits_step n v g) (omega (arith, digits-few n 0 (v / ten) (omega arith), length-append (digits_by n (v / ten)) ((v % ten + digit0) ∷ []))))

digits_up : (m k : ℕ) → ((n v : ℕ) → v < m → length (digits_by n v) ≤ suc k) → (n v : ℕ) → v < ten * m → length (digits_by n v) ≤ suc (suc k)
unfolding digits_by
digits_up m k below zero v h = omega arith
digits_up m k below (suc n) v h =
    by-lt v ten
    (λ g. rw (digits-one n v g) (omega arith))
    (λ g. rw (digits_step n v g) (omega (arith, below n (v / ten) (omega arith), length-append (digits_by n (v / ten)) ((v % ten + digit0) ∷ []))))

pub decimal-most : (v : ℕ) → length (decimal v) ≤ most_digits
unfolding decimal
decimal-most v = digits-most most_digits v

pub decimal-two : (v : ℕ) → v < 100 → length (decimal v) ≤ 2
unfolding decimal
decimal-two v h = digits-two most_digits v h

pub decimal-small : (v : ℕ) → v < small_end → length (decimal v) ≤ small_digits
unfolding decimal
decimal-small v h = digits_up 10_000 3 (digits_up 1_000 2 (digits_up 100 1 digits-two)) most_digits v h

-- The few digits that `number` writes straight away.

module _ (l : List ℕ) (at v : ℕ) where
  pub one-digit : v < ten → Written l at (decimal v) (at + 1) (set l at (v + digit0))
  unfolding decimal
  one-digit h = rw (digits-one 19 v h) (record { ends = omega arith; left = refl })

  two-are : (k : ℕ) → ten ≤ v → v < 100 → digits_by (suc (suc k)) v ≡ (v / ten + digit0) ∷ (v % ten + digit0) ∷ []
  two-are k g h =
      digits_step (suc k) v g ∙ ap (λ (x : List ℕ). x ++ ((v % ten + digit0) ∷ [])) (digits-one k (v / ten) (omega arith))

  pub two_digits : ten ≤ v → v < 100 → Written l at (decimal v) (at + 2) (set (set l at (v / ten + digit0)) (at + 1) (v % ten + digit0))
  unfolding decimal
  two_digits g h =
      rw (two-are 18 g h)
      (record {
        ends = omega arith;
        left = ap (λ (n : ℕ). set (set l at (v / ten + digit0)) n (v % ten + digit0)) (add-one at);
      })

module _ (l : List ℕ) (at v : ℕ) where
  three-are : (k : ℕ) → 100 ≤ v → v < 1_000 → digits_by (suc (suc (suc k))) v ≡ (v / ten / ten + digit0) ∷ (v / ten % ten + digit0) ∷ (v % ten + digit0) ∷ []
  three-are k g h =
      digits_step (suc (suc k)) v (omega arith)
      ∙ ap (λ (x : List ℕ). x ++ ((v % ten + digit0) ∷ [])) (two-are l at (v / ten) k (omega arith) (omega arith))

  pub three-digits : 100 ≤ v → v < 1_000 → Written l at (decimal v) (at + 3) (set (set (set l at (v / ten / ten + digit0)) (at + 1) (v / ten % ten + digit0)) (at + 2) (v % ten + digit0))
  unfolding decimal
  three-digits g h =
      let e : at + 2 ≡ suc (suc at) = omega arith in
      rw (three-are 17 g h)
      (record {
        ends = omega arith;
        left =
            ap (λ (n : ℕ). set (set (set l at (v / ten / ten + digit0)) n (v / ten % ten + digit0)) (at + 2) (v % ten + digit0)) (add-one at)
            ∙ ap (λ (n : ℕ). set (set (set l at (v / ten / ten + digit0)) (suc at) (v / ten % ten + digit0)) n (v % ten + digit0)) e;
      })

module _ (l : List ℕ) (at v : ℕ) where
  four_are : 1_000 ≤ v → v < 10_000 → decimal v ≡ (v / ten / ten / ten + digit0) ∷ (v / ten / ten % ten + digit0) ∷ (v / ten % ten + digit0) ∷ (v % ten + digit0) ∷ []
  unfolding decimal
  four_are g h =
      digits_step 19 v (omega arith)
      ∙ ap (λ (x : List ℕ). x ++ ((v % ten + digit0) ∷ [])) (three-are l at (v / ten) 16 (omega arith) (omega arith))

  pub four-digits : 1_000 ≤ v → v < 10_000 → Written l at (decimal v) (at + 4) (set (set (set (set l at (v / ten / ten / ten + digit0)) (at + 1) (v / ten / ten % ten + digit0)) (at + 2) (v / ten % ten + digit0)) (at + 3) (v % ten + digit0))
  four-digits g h =
      let e : at + 2 ≡ suc (suc at) = omega arith in
      let f : at + 3 ≡ suc (suc (suc at)) = omega arith in
      let first = set l at (v / ten / ten / ten + digit0) in
      rw (four_are g h)
      (record {
        ends = omega arith;
        left =
            ap (λ (n : ℕ). set (set (set first n (v / ten / ten % ten + digit0)) (at + 2) (v / ten % ten + digit0)) (at + 3) (v % ten + digit0)) (add-one at)
            ∙ ap (λ (n : ℕ). set (set (set first (suc at) (v / ten / ten % ten + digit0)) n (v / ten % ten + digit0)) (at + 3) (v % ten + digit0)) e
            ∙ ap (λ (n : ℕ). set (set (set first (suc at) (v / ten / ten % ten + digit0)) (suc (suc at)) (v / ten % ten + digit0)) n (v % ten + digit0)) f;
      })
