-- Flags, the numbers of few values: each fits a byte, is the truth that was written, passes the looking, and stands for itself
-- where it passed. Assumes nothing.
use Prim.Native.Nat.{ℕ, zero, suc, ◌+◌, ◌*◌, ◌%◌, ◌≤◌, ◌<◌}
use mathlib.Core.Path.{◌≡◌, refl, sym, ◌∙◌, ap}
use mathlib.Core.Bool.{Bool, true, false, not}
use mathlib.Core.List.{List}
use native.Mathlib.Omega.{arith}
use lib.Dec.{lit<, leb, eqb}
use borrow.Author.Tests.{leb-true}
use Rattle.panel.specs.Tests as tests
use Rattle.panel.specs.Tests.{when◌then◌else◌, ◌and◌, bit}
use Rattle.panel.proofs.Follow.{and-true}
use Rattle.image.specs.code.Numbers.{number_at, flag_from, flag_at, is_flag}

pub both : {a b : Bool} → a ≡ true → b ≡ true → ◌and◌ a b ≡ true
both e f = and-true _ _ e ∙ f

pub bit-fits : (b : Bool) → bit b < 256
unfolding tests.bit
bit-fits true = lit< tt
bit-fits false = lit< tt

pub bit-back : (b : Bool) → flag_from (bit b) ≡ b
unfolding flag_from tests.bit tests.when◌then◌else◌
bit-back true = refl
bit-back false = refl

by-not : (b : Bool) → not b ≡ when◌then◌else◌ b false true
unfolding tests.when◌then◌else◌
by-not true = refl
by-not false = refl

-- what is not 0 is true
pub not-none : (n : ℕ) → not (eqb n 0) ≡ flag_from n
unfolding flag_from
not-none n = by-not (eqb n 0)

-- as it is read from the one byte that it was written to
pub flag-passes : (b : Bool) → leb (bit b % 256 + 256 * 0) 1 ≡ true
unfolding tests.bit
flag-passes true = refl
flag-passes false = refl

module _ (A : Type 0) (f : ℕ → A) (back : A → ℕ) (at-0 : back (f 0) ≡ 0) (at_1 : back (f 1) ≡ 1) where
  pub of_two : (n : ℕ) → n ≤ 1 → back (f n) ≡ n
  of_two zero h = at-0
  of_two (suc n) h =
      let e : n ≡ 0 = omega (arith, h) in
      ap (λ (k : ℕ). back (f (suc k))) e ∙ at_1 ∙ sym (ap suc e)

flag_same : (n : ℕ) → n ≤ 1 → bit (flag_from n) ≡ n
unfolding flag_from tests.bit tests.when◌then◌else◌
flag_same n h = of_two Bool flag_from bit refl refl n h

module _ (area : List ℕ) where
  pub is-flag : (at : ℕ) → is_flag area at ≡ true → number_at area at 1 ≤ 1
  unfolding is_flag
  is-flag at e = leb-true _ _ e

  pub flag-stands : (at : ℕ) → is_flag area at ≡ true → bit (flag_at area at) ≡ number_at area at 1
  flag-stands at e = flag_same _ (is-flag at e)
