-- Eight bytes of a number taken out by shifts and masks, each stored by itself, are those that the image has: no number of 64 bits is
-- divided to store one. Assumes nothing.
use Prim.Native.Nat.{ℕ, suc, ◌+◌, ◌%◌, ◌/◌}
use mathlib.Core.Path.{◌≡◌, refl, ◌∙◌, ap}
use mathlib.Core.List.{List}
use native.Mathlib.Numerals.{add-one}
use native.Mathlib.Omega.{arith}
use lib.Bits.{bit_and, and_mask}
use lib.ListN.{set}
use lib.Seq.{sets}
use Rattle.image.specs.Rows.{bytes_of}

-- Places past one another.

two : (at : ℕ) → at + 2 ≡ suc (suc at)
two at = omega arith

three : (at : ℕ) → at + 3 ≡ suc (suc (suc at))
three at = omega arith

four : (at : ℕ) → at + 4 ≡ suc (suc (suc (suc at)))
four at = omega arith

five : (at : ℕ) → at + 5 ≡ suc (suc (suc (suc (suc at))))
five at = omega arith

six : (at : ℕ) → at + 6 ≡ suc (suc (suc (suc (suc (suc at)))))
six at = omega arith

seven : (at : ℕ) → at + 7 ≡ suc (suc (suc (suc (suc (suc (suc at))))))
seven at = omega arith

-- The low byte, `n & 255`.

abbrev pub low : ℕ → ℕ
low n = bit_and n 255

low-is : (n : ℕ) {m : ℕ} → n ≡ m → low n ≡ m % 256
low-is n e = and_mask n 8 ∙ ap (λ (k : ℕ). k % 256) e

module _ (area : List ℕ) (at : ℕ) where
  -- of eight bytes each is taken out by `& 255`
  pub stored-8 : (v v1 v2 v3 v4 v5 v6 v7 : ℕ) → v1 ≡ v / 256 → v2 ≡ v1 / 256 → v3 ≡ v2 / 256 → v4 ≡ v3 / 256 → v5 ≡ v4 / 256 → v6 ≡ v5 / 256 → v7 ≡ v6 / 256
      → set (set (set (set (set (set (set (set area at (low v)) (at + 1) (low v1)) (at + 2) (low v2)) (at + 3) (low v3)) (at + 4) (low v4)) (at + 5) (low v5)) (at + 6) (low v6)) (at + 7) (low v7)
      ≡ sets area at (bytes_of 8 v)
  unfolding bytes_of
  stored-8 v v1 v2 v3 v4 v5 v6 v7 e1 e2 e3 e4 e5 e6 e7 =
      let f2 = e2 ∙ ap (λ (n : ℕ). n / 256) e1 in
      let f3 = e3 ∙ ap (λ (n : ℕ). n / 256) f2 in
      let f4 = e4 ∙ ap (λ (n : ℕ). n / 256) f3 in
      let f5 = e5 ∙ ap (λ (n : ℕ). n / 256) f4 in
      let f6 = e6 ∙ ap (λ (n : ℕ). n / 256) f5 in
      let f7 = e7 ∙ ap (λ (n : ℕ). n / 256) f6 in
      λ i. set (set (set (set (set (set (set (set area at (low-is v refl i)) (add-one at i) (low-is v1 e1 i)) (two at i) (low-is v2 f2 i)) (three at i) (low-is v3 f3 i)) (four at i) (low-is v4 f4 i)) (five at i) (low-is v5 f5 i)) (six at i) (low-is v6 f6 i)) (seven at i) (low-is v7 f7 i)
