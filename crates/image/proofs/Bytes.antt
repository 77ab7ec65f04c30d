-- Bytes stored at a place and read from one, and the numbers that they are. Assumes nothing.
use Prim.Native.Nat.{ℕ, suc, ◌+◌, ◌-◌, ◌≤◌, ◌<◌}
use mathlib.Core.Path.{◌≡◌, refl, sym, ◌∙◌, ap}
use mathlib.Core.List.{List, [], ◌∷◌, ◌++◌, append_assoc}
use native.Mathlib.Nat.{mod-eq_of_lt}
use native.Mathlib.Omega.{arith}
use lib.Dec.{lit<}
use lib.ListN.{length, get_or, take, drop}
use lib.Seq.{sets, sets-eq}
use borrow.Rule.Slice.PartMut.{put_mid, Post-is}
use Rattle.std.specs.Int.{w16, w32, w64, to_le_bytes, from_le_bytes}
use Rattle.std.proofs.lemmas.List.{get_or-take, get_or-drop}
use Rattle.image.specs.Rows.{bytes_of}
use Rattle.image.specs.code.Numbers.{number_at}

-- bytes copied over the part of an area that begins at a place
pub put-at : (area : List ℕ) (at n : ℕ) (now bytes : List ℕ) → at + n ≤ length area → length now ≡ n → now ≡ bytes → put_mid at (at + n - at) area now ≡ sets area at bytes
put-at area at n now bytes room long same =
    let long' : at + length bytes ≡ at + n = ap (λ (l : List ℕ). at + length l) (sym same) ∙ ap (λ (k : ℕ). at + k) long in
    let before : at ≤ at + n = omega arith in
    (λ i. take at area ++ (same i ++ Post-is at (at + n) area before i))
    ∙ ap (λ (k : ℕ). take at area ++ (bytes ++ drop k area)) (sym long')
    ∙ sym (append_assoc (take at area) bytes (drop (at + length bytes) area))
    ∙ sym (sets-eq bytes area at (omega arith))

-- a byte is its own number
pub bytes-1 : (v : ℕ) → v < 256 → v ∷ [] ≡ bytes_of 1 v
unfolding bytes_of
bytes-1 v h = ap (λ (b : ℕ). b ∷ []) (sym (mod-eq_of_lt h))

pub bytes-2 : (v : ℕ) → to_le_bytes w16 v ≡ bytes_of 2 v
unfolding bytes_of
bytes-2 v = refl

module _ (area : List ℕ) (at : ℕ) where
  -- a byte of those that are read, by its place in the area
  byte-at : (n i j : ℕ) → i < n → at + i ≡ j → get_or (take n (drop at area)) i 0 ≡ get_or area j 0
  byte-at n i j h e = get_or-take n (drop at area) i 0 h ∙ get_or-drop at area i 0 ∙ ap (λ (k : ℕ). get_or area k 0) e

  pub read-1 : get_or area at 0 ≡ number_at area at 1
  unfolding number_at
  read-1 = omega arith

  pub read-2 : from_le_bytes w16 (take 2 (drop at area)) ≡ number_at area at 2
  unfolding number_at
  read-2 =
      let b0 = byte-at 2 0 at (lit< tt) (omega arith) in
      let b1 = byte-at 2 1 (suc at) (lit< tt) (omega arith) in
      omega (arith, b0, b1)

  pub read-4 : from_le_bytes w32 (take 4 (drop at area)) ≡ number_at area at 4
  unfolding number_at
  read-4 =
      let b0 = byte-at 4 0 at (lit< tt) (omega arith) in
      let b1 = byte-at 4 1 (suc at) (lit< tt) (omega arith) in
      let b2 = byte-at 4 2 (suc (suc at)) (lit< tt) (omega arith) in
      let b3 = byte-at 4 3 (suc (suc (suc at))) (lit< tt) (omega arith) in
      omega (arith, b0, b1, b2, b3)

  pub read-8 : from_le_bytes w64 (take 8 (drop at area)) ≡ number_at area at 8
  unfolding number_at
  read-8 =
      let b0 = byte-at 8 0 at (lit< tt) (omega arith) in
      let b1 = byte-at 8 1 (suc at) (lit< tt) (omega arith) in
      let b2 = byte-at 8 2 (suc (suc at)) (lit< tt) (omega arith) in
      let b3 = byte-at 8 3 (suc (suc (suc at))) (lit< tt) (omega arith) in
      let b4 = byte-at 8 4 (suc (suc (suc (suc at)))) (lit< tt) (omega arith) in
      let b5 = byte-at 8 5 (suc (suc (suc (suc (suc at))))) (lit< tt) (omega arith) in
      let b6 = byte-at 8 6 (suc (suc (suc (suc (suc (suc at)))))) (lit< tt) (omega arith) in
      let b7 = byte-at 8 7 (suc (suc (suc (suc (suc (suc (suc at))))))) (lit< tt) (omega arith) in
      omega (arith, b0, b1, b2, b3, b4, b5, b6, b7)
