-- Reading and writing a number in the documents' numbers: where reading stops and why, that a writer alters nothing where it
-- refuses and no other byte where it writes, and that a contract leaves no second answer. Assumes nothing.
use Rattle.std.specs.Prelude.{Result}
use Prim.Native.Nat.{ℕ, ◌+◌}
use mathlib.Core.Path.{◌≡◌, refl, ap, ◌∙◌}
use mathlib.Core.Bool.{true, false}
use mathlib.Core.List.{List, ◌++◌}
use lib.ListN.{length, take, drop}
use Rattle.panel.proofs.Follow.{if-of, if-true}
use Rattle.panel.proofs.Promises.{one_answer}
use Rattle.panel.specs.Refusals.{Told}
use Rattle.panel.specs.Tests.{when◌then◌else◌, ◌≤?◌, ◌<?◌}
use Rattle.numbers.specs.Numbers.{whole, endless, early, bytes_of, value_of, needless, judged, number_at, number_from, told_to}
use Rattle.numbers.specs.Writing.{wrote_of, written_of, told_write}
use Rattle.numbers.specs.declared.reading.Stop.{Stop}
use Rattle.panel.specs.declared.refusals.Refusal.{Refusal}

abbrev tells : {A : Type 0} → ℕ → A → Told A
tells n a = record { number = n; value = a }

-- "Ten groups without a last: BIG; ended early: CUT; needless zero group: FORM; too large: BIG, in that order."
module _ (at most : ℕ) where
  pub endless-tells : told_to (judged at most endless) ≡ tells 11 at
  endless-tells = refl

  pub early-tells : told_to (judged at most early) ≡ tells 9 at
  early-tells = refl

  pub whole_tells : (gs : List ℕ) → told_to (judged at most (whole gs)) ≡ when◌then◌else◌ (needless gs) (tells 10 at) (when◌then◌else◌ (most <? value_of gs) (tells 11 at) (tells 0 (at + length gs)))
  whole_tells gs = if-of told_to (needless gs) _ _ ∙ ap (λ (t : Told ℕ). when◌then◌else◌ (needless gs) (tells 10 at) t) (if-of told_to _ _ _)

-- ROOM, 14, exactly for bytes that are longer than the room that is left. Where it is told nothing is altered; else the
-- bytes stand at their place, and before and behind them what was there.
module _ (room : List ℕ) (at : ℕ) (bytes : List ℕ) where
  pub write-tells : told_write (wrote_of room at bytes) ≡ when◌then◌else◌ (at + length bytes ≤? length room) (tells 0 (at + length bytes)) (tells 14 0)
  unfolding wrote_of
  write-tells = if-of told_write _ _ _

  pub no_room : at + length bytes ≤? length room ≡ false → (told_write (wrote_of room at bytes) ≡ tells 14 0) × (written_of room at bytes ≡ room)
  unfolding wrote_of written_of when◌then◌else◌
  no_room h = (simp h, simp h)

  pub no-other-byte : at + length bytes ≤? length room ≡ true → written_of room at bytes ≡ take at room ++ bytes ++ drop (at + length bytes) room
  unfolding written_of
  no-other-byte h = if-true _ _ _ h

-- Each contract determines the whole answer, and the bytes lent to the writer.
pub number-unique : (bytes : List ℕ) (at most : ℕ) {r s : Result (ℕ × ℕ) Stop} → r ≡ number_at bytes at most → s ≡ number_at bytes at most → r ≡ s
number-unique bytes at most = one_answer

pub number-from-unique : (bytes : List ℕ) (from : Result ℕ Stop) (most : ℕ) {r s : Result (ℕ × ℕ) Stop} → r ≡ number_from bytes from most → s ≡ number_from bytes from most → r ≡ s
number-from-unique bytes from most = one_answer

-- a byte and a coordinate as 64 bits: the library's `u64::from`, whose law is that it is the same number
pub wide-unique : (x : ℕ) {r s : ℕ} → r ≡ x → s ≡ x → r ≡ s
wide-unique x = one_answer

pub length-unique : (v : ℕ) {r s : ℕ} → r ≡ length (bytes_of v) → s ≡ length (bytes_of v) → r ≡ s
length-unique v = one_answer

module _ (room : List ℕ) (at : ℕ) (bytes : List ℕ) where
  pub write-unique : {r s : Result ℕ Refusal} → r ≡ wrote_of room at bytes → s ≡ wrote_of room at bytes → r ≡ s
  write-unique = one_answer

  pub written-unique : {r s : List ℕ} → r ≡ written_of room at bytes → s ≡ written_of room at bytes → r ≡ s
  written-unique = one_answer
