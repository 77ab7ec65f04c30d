-- The trace's public calls in document 01's numbers: where reading stops and why, and that a contract leaves no second answer.
-- What its numbers and its writers tell is in the crate numbers. Assumes nothing.
use Rattle.std.specs.Prelude.{Result, Ok}
use Prim.Native.Nat.{ℕ}
use mathlib.Core.Path.{◌≡◌, refl, ap, ◌∙◌}
use mathlib.Core.Bool.{true}
use mathlib.Core.List.{List}
use lib.ListN.{length}
use borrow.Author.Tests.{ne_eqb}
use Rattle.panel.proofs.Follow.{if-of, if-true, if-false}
use Rattle.panel.proofs.Promises.{one_answer}
use Rattle.panel.specs.Refusals.{Told}
use Rattle.panel.specs.Tests.{when◌then◌else◌, ◌<?◌, ◌=?◌}
use Rattle.numbers.specs.Numbers.{◌>>=◌, number_at, told_place}
use Rattle.numbers.specs.Sizes.{most64}
use Rattle.numbers.specs.declared.reading.Stop.{Stop}
use Rattle.gesture.specs.declared.making.Call as value
use Rattle.trace.specs.Records.{NoKind, record_at, none_at, told_read, of_kind}
use Rattle.trace.specs.Sizes.{version, most_bytes}
use Rattle.trace.specs.Traces.{version_of, head_of}
use Rattle.trace.proofs.Unknown.{record-told}

abbrev tells : {A : Type 0} → ℕ → A → Told A
tells n a = record { number = n; value = a }

-- VERSION, 8, for a first number that is not 1; FILE, 13, for a trace over 65,536 bytes; both at 0.
pub version-tells : (v next : ℕ) → told_place (version_of v next) ≡ when◌then◌else◌ (v =? version) (tells 0 next) (tells 8 0)
version-tells v next = if-of told_place _ _ _

pub file-tells : (bytes : List ℕ) → most_bytes <? length bytes ≡ true → told_place (head_of bytes) ≡ tells 13 0
unfolding head_of
file-tells bytes long = ap told_place (if-true _ _ _ long)

-- KIND, 12, exactly if the number of a record's kind can be read and is none of the six, at the record's own place.
abbrev pub UnknownKind : List ℕ → ℕ → Type 0
UnknownKind bytes at = (kind next : ℕ) × (number_at bytes at most64 ≡ Ok (kind, next)) × NoKind kind

module _ (bytes : List ℕ) (at : ℕ) where
  pub kind-tells : UnknownKind bytes at → told_read (record_at bytes at) ≡ tells 12 (none_at at)
  unfolding record_at of_kind
  kind-tells u =
      let n = u.3 in
      ap (λ (r : Result (ℕ × ℕ) Stop). told_read (r >>= λ k. of_kind bytes at k.0 k.1)) u.2
      ∙ ap told_read
      (if-false _ _ _ (ne_eqb _ _ n.0)
      ∙ if-false _ _ _ (ne_eqb _ _ n.1)
      ∙ if-false _ _ _ (ne_eqb _ _ n.2)
      ∙ if-false _ _ _ (ne_eqb _ _ n.3)
      ∙ if-false _ _ _ (ne_eqb _ _ n.4)
      ∙ if-false _ _ _ (ne_eqb _ _ n.5))

  pub kind-told : (told_read (record_at bytes at)).number ≡ 12 → UnknownKind bytes at
  unfolding record_at
  kind-told e = record-told bytes at (number_at bytes at most64) refl e

-- Each contract determines the whole answer.
module _ (bytes : List ℕ) where
  pub record-unique : (at : ℕ) {r s : Result (value.Call × ℕ) Stop} → r ≡ record_at bytes at → s ≡ record_at bytes at → r ≡ s
  record-unique at = one_answer

  pub head-unique : {r s : Result ℕ Stop} → r ≡ head_of bytes → s ≡ head_of bytes → r ≡ s
  head-unique = one_answer
