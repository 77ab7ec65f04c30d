-- Bytes in their place: what the writers answer and leave. Assumes nothing.
use Rattle.std.specs.Prelude.{Result, Ok, Err}
use Prim.Native.Nat.{ℕ, ◌+◌, ◌≤◌, ◌<◌}
use mathlib.Core.Path.{◌≡◌, sym, ap, ◌∙◌}
use mathlib.Core.List.{List}
use lib.ListN.{length}
use lib.Seq.{sets, sets-eq}
use borrow.Author.Tests.{le-leb}
use Rattle.panel.proofs.Follow.{follow, if-true}
use Rattle.panel.specs.declared.refusals.Refusal.TheVariants.{Room}
use Rattle.numbers.specs.Writing.{wrote_of, written_of}
use Rattle.panel.specs.declared.refusals.Refusal.{Refusal}

abbrev pub Left : List ℕ → ℕ → List ℕ → Result ℕ Refusal → List ℕ → Type 0
Left l at bs r l' = (r ≡ wrote_of l at bs) × (l' ≡ written_of l at bs)

pub no_room : (l : List ℕ) (at : ℕ) (bs : List ℕ) → length l < at + length bs → Left l at bs (Err Room) l
unfolding wrote_of written_of
no_room l at bs h = (search follow, search follow)

pub with-room : (l : List ℕ) (at : ℕ) (bs : List ℕ) (r : ℕ) (l' : List ℕ) → at + length bs ≤ length l → r ≡ at + length bs → l' ≡ sets l at bs → Left l at bs (Ok r) l'
unfolding wrote_of written_of
with-room l at bs r l' h e f = (
  ap Ok e ∙ sym (if-true _ _ _ (le-leb (at + length bs) (length l) h)),
  f ∙ sets-eq bs l at h ∙ sym (if-true _ _ _ (le-leb (at + length bs) (length l) h)),
)
