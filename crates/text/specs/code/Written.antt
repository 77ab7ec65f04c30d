-- What a writer of words or lines leaves.
use Rattle.std.specs.Prelude.{ℕ, ◌+◌, List, ◌≡◌, length}
use Rattle.std.proofs.lemmas.List.Edits.{sets}

-- bytes at a place of some room: where they end, and the room after that
pub record Written (room : List ℕ) (at : ℕ) (bytes : List ℕ) (to : ℕ) (after : List ℕ) : Type 0 where
  pub ends : to ≡ at + length bytes
  pub left : after ≡ sets room at bytes
