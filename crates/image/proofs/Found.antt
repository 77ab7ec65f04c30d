-- What is known of an area that was asked for an array of the image's length, where that is told by a `Result`.
-- Assumes nothing.
use Rattle.std.specs.Prelude.{Option, Some, None, Ok, Err, MatchOption}
use mathlib.Core.Path.{◌≡◌}
use Rattle.std.specs.Option.{ok_or}
use Rattle.panel.specs.declared.refusals.Refusal.{Refusal}

module _ {A : Type 0} (P : Type 0) (Q : A → Type 0) (w : Refusal) where
  pub there : (o : Option A) (x : A) → MatchOption o P Q → Ok x ≡ ok_or o w → Q x
  there None x cases e = absurd cc
  there (Some y) x cases e =
      let same : x ≡ y = cc in
      rw (same) cases

  pub missing : (o : Option A) (why : Refusal) → MatchOption o P Q → Err why ≡ ok_or o w → P × (why ≡ w)
  missing None why cases e = (cases, cc)
  missing (Some y) why cases e = absurd cc
