-- A loop over a list: what one turn looks at. Once for every definition that goes through a list from its head. Assumes
-- nothing.
use Prim.Native.Nat.{ℕ, suc, ◌+◌, ◌<◌}
use mathlib.Core.Path.{◌≡◌}
use mathlib.Core.List.{List, ◌∷◌}
use native.Mathlib.Numerals.{add-one}
use lib.ListN.{length, drop, get_or}
use lib.Seq.{drop-cons}

module _ {A B : Type 0} (f : List A → B) (step : A → B → B) (at-cons : (a : A) (l : List A) → f (a ∷ l) ≡ step a (f l)) where
  pub walk_more : (xs : List A) (i : ℕ) (d : A) → i < length xs → f (drop i xs) ≡ step (get_or xs i d) (f (drop (i + 1) xs))
  walk_more xs i d h = rw (drop-cons xs i d h, add-one) (at-cons (get_or xs i d) (drop (suc i) xs))
