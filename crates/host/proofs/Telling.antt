-- What C is told of the grab time, from what image answered. Assumes nothing.
use Rattle.std.specs.Prelude.{Result, Ok, Err}
use Rattle.std.specs.Result.{result_unwrap_or}
use Prim.Native.Nat.{ℕ}
use mathlib.Core.Path.{◌≡◌, refl}
use mathlib.Core.List.{[], ◌∷◌}
use Rattle.panel.specs.declared.refusals.Refusal.{Refusal}
use Rattle.gesture.specs.Answers.{told_grab}
use Rattle.host.specs.Hosts.{number_told, grab_told}

pub grab-numbers : (told : Result ℕ Refusal) → grab_told (number_told told) (result_unwrap_or told 0 ∷ []) ≡ grab_told (told_grab told).number ((told_grab told).value ∷ [])
grab-numbers (Ok ms) = refl
grab-numbers (Err why) = refl
