-- The number d of the sentence on keys: the changes are as many as the keys in which the two masks differ, and there are
-- none to the mask that is told already. Assumes nothing.
use Prim.Native.Nat.{ℕ, ◌+◌}
use mathlib.Core.Path.{◌≡◌, refl, ap₂, ◌∙◌}
use mathlib.Core.Bool.{Bool, true, false, not}
use mathlib.Core.List.{List, [], ◌∷◌, map}
use native.Mathlib.Omega.{arith}
use lib.ListN.{length, length-append, length-map}
use Rattle.fingers.specs.declared.gestures.Gesture.TheVariants.{KeyUp, KeyDown}
use Rattle.panel.specs.Tests.{◌and◌, ◌or◌}
use Rattle.history.specs.Keys.{has, filter, put_if, all_keys, lacking, differing, changes}
use Rattle.history.proofs.KeyBits.{keep_same}

-- a key is in one mask alone, in the other alone, or in neither
put-split : (p q : Bool) (key : ℕ) (xs ys zs : List ℕ) → length xs + length ys ≡ length zs →
    length (put_if (p and not q) key xs) + length (put_if (q and not p) key ys) ≡ length (put_if ((p and not q) or (q and not p)) key zs)
unfolding ◌and◌ ◌or◌
put-split true true key xs ys zs e = e
put-split true false key xs ys zs e = omega arith
put-split false true key xs ys zs e = omega arith
put-split false false key xs ys zs e = e

split : (f g : ℕ → Bool) (keys : List ℕ) →
    length (filter (λ key. f key and not (g key)) keys) + length (filter (λ key. g key and not (f key)) keys)
    ≡ length (filter (λ key. (f key and not (g key)) or (g key and not (f key))) keys)
unfolding filter
split f g [] = refl
split f g (key ∷ keys) = put-split (f key) (g key) key _ _ _ (split f g keys)

-- "differs in d keys .. tell each change once"
pub as-many-changes : (told mask : ℕ) → length (changes told mask) ≡ length (differing told mask)
unfolding changes lacking differing
as-many-changes told mask =
    length-append (map KeyUp (lacking told mask)) (map KeyDown (lacking mask told))
    ∙ ap₂ (λ (x y : ℕ). x + y) (length-map (lacking told mask) KeyUp) (length-map (lacking mask told) KeyDown) ∙ split (has told) (has mask) all_keys

in-neither : (p : Bool) → (p and not p) ≡ false
unfolding ◌and◌
in-neither true = refl
in-neither false = refl

none_kept : filter (λ key. false) all_keys ≡ []
unfolding filter
none_kept = refl

none-lacking : (mask : ℕ) → lacking mask mask ≡ []
unfolding lacking
none-lacking mask = keep_same _ _ (λ key k. in-neither (has mask key)) ∙ none_kept

pub no-changes : (mask : ℕ) → changes mask mask ≡ []
unfolding changes
no-changes mask = rw (none-lacking mask)
