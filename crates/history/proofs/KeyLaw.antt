-- The key step tells the first of the changes that are left, and nothing where none is. Assumes nothing.
use Rattle.std.specs.Prelude.{Option, Some, None}
use Prim.Native.Nat.{ℕ, zero, ◌<◌}
use mathlib.Core.Path.{◌≡◌, refl, sym, subst, ap, ◌∙◌}
use mathlib.Core.Bool.{true, false}
use mathlib.Core.List.{List, [], ◌∷◌, ◌++◌, map}
use mathlib.Core.Logic.{⊎_elim}
use native.Mathlib.Nat.{eq-zero-or-pos}
use native.Mathlib.Omega.{arith}
use borrow.Author.Tests.{lt-ltb, le-ltb}
use Rattle.fingers.specs.Gestures.{is_key_change, is_one_finger}
use Rattle.fingers.proofs.Bytes.{lowest-lt}
use Rattle.fingers.specs.Keys.{without, lowest, flipped, key_step}
use Rattle.fingers.specs.declared.gestures.Gesture.{Gesture}
use Rattle.fingers.specs.declared.gestures.Gesture.TheVariants.{KeyUp, KeyDown}
use Rattle.panel.proofs.Follow.{if-true, if-false}
use Rattle.panel.specs.Tests.{when◌then◌else◌}
use Rattle.history.specs.Keys.{has, filter, all_keys, lacking, changes, told_by}
use Rattle.history.proofs.KeyBits.{flip_is, flip-lt, low-has, low-keys, no_keys, more-is, lacks-lt, out-more, out-others, in-more, in-others, in-first, not-second}

-- what a key step comes to: the change that it tells, with the mask told after it, or none
abbrev pub KeyStep : Type 0
KeyStep = Option (Gesture × ℕ)

-- from the mask a told to the mask b wanted: g is told, and gs are left after it
pub record Tells (a b : ℕ) (g : Gesture) (gs : List Gesture) (k : KeyStep) : Type 0 where
  pub is : k ≡ Some (g, told_by a g)
  pub key : is_key_change g ≡ true
  pub one : is_one_finger g ≡ false
  pub byte : told_by a g < 256
  pub rest : changes (told_by a g) b ≡ gs

abbrev pub KeyIs : ℕ → ℕ → List Gesture → KeyStep → Type 0
KeyIs a b [] k = k ≡ None
KeyIs a b (g ∷ gs) k = Tells a b g gs k

told-up : (a c : ℕ) → a < 256 → c < 8 → has a c ≡ true → told_by a (KeyUp c) ≡ flipped a c
unfolding when◌then◌else◌
told-up a c h k e = rw (flip_is a c h k, e)

told-down : (a c : ℕ) → a < 256 → c < 8 → has a c ≡ false → told_by a (KeyDown c) ≡ flipped a c
unfolding when◌then◌else◌
told-down a c h k e = rw (flip_is a c h k, e)

made : (a b : ℕ) (g : Gesture) (gs : List Gesture) (k : KeyStep) (a' : ℕ) → told_by a g ≡ a' → k ≡ Some (g, a') → is_key_change g ≡ true → is_one_finger g ≡ false → a' < 256 → changes a' b ≡ gs → Tells a b g gs k
made a b g gs k a' e p q r s t = record { is = rw e p; key = q; one = r; byte = rw e s; rest = rw e t }

-- a release is left
up-law : (a b : ℕ) → a < 256 → b < 256 → zero < without a b → KeyIs a b (changes a b) (key_step a b)
unfolding changes key_step
up-law a b ha hb p =
    let u = without a b in
    let c = lowest u in
    let hc : c < 8 = lowest-lt u p (lacks-lt a b ha) in
    let f = low-has u p (lacks-lt a b ha) in
    let fa = in-first a b c hb hc f in
    let fb = not-second a b c hb hc f in
    let r = filter (has (flipped u c)) all_keys in
    let e : lacking a b ≡ c ∷ r = more-is a b hb ∙ low-keys u p (lacks-lt a b ha) in
    let n : changes (flipped a c) b ≡ map KeyUp r ++ map KeyDown (lacking b a) = rw (out-more a b c ha hb hc fa fb, out-others a b c ha hb hc fb) in
    subst (λ (l : List ℕ). KeyIs a b (map KeyUp l ++ map KeyDown (lacking b a)) (key_step a b)) (sym e)
    (made a b (KeyUp c) _ _ (flipped a c) (told-up a c ha hc fa) (if-true _ _ _ (lt-ltb 0 u p)) refl refl (flip-lt a c ha hc) n)

none-lacking : (a b : ℕ) → b < 256 → without a b ≡ zero → lacking a b ≡ []
none-lacking a b h e = more-is a b h ∙ ap (λ (u : ℕ). filter (has u) all_keys) e ∙ no_keys

-- no release is left, and a press is
down-law : (a b : ℕ) → a < 256 → b < 256 → without a b ≡ zero → zero < without b a → KeyIs a b (changes a b) (key_step a b)
unfolding changes key_step
down-law a b ha hb z p =
    let u = without b a in
    let c = lowest u in
    let hc : c < 8 = lowest-lt u p (lacks-lt b a hb) in
    let f = low-has u p (lacks-lt b a hb) in
    let fb = in-first b a c ha hc f in
    let fa = not-second b a c ha hc f in
    let r = filter (has (flipped u c)) all_keys in
    let e : lacking b a ≡ c ∷ r = more-is b a ha ∙ low-keys u p (lacks-lt b a hb) in
    let n : changes (flipped a c) b ≡ map KeyDown r = rw (in-others a b c ha hb hc fa fb, none-lacking a b hb z, in-more a b c ha hb hc fa fb) in
    subst (λ (l : List ℕ). KeyIs a b (map KeyUp l ++ map KeyDown (lacking b a)) (key_step a b)) (sym (none-lacking a b hb z))
    (subst (λ (l : List ℕ). KeyIs a b (map KeyDown l) (key_step a b)) (sym e)
    (made a b (KeyDown c) _ _ (flipped a c) (told-down a c ha hc fa) (if-false _ _ _ (le-ltb 0 (without a b) (omega (arith, z))) ∙ if-true _ _ _ (lt-ltb 0 u p)) refl refl (flip-lt a c ha hc) n))

none-law : (a b : ℕ) → a < 256 → b < 256 → without a b ≡ zero → without b a ≡ zero → KeyIs a b (changes a b) (key_step a b)
unfolding changes key_step
none-law a b ha hb z y =
    subst (λ (l : List ℕ). KeyIs a b (map KeyUp l ++ map KeyDown (lacking b a)) (key_step a b)) (sym (none-lacking a b hb z))
    (subst (λ (l : List ℕ). KeyIs a b (map KeyDown l) (key_step a b)) (sym (none-lacking b a ha y))
    (if-false _ _ _ (le-ltb 0 (without a b) (omega (arith, z))) ∙ if-false _ _ _ (le-ltb 0 (without b a) (omega (arith, y)))))

pub key-law : (a b : ℕ) → a < 256 → b < 256 → KeyIs a b (changes a b) (key_step a b)
key-law a b h k =
    ⊎_elim (λ z. ⊎_elim (λ y. none-law a b h k z y) (λ p. down-law a b h k z p) (eq-zero-or-pos (without b a))) (λ p. up-law a b h k p) (eq-zero-or-pos (without a b))
