-- Pieces of a line as the code writes them, one after the other. Assumes nothing.
use Prim.Native.Nat.{ℕ, suc, ◌+◌, ◌-◌, ◌≤◌}
use mathlib.Core.Path.{◌≡◌, refl, sym, ap, ◌∙◌}
use mathlib.Core.List.{List, [], ◌∷◌, ◌++◌, append_assoc, append-nil}
use native.Mathlib.Omega.{arith}
use native.Mathlib.Numerals.{add-one}
use borrow.Rule.Slice.PartMut.{put_mid, Post-is}
use lib.ListN.{length, take, drop, set, length-append}
use lib.Seq.{sets, sets-eq}
use Rattle.text.specs.Words.{space, newline, spaced, line}
use Rattle.text.specs.code.Written.{Written}

sets-append : (xs l ys : List ℕ) (i : ℕ) → sets (sets l i xs) (i + length xs) ys ≡ sets l i (xs ++ ys)
sets-append [] l ys i = let e : i + 0 ≡ i = omega arith in rw e
sets-append (x ∷ xs) l ys i =
    let e : i + suc (length xs) ≡ suc i + length xs = omega arith in
    rw e (sets-append xs (set l i x) ys (suc i))

pub sets_more : (l xs : List ℕ) (at x : ℕ) → set (sets l at xs) (at + length xs) x ≡ sets l at (xs ++ (x ∷ []))
sets_more l xs at x = sets-append xs l (x ∷ []) at

-- one piece after another
pub written_then : {l : List ℕ} {at : ℕ} {xs ys : List ℕ} {a r : ℕ} {m l' : List ℕ} → Written l at xs a m → Written m a ys r l' → Written l at (xs ++ ys) r l'
written_then {l} {at} {xs} {ys} {a} {r} {m} {l'} p q =
    record {
      ends = omega (arith, p.ends, q.ends, length-append xs ys);
      left =
          q.left
          ∙ ap (λ (x : List ℕ). sets x a ys) p.left
          ∙ ap (λ (x : ℕ). sets (sets l at xs) x ys) p.ends
          ∙ sets-append xs l ys at;
    }

-- a byte and then a piece
pub written_after : (l : List ℕ) (at b : ℕ) (xs : List ℕ) (r : ℕ) (l' : List ℕ) → Written (set l at b) (at + 1) xs r l' → Written l at (b ∷ xs) r l'
written_after l at b xs r l' p =
    record { ends = omega (arith, p.ends); left = p.left ∙ ap (λ (n : ℕ). sets (set l at b) n xs) (add-one at) }

-- other names for the bytes that were written
pub written_as : {l : List ℕ} {at : ℕ} {xs ys : List ℕ} {r : ℕ} {l' : List ℕ} → xs ≡ ys → Written l at xs r l' → Written l at ys r l'
written_as e p = rw (← e) p

pub written_none : (l : List ℕ) (at : ℕ) → Written l at [] at l
written_none l at = record { ends = omega arith; left = refl }

-- Words with a space before each.

spaced-one : (w : List ℕ) → space ∷ w ≡ spaced (w ∷ [])
unfolding spaced
spaced-one w = sym (append-nil (space ∷ w))

spaced-both : (ws vs : List (List ℕ)) → spaced ws ++ spaced vs ≡ spaced (ws ++ vs)
unfolding spaced
spaced-both [] vs = refl
spaced-both (w ∷ ws) vs = append_assoc (space ∷ w) (spaced ws) (spaced vs) ∙ ap (λ (l : List ℕ). (space ∷ w) ++ l) (spaced-both ws vs)

pub word_after : (l : List ℕ) (at : ℕ) (w : List ℕ) (r : ℕ) (l' : List ℕ) → Written (set l at space) (at + 1) w r l' → Written l at (spaced (w ∷ [])) r l'
word_after l at w r l' p = written_as (spaced-one w) (written_after l at space w r l' p)

pub words-then : (ws vs : List (List ℕ)) {l : List ℕ} {at : ℕ} {a r : ℕ} {m l' : List ℕ} → Written l at (spaced ws) a m → Written m a (spaced vs) r l' → Written l at (spaced (ws ++ vs)) r l'
words-then ws vs p q = written_as (spaced-both ws vs) (written_then p q)

pub line_of : (ws : List (List ℕ)) {l : List ℕ} {at : ℕ} {w : List ℕ} {a b r : ℕ} {m m₂ l' : List ℕ} → Written l at w a m → Written m a (spaced ws) b m₂ → Written m₂ b (newline ∷ []) r l' → Written l at (line w ws) r l'
unfolding line
line_of ws p q u = written_then p (written_then q u)

-- A word, copied over the part of the room that it takes.

pub copied : (l : List ℕ) (at : ℕ) (w part : List ℕ) → at + length w ≤ length l → part ≡ w → Written l at w (at + length w) (put_mid at (at + length w - at) l part)
copied l at w part h e =
    record {
      ends = refl;
      left =
          ap (put_mid at (at + length w - at) l) e
          ∙ ap (λ (x : List ℕ). take at l ++ (w ++ x)) (Post-is at (at + length w) l (omega arith))
          ∙ sym (append_assoc (take at l) w (drop (at + length w) l))
          ∙ sym (sets-eq w l at h);
    }

pub letter-after : (l : List ℕ) (at x y : ℕ) → x ≡ y → Written l at (spaced ((y ∷ []) ∷ [])) (at + 2) (set (set l at space) (at + 1) x)
letter-after l at x y e = rw (← e) (word_after l at (x ∷ []) (at + 2) _ (record { ends = omega arith; left = refl }))
