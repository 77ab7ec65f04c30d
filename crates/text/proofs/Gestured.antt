-- The words of gestures, from the pieces in which the code writes them, and by value. Assumes nothing.
use Prim.Native.Nat.{ℕ, zero, suc, ◌+◌, ◌-◌, ◌≤◌}
use mathlib.Core.Bool.{Bool}
use mathlib.Core.List.{List, [], ◌∷◌, ◌++◌}
use mathlib.Core.Path.{◌≡◌, ap, ◌∙◌}
use native.Mathlib.Omega.{arith}
use lib.ListN.{length, drop, replicate, length-append, length-replicate}
use lib.Seq.{sets-eq}
use Rattle.fingers.specs.declared.gestures.Gesture.{Gesture}
use Rattle.fingers.specs.declared.gestures.Gesture.TheVariants.{Drag, Move, Pinch, PinchEnd}
use Rattle.panel.specs.Tests.{bit}
use Rattle.panel.specs.declared.axes.Axis.{Axis}
use Rattle.panel.specs.declared.points.Point.{Point}
use Rattle.text.specs.Gestures.{words_of, axis_word, gesture_text_of}
use Rattle.text.specs.Sizes.{words_most}
use Rattle.text.specs.Words.{ascii, decimal, spaced}
use Rattle.text.specs.code.Written.{Written}
use Rattle.text.proofs.Writing.{words-then}

abbrev xy : Point → List (List ℕ)
xy p = decimal p.x ∷ decimal p.y ∷ []

pub drag-words : (start p : Point) (axis : Axis) {l : List ℕ} {at a b c r : ℕ} {m m₂ m₃ l' : List ℕ} →
    Written l at (spaced (ascii "Drag" ∷ [])) a m → Written m a (spaced (xy start)) b m₂ → Written m₂ b (spaced (xy p)) c m₃ → Written m₃ c (spaced (axis_word axis ∷ [])) r l' →
    Written l at (spaced (words_of (Drag start p axis))) r l'
unfolding words_of
drag-words start p axis u v w x =
    words-then (ascii "Drag" ∷ decimal start.x ∷ decimal start.y ∷ decimal p.x ∷ decimal p.y ∷ []) (axis_word axis ∷ [])
    (words-then (ascii "Drag" ∷ decimal start.x ∷ decimal start.y ∷ []) (xy p) (words-then (ascii "Drag" ∷ []) (xy start) u v) w)
    x

pub move-words : (prev p : Point) {l : List ℕ} {at a b r : ℕ} {m m₂ l' : List ℕ} →
    Written l at (spaced (ascii "Move" ∷ [])) a m → Written m a (spaced (xy prev)) b m₂ → Written m₂ b (spaced (xy p)) r l' →
    Written l at (spaced (words_of (Move prev p))) r l'
unfolding words_of
move-words prev p u v w =
    words-then (ascii "Move" ∷ decimal prev.x ∷ decimal prev.y ∷ []) (xy p) (words-then (ascii "Move" ∷ []) (xy prev) u v) w

pub pinch-words : (axis : Axis) (span0 span : ℕ) {l : List ℕ} {at a b c r : ℕ} {m m₂ m₃ l' : List ℕ} →
    Written l at (spaced (ascii "Pinch" ∷ [])) a m → Written m a (spaced (axis_word axis ∷ [])) b m₂ → Written m₂ b (spaced (decimal span0 ∷ [])) c m₃ → Written m₃ c (spaced (decimal span ∷ [])) r l' →
    Written l at (spaced (words_of (Pinch axis span0 span))) r l'
unfolding words_of
pinch-words axis span0 span u v w x =
    words-then (ascii "Pinch" ∷ axis_word axis ∷ decimal span0 ∷ []) (decimal span ∷ [])
    (words-then (ascii "Pinch" ∷ axis_word axis ∷ []) (decimal span0 ∷ []) (words-then (ascii "Pinch" ∷ []) (axis_word axis ∷ []) u v) w)
    x

pub pinch-end-words : (released : Bool) (v : ℕ) {l : List ℕ} {at r : ℕ} {l' : List ℕ} → v ≡ bit released →
    Written l at (spaced (ascii "PinchEnd" ∷ decimal v ∷ [])) r l' → Written l at (spaced (words_of (PinchEnd released))) r l'
unfolding words_of
pinch-end-words released v e p = rw (← e) p

-- the words of the gesture that the match found
pub gave : (g g' : Gesture) {l : List ℕ} {at r : ℕ} {l' : List ℕ} → g ≡ g' → Written l at (spaced (words_of g')) r l' × (r ≤ at + words_most) → Written l at (spaced (words_of g)) r l' × (r ≤ at + words_most)
gave g g' e p = rw e p

-- By value: what is written over zeros.

abbrev zeros : ℕ → List ℕ
zeros n = replicate n 0

drop-zeros : (k n : ℕ) → drop k (zeros n) ≡ zeros (n - k)
drop-zeros zero n = let e : n ≡ n - 0 = omega arith in ap zeros e
drop-zeros (suc k) zero = let e : 0 ≡ 0 - suc k = omega arith in ap zeros e
drop-zeros (suc k) (suc n) = let e : n - k ≡ suc n - suc k = omega arith in drop-zeros k n ∙ ap zeros e

over_zeros : (words : List ℕ) (n : ℕ) {r : ℕ} {l : List ℕ} → Written (zeros n) 0 words r l → r ≤ n → l ≡ words ++ zeros (n - length words)
over_zeros words n {r} {l} p h =
    let k : 0 + length words ≡ length words = omega arith in
    let fits : 0 + length words ≤ length (zeros n) = omega (arith, p.ends, length-replicate {A = ℕ} n 0) in
    p.left ∙ sets-eq words (zeros n) 0 fits ∙ ap (λ (m : ℕ). words ++ drop m (zeros n)) k ∙ ap (λ (m : List ℕ). words ++ m) (drop-zeros (length words) n)

-- .. and as many bytes as there are words can be lent
pub text_of : (g : Gesture) {r : ℕ} {l : List ℕ} → Written (zeros words_most) 0 (spaced (words_of g)) r l → r ≤ words_most → (record { bytes = l; n = r } ≡ gesture_text_of g) × (r ≤ length l)
unfolding gesture_text_of
text_of g {r} {l} p h =
    let words = spaced (words_of g) in
    let e = over_zeros words words_most p h in
    let n : r ≡ length words = omega (arith, p.ends) in
    (λ i. record { bytes = e i; n = n i }, omega (arith, n, ap length e, length-append words (zeros (words_most - length words))))
