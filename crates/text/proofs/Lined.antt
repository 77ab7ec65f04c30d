-- Lines, from the pieces in which the code writes them. Assumes nothing.
use Prim.Native.Nat.{ℕ, ◌+◌, ◌≤◌}
use mathlib.Core.List.{List, [], ◌∷◌}
use mathlib.Core.Path.{◌≡◌}
use Rattle.panel.specs.Refusals.{number_of}
use Rattle.panel.specs.declared.refusals.Refusal.{Refusal}
use Rattle.text.specs.Sizes.{line_most}
use Rattle.text.specs.Texts.{refused_line, stop_line, end_line}
use Rattle.text.specs.Words.{newline, ascii, decimal, spaced}
use Rattle.text.specs.code.Written.{Written}
use Rattle.text.proofs.Writing.{words-then, line_of}

-- a line at a place, no longer than the longest
abbrev pub Lined : List ℕ → ℕ → List ℕ → ℕ → List ℕ → Type 0
Lined l at bytes r l' = Written l at bytes r l' × (r ≤ at + line_most)

pub refused-of : (i : ℕ) (why : Refusal) {n : ℕ} {l : List ℕ} {at a b c r : ℕ} {m m₂ m₃ l' : List ℕ} → n ≡ number_of why →
    Written l at (decimal i) a m → Written m a (spaced (ascii "refused" ∷ [])) b m₂ → Written m₂ b (spaced (decimal n ∷ [])) c m₃ → Written m₃ c (newline ∷ []) r l' →
    Written l at (refused_line i (number_of why)) r l'
unfolding refused_line
refused-of i why {n} e p q u v =
    rw (← e) (line_of (ascii "refused" ∷ decimal n ∷ []) p (words-then (ascii "refused" ∷ []) (decimal n ∷ []) q u) v)

pub end_of : (count : ℕ) {l : List ℕ} {at a b r : ℕ} {m m₂ l' : List ℕ} → Written l at (ascii "end") a m → Written m a (spaced (decimal count ∷ [])) b m₂ → Written m₂ b (newline ∷ []) r l' → Written l at (end_line count) r l'
unfolding end_line
end_of count p q u = line_of (decimal count ∷ []) p q u

pub stop-of : (why : Refusal) (o : ℕ) {n : ℕ} {l : List ℕ} {at a b c d r : ℕ} {m m₂ m₃ m₄ l' : List ℕ} → n ≡ number_of why →
    Written l at (ascii "stopped") a m → Written m a (spaced (decimal n ∷ [])) b m₂ → Written m₂ b (spaced (ascii "at" ∷ [])) c m₃ → Written m₃ c (spaced (decimal o ∷ [])) d m₄ → Written m₄ d (newline ∷ []) r l' →
    Written l at (stop_line (number_of why) o) r l'
unfolding stop_line
stop-of why o {n} e p q u v x =
    rw (← e)
    (line_of (decimal n ∷ ascii "at" ∷ decimal o ∷ []) p
    (words-then (decimal n ∷ ascii "at" ∷ []) (decimal o ∷ []) (words-then (decimal n ∷ []) (ascii "at" ∷ []) q u) v)
    x)
