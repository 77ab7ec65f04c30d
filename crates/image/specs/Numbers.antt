-- The numbers of an answer, as they go back to a host: the table of docs/IMAGE.md.
--
-- "The host's C main loop calls event, tick, capture and apply16 on numbers". "A refusal carries no other value (zeros, no
-- gesture, no log line)". "its numbers in the Rust's field order": a gesture is 1 and more, its place in the Rust's list of
-- gestures; an axis is 0 for H, 1 for V; a truth is 1 or 0.
use Rattle.std.specs.Prelude.{ℕ, suc, List, [], ◌∷◌, replicate, Option, Some, None}
use Rattle.fingers.specs.Gestures.{place_of, field_at}
use Rattle.fingers.specs.declared.gestures.Gesture.{Gesture}
use Rattle.gesture.specs.Answers.{given, logged_by}
use Rattle.gesture.specs.declared.answers.Answer.{Answer}
use Rattle.image.specs.declared.c_numbers.GestureNumbers.{GestureNumbers}
use Rattle.image.specs.declared.c_numbers.LogNumbers.{LogNumbers}
use Rattle.gesture.specs.declared.lines.Line.{Line}

-- a gesture's code and its numbers, zero where it has no more
abbrev pub coded : ℕ → ℕ → ℕ → ℕ → ℕ → ℕ → GestureNumbers
coded code a b c d e = record { code = code; a = a; b = b; c = c; d = d; e = e }

-- both by the one table of the gestures
unfoldable pub gesture_numbers : Gesture → GestureNumbers
gesture_numbers g = coded (suc (place_of g)) (field_at 0 g) (field_at 1 g) (field_at 2 g) (field_at 3 g) (field_at 4 g)

unfoldable pub given_numbers : Option Gesture → GestureNumbers
given_numbers None = coded 0 0 0 0 0 0
given_numbers (Some g) = gesture_numbers g

-- letter, argument, point and time
unfoldable pub log_numbers : Option Line → LogNumbers
log_numbers None = record { letter = 0; argument = 0; x = 0; y = 0; time = 0 }
log_numbers (Some l) = record { letter = l.letter; argument = l.argument; x = l.p.x; y = l.p.y; time = l.time }

abbrev pub listed : GestureNumbers → LogNumbers → List ℕ
listed g l = g.code ∷ g.a ∷ g.b ∷ g.c ∷ g.d ∷ g.e ∷ l.letter ∷ l.argument ∷ l.x ∷ l.y ∷ l.time ∷ []

unfoldable pub numbers_of : Answer → List ℕ
numbers_of a = listed (given_numbers (given a)) (log_numbers (logged_by a))

-- what a refused call tells
abbrev pub zeros : List ℕ
zeros = replicate 11 0
