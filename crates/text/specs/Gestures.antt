-- The words of each gesture. The names stand here and nowhere else.
--
-- "gesture name, its numbers in the Rust's field order (axis H or V, truth 1 or 0)".
use Rattle.std.specs.Prelude.{ℕ, ◌-◌, List, [], ◌∷◌, ◌++◌, map, get_or, length, replicate}
use Rattle.fingers.specs.Gestures.{place_of, Field, number, axis, fields_of}
use Rattle.fingers.specs.declared.gestures.Gesture.{Gesture}
use Rattle.panel.specs.declared.axes.Axis.{Axis}
use Rattle.text.specs.Sizes.{words_most}
use Rattle.text.specs.Words.{ascii, decimal, letter_of, spaced}
use Rattle.text.specs.declared.gestures.GestureText.{GestureText}

-- by the place in the table of gestures
abbrev pub names : List (List ℕ)
names =
    ascii "Down" ∷ ascii "Tap" ∷ ascii "LongPress" ∷ ascii "Drag" ∷ ascii "Grab" ∷ ascii "Up"
    ∷ ascii "SwipeLeft" ∷ ascii "SwipeRight" ∷ ascii "SwipeUp" ∷ ascii "SwipeDown" ∷ ascii "Cancel"
    ∷ ascii "MultiSwipeDown" ∷ ascii "KeyDown" ∷ ascii "KeyUp" ∷ ascii "Move" ∷ ascii "Pinch" ∷ ascii "PinchEnd" ∷ []

abbrev pub axis_word : Axis → List ℕ
axis_word a = letter_of a ∷ []

abbrev pub field_word : Field → List ℕ
field_word (number n) = decimal n
field_word (axis a) = axis_word a

unfoldable pub words_of : Gesture → List (List ℕ)
words_of g = get_or names (place_of g) [] ∷ map field_word (fields_of g)

-- the same by value, in room for the longest: a space before each word, and zeros behind the last
unfoldable pub gesture_text_of : Gesture → GestureText
gesture_text_of g =
    let words = spaced (words_of g) in
    record { bytes = words ++ replicate (words_most - length words) 0; n = length words }
