-- The one table of the gestures: each one's place in the Rust's list, and its fields. Its code number for C and the log's,
-- and whether it is of one finger, a key change or a drag follow from the place; its numbers and words from the fields.
--
-- "One-finger gestures are Down, Tap, LongPress, Drag, Grab, Up, Move and the four swipes." A key change is KeyDown or
-- KeyUp.
use Rattle.std.specs.Prelude.{ℕ, Bool, ◌||◌, List, [], ◌∷◌, get_or}
use Rattle.panel.specs.Axes.{axis_number}
use Rattle.panel.specs.Tests.{◌≤?◌, ◌=?◌, bit}
use Rattle.panel.specs.declared.axes.Axis.{Axis}
use Rattle.fingers.specs.declared.gestures.Gesture.{Gesture}
use Rattle.fingers.specs.declared.gestures.Gesture.TheVariants.{Down, Tap, LongPress, Drag, Grab, Up, SwipeLeft, SwipeRight, SwipeUp, SwipeDown, Cancel, MultiSwipeDown, KeyDown, KeyUp, Move, Pinch, PinchEnd}

abbrev pub place_of : Gesture → ℕ
place_of (Down p) = 0
place_of (Tap p) = 1
place_of (LongPress p) = 2
place_of (Drag start p a) = 3
place_of (Grab p) = 4
place_of (Up p) = 5
place_of SwipeLeft = 6
place_of SwipeRight = 7
place_of SwipeUp = 8
place_of SwipeDown = 9
place_of Cancel = 10
place_of (MultiSwipeDown n) = 11
place_of (KeyDown key) = 12
place_of (KeyUp key) = 13
place_of (Move prev p) = 14
place_of (Pinch a span0 span) = 15
place_of (PinchEnd released) = 16

-- The places that a rule names.

abbrev pub drag : ℕ
drag = 3

-- Down, Tap, LongPress, Drag, Grab, Up and the four swipes are the first; this is the last of them
abbrev pub swipe_down : ℕ
swipe_down = 9

abbrev pub key_down : ℕ
key_down = 12

abbrev pub key_up : ℕ
key_up = 13

abbrev pub move : ℕ
move = 14

-- (`||` and not the shut `or`: of a gesture that is known these come out by computing)
abbrev pub is_one_finger : Gesture → Bool
is_one_finger g = (place_of g ≤? swipe_down) || (place_of g =? move)

abbrev pub is_key_change : Gesture → Bool
is_key_change g = (place_of g =? key_down) || (place_of g =? key_up)

abbrev pub is_drag : Gesture → Bool
is_drag g = place_of g =? drag

-- Its fields in the Rust's order: a number, or an axis, which is written H or V where it is read by people.

pub data Field : Type 0 where
  number : ℕ → Field
  axis : Axis → Field

abbrev pub fields_of : Gesture → List Field
fields_of (Down p) = number p.x ∷ number p.y ∷ []
fields_of (Tap p) = number p.x ∷ number p.y ∷ []
fields_of (LongPress p) = number p.x ∷ number p.y ∷ []
fields_of (Drag start p a) = number start.x ∷ number start.y ∷ number p.x ∷ number p.y ∷ axis a ∷ []
fields_of (Grab p) = number p.x ∷ number p.y ∷ []
fields_of (Up p) = number p.x ∷ number p.y ∷ []
fields_of SwipeLeft = []
fields_of SwipeRight = []
fields_of SwipeUp = []
fields_of SwipeDown = []
fields_of Cancel = []
fields_of (MultiSwipeDown n) = number n ∷ []
fields_of (KeyDown key) = number key ∷ []
fields_of (KeyUp key) = number key ∷ []
fields_of (Move prev p) = number prev.x ∷ number prev.y ∷ number p.x ∷ number p.y ∷ []
fields_of (Pinch a span0 span) = axis a ∷ number span0 ∷ number span ∷ []
fields_of (PinchEnd released) = number (bit released) ∷ []

-- a field as a number
abbrev pub number_in : Field → ℕ
number_in (number n) = n
number_in (axis a) = axis_number a

-- the number of its k-th field, 0 where it has no more
abbrev pub field_at : ℕ → Gesture → ℕ
field_at k g = number_in (get_or (fields_of g) k (number 0))
