-- The log's table of specs/Lines.antt, by a gesture's place and numbers, leads to the lines of specs/code/Codes.antt, by its
-- code number, its small number and its point. Assumes nothing.
use mathlib.Core.Path.{◌≡◌, refl}
use mathlib.Core.Bool.{Bool}
use Prim.Native.Nat.{ℕ}
use Rattle.panel.specs.Tests as tests
use Rattle.panel.specs.Tests.{◌and◌, ◌=?◌}
use Rattle.fingers.specs.declared.gestures.Gesture.{Gesture}
use Rattle.fingers.specs.declared.gestures.Gesture.TheVariants.{Down, Tap, LongPress, Drag, Grab, Up, SwipeLeft, SwipeRight, SwipeUp, SwipeDown, Cancel, MultiSwipeDown, KeyDown, KeyUp, Move, Pinch, PinchEnd}
use Rattle.fingers.specs.Gestures.{is_drag}
use Rattle.gesture.specs.Lines.{line_at, gesture_line}
use Rattle.gesture.specs.code.Codes.{coded_as, code_of, line_by_code, is_later_drag}

pub line_is_by_code : (g : Gesture) (now : ℕ) → gesture_line g now ≡ line_by_code (code_of g).code (code_of g).number (code_of g).p now
unfolding tests.when◌then◌else◌ line_at gesture_line coded_as code_of line_by_code
line_is_by_code (Down p) now = refl
line_is_by_code (Tap p) now = refl
line_is_by_code (LongPress p) now = refl
line_is_by_code (Drag start p a) now = refl
line_is_by_code (Grab p) now = refl
line_is_by_code (Up p) now = refl
line_is_by_code SwipeLeft now = refl
line_is_by_code SwipeRight now = refl
line_is_by_code SwipeUp now = refl
line_is_by_code SwipeDown now = refl
line_is_by_code Cancel now = refl
line_is_by_code (MultiSwipeDown n) now = refl
line_is_by_code (KeyDown key) now = refl
line_is_by_code (KeyUp key) now = refl
line_is_by_code (Move prev p) now = refl
line_is_by_code (Pinch a span0 span) now = refl
line_is_by_code (PinchEnd released) now = refl

drag_by_code : (g : Gesture) → is_drag g ≡ ((code_of g).code =? 3)
unfolding coded_as code_of
drag_by_code (Down p) = refl
drag_by_code (Tap p) = refl
drag_by_code (LongPress p) = refl
drag_by_code (Drag start p a) = refl
drag_by_code (Grab p) = refl
drag_by_code (Up p) = refl
drag_by_code SwipeLeft = refl
drag_by_code SwipeRight = refl
drag_by_code SwipeUp = refl
drag_by_code SwipeDown = refl
drag_by_code Cancel = refl
drag_by_code (MultiSwipeDown n) = refl
drag_by_code (KeyDown key) = refl
drag_by_code (KeyUp key) = refl
drag_by_code (Move prev p) = refl
drag_by_code (Pinch a span0 span) = refl
drag_by_code (PinchEnd released) = refl

pub later_drag_by_code : (g : Gesture) (locked : Bool) → ◌and◌ (is_drag g) locked ≡ is_later_drag (code_of g).code locked
unfolding is_later_drag
later_drag_by_code g locked = rw (drag_by_code g)
