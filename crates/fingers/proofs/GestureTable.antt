-- The table of gestures, held to document 01's words one by one: a place that were wrong in it would be wrong in the code for
-- C, in the log and in demand 3 alike. Assumes nothing.
use Prim.Native.Nat.{ℕ}
use mathlib.Core.Bool.{Bool, true, false}
use mathlib.Core.Path.{◌≡◌, refl}
use Rattle.panel.specs.declared.axes.Axis.{Axis}
use Rattle.panel.specs.declared.points.Point.{Point}
use Rattle.fingers.specs.Gestures.{is_one_finger, is_key_change, is_drag}
use Rattle.fingers.specs.declared.gestures.Gesture.{Gesture}
use Rattle.fingers.specs.declared.gestures.Gesture.TheVariants.{Down, Tap, LongPress, Drag, Grab, Up, SwipeLeft, SwipeRight, SwipeUp, SwipeDown, Cancel, MultiSwipeDown, KeyDown, KeyUp, Move, Pinch, PinchEnd}

abbrev Are : Gesture → Bool → Bool → Bool → Type 0
Are g one key drag = (is_one_finger g ≡ one) × (is_key_change g ≡ key) × (is_drag g ≡ drag)

module _ (p q : Point) (a : Axis) (n : ℕ) (released : Bool) where
  -- "One-finger gestures are Down, Tap, LongPress, Drag, Grab, Up, Move and the four swipes."
  pub one-fingers : Are (Down p) true false false × Are (Tap p) true false false × Are (LongPress p) true false false × Are (Drag p q a) true false true × Are (Grab p) true false false × Are (Up p) true false false × Are (Move p q) true false false
  one-fingers = ((refl, refl, refl), (refl, refl, refl), (refl, refl, refl), (refl, refl, refl), (refl, refl, refl), (refl, refl, refl), (refl, refl, refl))

  pub swipes : Are SwipeLeft true false false × Are SwipeRight true false false × Are SwipeUp true false false × Are SwipeDown true false false
  swipes = ((refl, refl, refl), (refl, refl, refl), (refl, refl, refl), (refl, refl, refl))

  -- the others are none
  pub others : Are Cancel false false false × Are (MultiSwipeDown n) false false false × Are (KeyDown n) false true false × Are (KeyUp n) false true false × Are (Pinch a n n) false false false × Are (PinchEnd released) false false false
  others = ((refl, refl, refl), (refl, refl, refl), (refl, refl, refl), (refl, refl, refl), (refl, refl, refl), (refl, refl, refl))
