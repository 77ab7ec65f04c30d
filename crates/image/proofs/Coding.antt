-- Where a gesture's number comes of a call: its axis, and whether it was released. Assumes nothing.
use Prim.Native.Nat.{ℕ}
use mathlib.Core.Path.{◌≡◌, sym, ◌∙◌, ap}
use mathlib.Core.Bool.{Bool}
use Rattle.panel.specs.Axes.{axis_number}
use Rattle.panel.specs.Tests.{bit}
use Rattle.panel.specs.declared.points.Point.{Point}
use Rattle.panel.specs.declared.axes.Axis.{Axis}
use Rattle.fingers.specs.declared.gestures.Gesture.{Gesture}
use Rattle.fingers.specs.declared.gestures.Gesture.TheVariants.{Drag, Pinch, PinchEnd}
use Rattle.image.specs.Numbers.{coded, gesture_numbers}
use Rattle.image.specs.declared.c_numbers.GestureNumbers.{GestureNumbers}

module _ (g : Gesture) (r : GestureNumbers) (n : ℕ) where
  pub drag-numbers : (start p : Point) (a : Axis) → g ≡ Drag start p a → n ≡ axis_number a → r ≡ coded 4 start.x start.y p.x p.y n → r ≡ gesture_numbers g
  unfolding gesture_numbers
  drag-numbers start p a e m h = h ∙ ap (coded 4 start.x start.y p.x p.y) m ∙ sym (ap gesture_numbers e)

  pub pinch-numbers : (a : Axis) (span0 span : ℕ) → g ≡ Pinch a span0 span → n ≡ axis_number a → r ≡ coded 16 n span0 span 0 0 → r ≡ gesture_numbers g
  unfolding gesture_numbers
  pinch-numbers a span0 span e m h = h ∙ ap (λ (k : ℕ). coded 16 k span0 span 0 0) m ∙ sym (ap gesture_numbers e)

  pub pinch-end-numbers : (released : Bool) → g ≡ PinchEnd released → n ≡ bit released → r ≡ coded 17 n 0 0 0 0 → r ≡ gesture_numbers g
  unfolding gesture_numbers
  pinch-end-numbers released e m h = h ∙ ap (λ (k : ℕ). coded 17 k 0 0 0 0) m ∙ sym (ap gesture_numbers e)
