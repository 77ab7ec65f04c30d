-- What fingers and the clock are answered with: never a key change, and with several fingers no one-finger gesture.
-- Assumes nothing.
use Rattle.std.specs.Prelude.{Option, Some, None}
use Prim.Native.Nat.{ℕ}
use mathlib.Core.Path.{◌≡◌, refl}
use mathlib.Core.Bool.{false}
use Rattle.fingers.specs.Holds.{held_still}
use Rattle.fingers.specs.OneFinger.{move_from, drag_along, moving, grab_or_moving, later_report}
use Rattle.fingers.specs.Pairs.{pinch_of}
use Rattle.fingers.specs.Releases.{tap_or_note, swipe_or_note, release_by, release_of}
use Rattle.fingers.specs.Several.{pinch_or_seen, two_fingers, pinch_end_or_seen, three_fingers, multi_rule, multi_end}
use Rattle.fingers.specs.declared.gestures.Outcome.{Outcome}
use Rattle.fingers.specs.declared.one.One.{One}
use Rattle.fingers.specs.declared.one.App.{App}
use Rattle.fingers.specs.declared.settings.Settings.{Settings}
use Rattle.fingers.specs.declared.one.OneStep.{OneStep}
use Rattle.fingers.specs.declared.several.Multi.{Multi}
use Rattle.fingers.specs.declared.several.MultiStep.{MultiStep}
use Rattle.fingers.specs.declared.pair.Pair.{Pair}
use Rattle.panel.proofs.Follow.{if-all}
use Rattle.panel.specs.declared.points.Point.{Point}
use Rattle.panel.specs.declared.axes.Axis.{Axis}
use Rattle.gesture.specs.Answers.{given_by}
use Rattle.history.specs.Gestures.{gives_one_finger, tells_key}

-- no key change
abbrev pub NoKey : Outcome → Type 0
NoKey out = tells_key (given_by out) ≡ false

-- neither a key change nor a one-finger gesture
abbrev pub NoOne : Outcome → Type 0
NoOne out = (tells_key (given_by out) ≡ false) × (gives_one_finger (given_by out) ≡ false)

abbrev NoKeyStep : OneStep → Type 0
NoKeyStep s = NoKey s.out

abbrev NoOneStep : MultiStep → Type 0
NoOneStep s = NoOne s.out

-- One finger.

drag-plain : (a : Option Axis) (o : One) (start p : Point) → NoKeyStep (drag_along a o start p)
unfolding drag_along given_by
drag-plain None o start p = refl
drag-plain (Some a) o start p = refl

pub later-plain : (o : One) (app : App) (start : Point) (since : ℕ) (p : Point) (now : ℕ) (set : Settings) → NoKeyStep (later_report o app start since p now set)
unfolding later_report grab_or_moving moving move_from given_by
later-plain o app start since p now set =
    if-all NoKeyStep _ refl (if-all NoKeyStep _ (if-all NoKey _ refl refl) (if-all NoKeyStep _ (drag-plain _ _ start p) refl))

pub still-plain : (o : One) (app : App) (start : Point) (since now : ℕ) (set : Settings) → NoKeyStep (held_still o app start since now set)
unfolding held_still given_by
still-plain o app start since now set = if-all NoKeyStep _ refl (if-all NoKeyStep _ refl refl)

tap-plain : (o : One) (start : Point) (note : ℕ) → NoKey (tap_or_note o start note)
unfolding tap_or_note given_by
tap-plain o start note = if-all NoKey _ refl refl

swipe-plain : (start p1 : Point) (dx dy : ℕ) → NoKey (swipe_or_note start p1 dx dy)
unfolding swipe_or_note given_by
swipe-plain start p1 dx dy = if-all NoKey _ (if-all NoKey _ refl refl) (if-all NoKey _ (if-all NoKey _ refl refl) refl)

pub release-plain : (o : One) (app : App) (start : Point) (since now : ℕ) → NoKey (release_of o app start since now)
unfolding release_of release_by given_by
release-plain o app start since now =
    if-all NoKey _ refl (if-all NoKey _ (tap-plain o start _) (if-all NoKey _ (swipe-plain start o.last _ _) (tap-plain o start _)))

-- Several fingers.

pub end-plain : (m : Multi) (pair : Option Pair) → NoOne (multi_end m pair)
unfolding multi_end multi_rule given_by
end-plain m pair = if-all NoOne _ (refl, refl) (if-all NoOne _ (refl, refl) (refl, refl))

pub two-plain : (pair : Option Pair) (m : Multi) (p q c : Point) (now : ℕ) → NoOneStep (two_fingers pair m p q c now)
unfolding two_fingers pinch_or_seen pinch_of given_by
two-plain None m p q c now = (refl, refl)
two-plain (Some r) m p q c now = if-all NoOneStep _ (refl, refl) (refl, refl)

pub three-plain : (pair : Option Pair) (m : Multi) (n : ℕ) (c : Point) (now : ℕ) → NoOneStep (three_fingers pair m n c now)
unfolding three_fingers pinch_end_or_seen given_by
three-plain None m n c now = (refl, refl)
three-plain (Some r) m n c now = if-all NoOneStep _ (refl, refl) (refl, refl)
