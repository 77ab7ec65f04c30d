-- "A report": the release of one finger.
--
-- "Release, p1 the last point: captured gives Up(p1). After a long press Tap(start) if far <= 30, else nothing (note 200).
-- Within 800 ms with |dx| or |dy| >= 60: swipe along an axis more than twice the other, else nothing (255). Else Tap if
-- far <= 30; else nothing (100 + far, far at most 99)."
use Rattle.std.specs.Prelude.{ℕ, ◌+◌, ◌-◌, ◌*◌, min, Bool}
use Rattle.panel.specs.Tests.{when◌then◌else◌, ◌and◌, ◌or◌, ◌≤?◌, ◌<?◌}
use Rattle.panel.specs.Distances.{difference}
use Rattle.panel.specs.declared.points.Point.{Point}
use Rattle.fingers.specs.Notes.{note_long, note_slant, note_far, note_far_most}
use Rattle.fingers.specs.Thresholds.{tap_slop, swipe_max, swipe_min}
use Rattle.fingers.specs.declared.gestures.Gesture.TheVariants.{Tap, Up, SwipeLeft, SwipeRight, SwipeUp, SwipeDown}
use Rattle.fingers.specs.declared.gestures.Outcome.{Outcome}
use Rattle.fingers.specs.declared.gestures.Outcome.TheVariants.{Noted, Gives}
use Rattle.fingers.specs.declared.one.One.{One}
use Rattle.fingers.specs.declared.one.App.{App}

-- nothing, and a note for the log with a point
abbrev pub noted : ℕ → Point → Outcome
noted number p = Noted (record { number = number; p = p })

unfoldable pub tap_or_note : One → Point → ℕ → Outcome
tap_or_note o start note = when o.far ≤? tap_slop then Gives (Tap start) else noted note o.last

-- held: for how long the finger was down
unfoldable pub is_swipe : ℕ → ℕ → ℕ → Bool
is_swipe held dx dy = (held ≤? swipe_max) and ((swipe_min ≤? dx) or (swipe_min ≤? dy))

unfoldable pub swipe_or_note : Point → Point → ℕ → ℕ → Outcome
swipe_or_note start p1 dx dy =
    when 2 * dy <? dx then (when start.x <? p1.x then Gives SwipeRight else Gives SwipeLeft)
    else when 2 * dx <? dy then (when start.y <? p1.y then Gives SwipeDown else Gives SwipeUp)
    else noted note_slant p1

unfoldable pub release_by : One → Bool → Point → ℕ → ℕ → ℕ → Outcome
release_by o captured start held dx dy =
    when captured then Gives (Up o.last)
    else when o.long_sent then tap_or_note o start note_long
    else when is_swipe held dx dy then swipe_or_note start o.last dx dy
    else tap_or_note o start (note_far + min o.far note_far_most)

-- the finger is up that went down at start, at a time
unfoldable pub release_of : One → App → Point → ℕ → ℕ → Outcome
release_of o app start since now =
    release_by o app.captured start (now - since) (difference start.x o.last.x) (difference start.y o.last.y)
