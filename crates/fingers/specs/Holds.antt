-- "A report": Grab and LongPress.
--
-- "Grab(start): hold on, not early, not grabbed, hold time reached. Hold is 0 for a direct touch. Tick: .. Grab, then
-- LongPress(start) once, not moved, from 700 ms (1200 whenever the grab time is not 0, direct or not), captured touches
-- too." "Times: any u64; differences stop at 0": on ℕ they do.
use Rattle.std.specs.Prelude.{ℕ, ◌-◌, Bool, not}
use Rattle.panel.specs.Tests.{when◌then◌else◌, ◌and◌, ◌≤?◌, ◌=?◌}
use Rattle.panel.specs.declared.points.Point.{Point}
use Rattle.fingers.specs.Thresholds.{long_time, long_hold}
use Rattle.fingers.specs.Fields.{set_grabbed, set_long_sent}
use Rattle.fingers.specs.declared.gestures.Gesture.TheVariants.{LongPress, Grab}
use Rattle.fingers.specs.declared.gestures.Outcome.{Outcome}
use Rattle.fingers.specs.declared.gestures.Outcome.TheVariants.{Quiet, Gives}
use Rattle.fingers.specs.declared.one.One.{One}
use Rattle.fingers.specs.declared.one.App.{App}
use Rattle.fingers.specs.declared.one.OneStep.{OneStep}
use Rattle.fingers.specs.declared.settings.Settings.{Settings}

abbrev pub step : Outcome → One → OneStep
step out one = record { out = out; one = one }

-- the hold time before a drag
unfoldable pub hold_of : Bool → ℕ → ℕ
hold_of direct grab = when direct then 0 else grab

abbrev pub is_on : ℕ → Bool
is_on hold = not (hold =? 0)

-- held: for how long the finger has been down
unfoldable pub grab_due : One → ℕ → ℕ → Bool
grab_due o hold held = is_on hold and not o.early and not o.grabbed and (hold ≤? held)

unfoldable pub long_from : ℕ → ℕ
long_from grab = when grab =? 0 then long_time else long_hold

unfoldable pub long_due : One → ℕ → ℕ → Bool
long_due o grab held = not o.moved and not o.long_sent and (long_from grab ≤? held)

-- a tick while one finger is down, since a time
unfoldable pub held_still : One → App → Point → ℕ → ℕ → Settings → OneStep
held_still o app start since now set =
    when grab_due o (hold_of app.direct set.grab_ms) (now - since) then step (Gives (Grab start)) (set_grabbed o)
    else when long_due o set.grab_ms (now - since) then step (Gives (LongPress start)) (set_long_sent o)
    else step Quiet o
