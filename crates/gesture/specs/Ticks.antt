-- "A report": the tick.
--
-- "Tick: key as above, Grab, then LongPress(start) once": with one finger down; else nothing.
use Rattle.std.specs.Prelude.{ℕ, Option, Some, None}
use Rattle.fingers.specs.Keys.{key_step}
use Rattle.fingers.specs.Holds.{held_still}
use Rattle.fingers.specs.declared.gestures.Gesture.{Gesture}
use Rattle.fingers.specs.declared.gestures.Outcome.TheVariants.{Quiet, Gives}
use Rattle.gesture.specs.Trackers.{step, keys_at, keyed}
use Rattle.gesture.specs.Reports.{goes_on}
use Rattle.gesture.specs.declared.record.Touch.{Touch}
use Rattle.gesture.specs.declared.record.Touch.TheVariants.{Idle, Down, Multi, Residual}
use Rattle.gesture.specs.declared.record.Tracker.{Tracker}
use Rattle.gesture.specs.declared.record.Step.{Step}

unfoldable pub still_down : Touch → Tracker → ℕ → Step
still_down Idle t now = step Quiet t
still_down Residual t now = step Quiet t
still_down (Multi m pair) t now = step Quiet t
still_down (Down start since) t now = goes_on (held_still t.one t.app start since now t.settings) (Down start since) t

unfoldable pub keys_then_hold : Option (Gesture × ℕ) → Tracker → ℕ → Step
keys_then_hold (Some (g, told)) t now = step (Gives g) (keyed t (keys_at told t.keys.wanted))
keys_then_hold None t now = still_down t.touch t now

unfoldable pub tick_step : Tracker → ℕ → Step
tick_step t now = keys_then_hold (key_step t.keys.told t.keys.wanted) t now
