-- "The tracker record": its parts put together, the fresh tracker, and when a touch is on.
--
-- "grab time (0 at the start, set to at most 5000) and the raw wish (off) live in it." "Active exactly if one of down,
-- multi, residual is there, never two."
use Rattle.std.specs.Prelude.{ℕ, Bool, true, false, Option, None}
use Rattle.panel.specs.declared.points.Point.{Point}
use Rattle.fingers.specs.Fields.{reset, untaken}
use Rattle.fingers.specs.Settings.{unset}
use Rattle.fingers.specs.declared.one.One.{One}
use Rattle.fingers.specs.declared.one.App.{App}
use Rattle.fingers.specs.declared.keys.Keys.{Keys}
use Rattle.fingers.specs.declared.settings.Settings.{Settings}
use Rattle.fingers.specs.declared.gestures.Outcome.{Outcome}
use Rattle.gesture.specs.declared.record.Touch.{Touch}
use Rattle.gesture.specs.declared.record.Touch.TheVariants.{Idle, Down, Multi, Residual}
use Rattle.gesture.specs.declared.record.Tracker.{Tracker}
use Rattle.gesture.specs.declared.record.Step.{Step}

abbrev pub origin : Point
origin = record { x = 0; y = 0 }

-- The tracker of its parts. Every call puts the tracker that it leaves together here, and nothing else makes one.
unfoldable pub whole : Settings → Keys → Touch → One → App → Option ℕ → Tracker
whole settings keys touch one app end =
    record { settings = settings; keys = keys; touch = touch; one = one; app = app; multi_end = end }

abbrev pub keys_at : ℕ → ℕ → Keys
keys_at told wanted = record { told = told; wanted = wanted }

unfoldable pub fresh_tracker : Tracker
fresh_tracker = whole unset (keys_at 0 0) Idle (reset origin) untaken None

unfoldable pub is_active : Touch → Bool
is_active Idle = false
is_active (Down start since) = true
is_active (Multi m pair) = true
is_active Residual = true

-- Whoever sets a part names it; the others stay.

-- the touch, what its one finger did, what the app made of it, and the stored end of several fingers
unfoldable pub touched : Tracker → Touch → One → App → Option ℕ → Tracker
touched t touch one app end = whole t.settings t.keys touch one app end

unfoldable pub keyed : Tracker → Keys → Tracker
keyed t keys = whole t.settings keys t.touch t.one t.app t.multi_end

-- what a call comes to, with the tracker that it leaves
abbrev pub step : Outcome → Tracker → Step
step out t = record { out = out; tracker = t }
