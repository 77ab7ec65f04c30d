-- "A report", whole: the keys, then the fingers by their count.
--
-- "Store its mask as wanted. If reported keys differ: .. that bit flips and the call ends, fingers unread."
--
-- "Count 0: idle gives nothing. A residual touch ends silently. A multi touch stores its end time and gives PinchEnd(true)
-- if a pinch, else the multi rule. Else release."
--
-- "Count 1 with multi or residual: nothing. Touch-down: the stored multi end is used up; under 300 ms since, the touch is
-- residual; else Down, all touch fields reset. Later reports: .."
--
-- "Each report with two or more clears residual. Centroid: sums divided by n, rounded down. If a one-finger touch was on,
-- the answer is Cancel, multi starts, and with two fingers a new pair." "A count over 5 means 5."
use Rattle.std.specs.Prelude.{ℕ, ◌-◌, Bool, false, List, get_or, Option, Some, None}
use Rattle.panel.specs.Tests.{when◌then◌else◌, ◌<?◌, ◌=?◌}
use Rattle.panel.specs.Points.{first_points, fingers}
use Rattle.panel.specs.Centroids.{middle}
use Rattle.panel.specs.declared.points.Point.{Point}
use Rattle.panel.specs.declared.points.Event.{Event}
use Rattle.fingers.specs.Thresholds.{lift_gap}
use Rattle.fingers.specs.Notes.{note_residual}
use Rattle.fingers.specs.Keys.{key_step}
use Rattle.fingers.specs.Fields.{reset, untaken}
use Rattle.fingers.specs.OneFinger.{later_report}
use Rattle.fingers.specs.Releases.{noted, release_of}
use Rattle.fingers.specs.Pairs.{new_pair}
use Rattle.fingers.specs.Several.{multi_step, multi_from, two_fingers, three_fingers, multi_end}
use Rattle.fingers.specs.declared.gestures.Gesture.{Gesture}
use Rattle.fingers.specs.declared.gestures.Gesture.TheVariants.{Cancel}
use Rattle.fingers.specs.declared.gestures.Gesture.TheVariants as gesture
use Rattle.fingers.specs.declared.gestures.Outcome.{Outcome}
use Rattle.fingers.specs.declared.gestures.Outcome.TheVariants.{Quiet, Gives}
use Rattle.fingers.specs.declared.one.One.{One}
use Rattle.fingers.specs.declared.one.App.{App}
use Rattle.fingers.specs.declared.one.OneStep.{OneStep}
use Rattle.fingers.specs.declared.several.MultiStep.{MultiStep}
use Rattle.gesture.specs.Trackers.{step, origin, keys_at, touched, keyed}
use Rattle.gesture.specs.declared.record.Touch.{Touch}
use Rattle.gesture.specs.declared.record.Touch.TheVariants.{Idle, Down, Multi, Residual}
use Rattle.gesture.specs.declared.record.Tracker.{Tracker}
use Rattle.gesture.specs.declared.record.Step.{Step}

-- Count 0: the touch is over, whatever it was.

unfoldable pub up_outcome : Touch → One → App → ℕ → Outcome
up_outcome Idle one app now = Quiet
up_outcome Residual one app now = Quiet
up_outcome (Multi m pair) one app now = multi_end m pair
up_outcome (Down start since) one app now = release_of one app start since now

unfoldable pub end_stored : Touch → Option ℕ → ℕ → Option ℕ
end_stored Idle end now = end
end_stored Residual end now = end
end_stored (Multi m pair) end now = Some now
end_stored (Down start since) end now = end

unfoldable pub all_up : Tracker → ℕ → Step
all_up t now =
    step (up_outcome t.touch t.one t.app now) (touched t Idle t.one t.app (end_stored t.touch t.multi_end now))

-- Count 1.

-- "under 300 ms since"
unfoldable pub is_last_finger : Option ℕ → ℕ → Bool
is_last_finger None now = false
is_last_finger (Some end) now = now - end <? lift_gap

unfoldable pub residual_touch : Tracker → Point → Step
residual_touch t p = step (noted note_residual p) (touched t Residual t.one t.app None)

unfoldable pub new_touch : Tracker → Point → ℕ → Step
new_touch t p now = step (Gives (gesture.Down p)) (touched t (Down p now) (reset p) untaken None)

unfoldable pub touch_down : Tracker → Point → ℕ → Step
touch_down t p now = when is_last_finger t.multi_end now then residual_touch t p else new_touch t p now

-- a one-finger touch goes on
unfoldable pub goes_on : OneStep → Touch → Tracker → Step
goes_on s touch t = step s.out (touched t touch s.one t.app t.multi_end)

unfoldable pub one_finger : Touch → Tracker → Point → ℕ → Step
one_finger Idle t p now = touch_down t p now
one_finger Residual t p now = step Quiet t
one_finger (Multi m pair) t p now = step Quiet t
one_finger (Down start since) t p now = goes_on (later_report t.one t.app start since p now t.settings) (Down start since) t

-- Two or more: the touch is one of several from here on. p and q are the first two of the points, c is the centroid.

unfoldable pub two_start : Outcome → Point → Point → Point → ℕ → MultiStep
two_start out p q c now = multi_step out (multi_from 2 c now) (Some (new_pair p q c))

unfoldable pub two : Touch → Point → Point → Point → ℕ → MultiStep
two Idle p q c now = two_start Quiet p q c now
two Residual p q c now = two_start Quiet p q c now
two (Down start since) p q c now = two_start (Gives Cancel) p q c now
two (Multi m pair) p q c now = two_fingers pair m p q c now

unfoldable pub more_start : Outcome → ℕ → Point → ℕ → MultiStep
more_start out n c now = multi_step out (multi_from n c now) None

unfoldable pub more : Touch → ℕ → Point → ℕ → MultiStep
more Idle n c now = more_start Quiet n c now
more Residual n c now = more_start Quiet n c now
more (Down start since) n c now = more_start (Gives Cancel) n c now
more (Multi m pair) n c now = three_fingers pair m n c now

unfoldable pub several : MultiStep → Tracker → Step
several s t = step s.out (touched t (Multi s.multi s.pair) t.one t.app t.multi_end)

-- The fingers, by their count.

abbrev pub finger : ℕ → List Point → Point
finger k pts = get_or pts k origin

unfoldable pub two_of : Tracker → List Point → ℕ → Step
two_of t pts now = several (two t.touch (finger 0 pts) (finger 1 pts) (middle (first_points 2 pts)) now) t

unfoldable pub more_of : Tracker → ℕ → List Point → ℕ → Step
more_of t n pts now = several (more t.touch n (middle (first_points n pts)) now) t

unfoldable pub fingers_of : Tracker → Event → ℕ → Step
fingers_of t ev now =
    when ev.points =? 0 then all_up t now
    else when ev.points =? 1 then one_finger t.touch t ev.p now
    else when ev.points =? 2 then two_of t ev.pts now
    else more_of t (fingers ev.points) ev.pts now

-- The report.

-- "Store its mask as wanted." "that bit flips and the call ends, fingers unread"
unfoldable pub keys_then_fingers : Option (Gesture × ℕ) → Tracker → Event → ℕ → Step
keys_then_fingers (Some (g, told)) t ev now = step (Gives g) (keyed t (keys_at told ev.keys))
keys_then_fingers None t ev now = fingers_of (keyed t (keys_at t.keys.told ev.keys)) ev now

unfoldable pub report_step : Tracker → Event → ℕ → Step
report_step t ev now = keys_then_fingers (key_step t.keys.told ev.keys) t ev now
