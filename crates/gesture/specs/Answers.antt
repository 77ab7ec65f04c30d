-- The answer of each call: a gesture and a log line, or a refusal; and the tracker.
--
-- "Order: STATE (every tracker call looks for it), then PANEL, also for a report that a key change would answer". "A
-- refusal carries no other value (zeros, no gesture, no log line) and alters nothing." "Points in use: `p` for count 1; the
-- first n of `pts` for 2 to 5. A count over 5 means 5. For count 0 none."
use Rattle.std.specs.Prelude.{ℕ, Bool, false, List, [], ◌∷◌, Option, Some, None, Result, Ok, Err}
use Rattle.panel.specs.Tests.{when◌then◌else◌, ◌=?◌}
use Rattle.panel.specs.Points.{all_on_panel, first_points}
use Rattle.panel.specs.Refusals.{number_of}
use Rattle.panel.specs.Refusals as numbers
use Rattle.panel.specs.declared.points.Point.{Point}
use Rattle.panel.specs.declared.points.Event.{Event}
use Rattle.panel.specs.declared.refusals.Refusal.{Refusal}
use Rattle.panel.specs.declared.refusals.Refusal.TheVariants.{State, Panel}
use Rattle.fingers.specs.declared.gestures.Outcome.{Outcome}
use Rattle.fingers.specs.declared.gestures.Outcome.TheVariants.{Quiet, Noted, Gives}
use Rattle.gesture.specs.States.{state_rule}
use Rattle.gesture.specs.Reports.{report_step}
use Rattle.gesture.specs.Ticks.{tick_step}
use Rattle.gesture.specs.Lines.{is_locked, report_line, tick_line, capture_line}
use Rattle.gesture.specs.Captures.{takes, taken, wished, after_capture_direct, after_set_grab}
use Rattle.gesture.specs.declared.record.Tracker.{Tracker}
use Rattle.gesture.specs.declared.record.Step.{Step}
use Rattle.gesture.specs.declared.answers.Answer.{Answer}
use Rattle.gesture.specs.declared.answers.Response.{Response}
use Rattle.gesture.specs.declared.lines.Line.{Line}
use Rattle.fingers.specs.declared.gestures.Gesture.{Gesture}

unfoldable pub refused : Refusal → Tracker → Answer
refused why t = record { told = Err why; tracker = t }

unfoldable pub answered : Option Gesture → Option Line → Tracker → Answer
answered gesture log t = record { told = Ok (record { gesture = gesture; log = log }); tracker = t }

-- What is told, in the documents' numbers: 0 with a gesture and a log line, or a refusal's number with neither.

abbrev pub told_number : Result Response Refusal → ℕ
told_number (Ok r) = 0
told_number (Err why) = number_of why

abbrev pub told_gesture : Result Response Refusal → Option Gesture
told_gesture (Ok r) = r.gesture
told_gesture (Err why) = None

abbrev pub told_log : Result Response Refusal → Option Line
told_log (Ok r) = r.log
told_log (Err why) = None

abbrev pub refusal_of : Answer → ℕ
refusal_of a = told_number a.told

abbrev pub given : Answer → Option Gesture
given a = told_gesture a.told

abbrev pub logged_by : Answer → Option Line
logged_by a = told_log a.told

-- all that an answer tells, with the tracker that it leaves
pub record Told : Type 0 where
  pub number : ℕ
  pub gesture : Option Gesture
  pub log : Option Line
  pub tracker : Tracker

abbrev pub told_answer : Answer → Told
told_answer a = record { number = refusal_of a; gesture = given a; log = logged_by a; tracker = a.tracker }

-- the grab time: a number and the time, 0 where it is refused
abbrev pub told_grab : Result ℕ Refusal → numbers.Told ℕ
told_grab (Ok ms) = numbers.answered ms
told_grab (Err why) = numbers.refused why 0

unfoldable pub given_by : Outcome → Option Gesture
given_by Quiet = None
given_by (Noted note) = None
given_by (Gives g) = Some g

-- The report.

unfoldable pub points_in_use : Event → List Point
points_in_use ev = when ev.points =? 1 then ev.p ∷ [] else first_points ev.points ev.pts

unfoldable pub reported : Step → Bool → ℕ → Answer
reported s locked now = answered (given_by s.out) (report_line s.out locked now) s.tracker

unfoldable pub event_of : Tracker → Event → ℕ → Answer
event_of t ev now =
    when state_rule t then (when all_on_panel (points_in_use ev) then reported (report_step t ev now) (is_locked t.one.axis) now else refused Panel t)
    else refused State t

-- The tick.

unfoldable pub ticked : Step → ℕ → Answer
ticked s now = answered (given_by s.out) (tick_line s.out now) s.tracker

unfoldable pub tick_of : Tracker → ℕ → Answer
tick_of t now = when state_rule t then ticked (tick_step t now) now else refused State t

-- The captures.

unfoldable pub captured : Tracker → Answer
captured t =
    when takes t then answered None (capture_line t.settings.raw_next t.one.last) (taken t)
    else answered None None (wished t false)

unfoldable pub capture_of : Tracker → Answer
capture_of t = when state_rule t then captured t else refused State t

unfoldable pub capture_direct_of : Tracker → Answer
capture_direct_of t = when state_rule t then answered None None (after_capture_direct t) else refused State t

-- The settings.

unfoldable pub raw_next_of : Tracker → Bool → Answer
raw_next_of t on = when state_rule t then answered None None (wished t on) else refused State t

unfoldable pub set_grab_of : Tracker → ℕ → Answer
set_grab_of t ms = when state_rule t then answered None None (after_set_grab t ms) else refused State t

unfoldable pub grab_of : Tracker → Result ℕ Refusal
grab_of t = when state_rule t then Ok t.settings.grab_ms else Err State
