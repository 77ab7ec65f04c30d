-- The calls on a tracker as one type, and what each answers by the contract of its function. A trace holds such calls, a
-- host makes them, and the history theorem speaks of lists of them.
use Rattle.std.specs.Prelude.{ℕ, Bool}
use Rattle.panel.specs.declared.points.Event.{Event}
use Rattle.gesture.specs.Answers.{event_of, tick_of, capture_of, capture_direct_of, raw_next_of, set_grab_of}
use Rattle.gesture.specs.declared.answers.Answer.{Answer}
use Rattle.gesture.specs.declared.making.Call as value
use Rattle.gesture.specs.declared.making.Call.TheVariants.{Report, Tick, Capture, CaptureDirect, RawNext, SetGrabMs}
use Rattle.gesture.specs.declared.record.Tracker.{Tracker}

pub data Call : Type 0 where
  report : ℕ → Event → Call
  tick : ℕ → Call
  capture : Call
  capture_direct : Call
  raw_next : Bool → Call
  set_grab_ms : ℕ → Call

abbrev pub answer_of : Tracker → Call → Answer
answer_of t (report now ev) = event_of t ev now
answer_of t (tick now) = tick_of t now
answer_of t capture = capture_of t
answer_of t capture_direct = capture_direct_of t
answer_of t (raw_next on) = raw_next_of t on
answer_of t (set_grab_ms ms) = set_grab_of t ms

-- The call that a value of the code's `Call` is.

abbrev pub call_of : value.Call → Call
call_of (Report ev now) = report now ev
call_of (Tick now) = tick now
call_of Capture = capture
call_of CaptureDirect = capture_direct
call_of (RawNext on) = raw_next on
call_of (SetGrabMs ms) = set_grab_ms ms
