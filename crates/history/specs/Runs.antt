-- Runs of calls.
--
-- "Take any accepted calls on a fresh tracker."
use Rattle.std.specs.Prelude.{ℕ, ◌<◌, ◌≡◌, true, List, [], ◌∷◌, map, Option}
use Rattle.fingers.specs.declared.gestures.Gesture.{Gesture}
use Rattle.gesture.specs.Answers.{points_in_use, refusal_of, given}
use Rattle.gesture.specs.Calls.{Call, report, tick, capture, capture_direct, raw_next, set_grab_ms}
use Rattle.gesture.specs.Runs.{Made, run}
use Rattle.gesture.specs.Trackers.{fresh_tracker}
use Rattle.gesture.specs.declared.record.Tracker.{Tracker}
use Rattle.panel.specs.Points.{all_on_panel}

-- what is heard from outside: a call, its refusal number, and the gesture it gives, if any
pub record Said : Type 0 where
  pub call : Call
  pub refusal : ℕ
  pub given : Option Gesture

abbrev pub said : Made → Said
said m = record { call = m.call; refusal = refusal_of m.answer; given = given m.answer }

-- the history that calls make on a tracker, oldest first
abbrev pub sayings : Tracker → List Call → List Said
sayings t cs = map said (run t cs)

unfoldable pub history : List Call → List Said
history cs = sayings fresh_tracker cs

-- a call that document 01 accepts: the points in use of a report are on the panel. (A mask is a byte, by its type.)
abbrev pub Accepted : Call → Type 0
Accepted (report now ev) = (all_on_panel (points_in_use ev) ≡ true) × (ev.keys < 256)
Accepted (tick now) = Unit {0}
Accepted capture = Unit {0}
Accepted capture_direct = Unit {0}
Accepted (raw_next wish) = Unit {0}
Accepted (set_grab_ms ms) = Unit {0}

abbrev pub AllAccepted : List Call → Type 0
AllAccepted [] = Unit {0}
AllAccepted (c ∷ cs) = Accepted c × AllAccepted cs
