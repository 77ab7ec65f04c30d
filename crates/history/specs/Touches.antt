-- What an observer of calls and answers knows of touches. It never looks at the tracker.
--
-- "A report answered by a key change is spent: its fingers count for nothing." "A touch runs from an unspent report with
-- fingers to the next unspent report of none."
use Rattle.std.specs.Prelude.{ℕ, ◌+◌, Bool, true, false, Option}
use Rattle.fingers.specs.declared.gestures.Gesture.{Gesture}
use Rattle.gesture.specs.Calls.{Call, report, tick, capture, capture_direct, raw_next, set_grab_ms}
use Rattle.panel.specs.Tests.{when◌then◌else◌, ◌<?◌, ◌=?◌}
use Rattle.history.specs.Gestures.{tells_key}
use Rattle.history.specs.Keys.{told}

-- "under 300 ms"
abbrev pub gap : ℕ
gap = 300

-- the touch that is on: has it had several fingers, has it one now, is it excepted
pub record Touch : Type 0 where
  pub several : Bool
  pub one : Bool
  pub excepted : Bool

pub data On : Type 0 where
  off : On
  on : Touch → On

-- the touch before: one that had several, released at a time; or another, or none
pub data Before : Type 0 where
  plain : Before
  many_until : ℕ → Before

pub record Seen : Type 0 where
  pub keys : ℕ
  pub touch : On
  pub before : Before

unfoldable pub start : Seen
start = record { keys = 0; touch = off; before = plain }

-- "the touch before it had several and its release is under 300 ms back or ahead of the clock"
abbrev pub close : Before → ℕ → Bool
close plain now = false
close (many_until release) now = now <? release + gap

-- "A touch that starts with one finger": whether it is excepted is decided there; one that starts with several is not
abbrev pub with_one : On → Before → ℕ → Touch
with_one off before now = record { several = false; one = true; excepted = close before now }
with_one (on t) before now = record { several = t.several; one = true; excepted = t.excepted }

abbrev pub with_several : On → Touch
with_several off = record { several = true; one = false; excepted = false }
with_several (on t) = record { several = true; one = false; excepted = t.excepted }

abbrev pub over : On → Before → ℕ → Before
over off before now = before
over (on t) before now = when t.several then many_until now else plain

-- an unspent report of so many fingers
unfoldable pub counted : Seen → ℕ → ℕ → Seen
counted s n now =
    when n =? 0 then record { keys = s.keys; touch = off; before = over s.touch s.before now }
    else when n =? 1 then record { keys = s.keys; touch = on (with_one s.touch s.before now); before = s.before }
    else record { keys = s.keys; touch = on (with_several s.touch); before = s.before }

-- what is known after a call and its answer
abbrev pub key_told : Seen → Option Gesture → Seen
key_told s g = record { keys = told s.keys g; touch = s.touch; before = s.before }

abbrev pub watch : Seen → Call → Option Gesture → Seen
watch s (report now ev) g = when tells_key g then key_told s g else counted s ev.points now
watch s (tick now) g = key_told s g
watch s capture g = s
watch s capture_direct g = s
watch s (raw_next wish) g = s
watch s (set_grab_ms ms) g = s
