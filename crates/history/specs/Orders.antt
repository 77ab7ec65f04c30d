-- Request [10], laws for captures: which calls may be made twice, and which in another order.
--
-- "Over trackers that keep the state rules: `capture` twice is `capture` once; of two `raw_next` the later stands; `capture`
-- then tick and tick then `capture` leave the same tracker and the tick answers the same; `capture` with `capture_direct`, in
-- either order, leave the same tracker unless an uncaptured touch is active and the raw wish is on. Log lines are not
-- compared."
--
-- And so for every pair of these calls and `set_grab_ms`. All of it is said of calls and of what they answer; a tracker that
-- breaks the rule is left as it is by every call.
use Rattle.std.specs.Prelude.{ℕ, min, ◌≡◌, Bool, false, not, [], ◌∷◌, ◌⊎◌, Option, Some, None}
use Rattle.fingers.specs.Thresholds.{grab_most}
use Rattle.fingers.specs.declared.gestures.Gesture.TheVariants.{Grab}
use Rattle.fingers.specs.declared.gestures.Gesture.{Gesture}
use Rattle.gesture.specs.Calls.{Call, report, tick, capture, capture_direct, raw_next, set_grab_ms, answer_of}
use Rattle.gesture.specs.Answers.{given, logged_by}
use Rattle.gesture.specs.Captures.{takes}
use Rattle.gesture.specs.Lines.{capture_line}
use Rattle.gesture.specs.Runs.{made, after}
use Rattle.gesture.specs.Trackers.{is_active}
use Rattle.gesture.specs.declared.record.Tracker.{Tracker}
use Rattle.gesture.specs.declared.lines.Line.{Line}
use Rattle.panel.specs.Tests.{when◌then◌else◌, ◌and◌, ◌or◌}
use Rattle.panel.specs.declared.points.Point.{Point}
use Rattle.history.specs.Runs.{said}

infix 5 ◌exactly_if◌
abbrev pub ◌exactly_if◌ : Type 0 → Type 0 → Type 0
◌exactly_if◌ A B = (A → B) × (B → A)

-- in either order the two leave the same tracker
abbrev pub Commute : Tracker → Call → Call → Type 0
Commute t c d = after t (c ∷ d ∷ []) ≡ after t (d ∷ c ∷ [])

-- of two calls the later stands: what the first left is gone
abbrev pub LaterStands : Tracker → Call → Call → Type 0
LaterStands t c d = after t (c ∷ d ∷ []) ≡ after t (d ∷ [])

-- behind a call another answers as it would have without it: its refusal number and its gesture
abbrev pub AnswersAlike : Tracker → Call → Call → Type 0
AnswersAlike t c d = said (made (after t (c ∷ [])) d) ≡ said (made t d)

-- "an uncaptured touch is active and the raw wish is on"
unfoldable pub wish_meets_touch : Tracker → Bool
wish_meets_touch t = is_active t.touch and not t.app.captured and t.settings.raw_next

-- The request's four laws, in its order.

-- "`capture` twice is `capture` once"
abbrev pub CaptureTwice : Tracker → Type 0
CaptureTwice t = LaterStands t capture capture

-- "of two `raw_next` the later stands"
abbrev pub LaterWish : Tracker → Bool → Bool → Type 0
LaterWish t a b = LaterStands t (raw_next a) (raw_next b)

-- "`capture` then tick and tick then `capture` leave the same tracker and the tick answers the same"
abbrev pub CaptureTick : Tracker → ℕ → Type 0
CaptureTick t now = Commute t capture (tick now) × AnswersAlike t capture (tick now)

-- "`capture` with `capture_direct`, in either order, leave the same tracker unless .."; and there they do differ
abbrev pub CaptureDirect : Tracker → Type 0
CaptureDirect t = Commute t capture capture_direct exactly_if (wish_meets_touch t ≡ false)

-- What the other pairs hang on.

-- what a tick at this time gives
abbrev pub gives : Tracker → ℕ → Option Gesture
gives t now = given (answer_of t (tick now))

abbrev pub NoGrab : Tracker → ℕ → Type 0
NoGrab t now = (p : Point) → gives t now ≡ Some (Grab p) → ⊥

-- the same two gestures, in this order or the other
abbrev pub Rearranged : Option Gesture → Option Gesture → Option Gesture → Option Gesture → Type 0
Rearranged g g' h h' = ((g ≡ h) × (g' ≡ h')) ⊎ ((g ≡ h') × (g' ≡ h))

-- of two ticks: at a and then at b, and the other way round
abbrev pub SameGestures : Tracker → ℕ → ℕ → Type 0
SameGestures t a b = Rearranged (gives t a) (gives (after t (tick a ∷ [])) b) (gives t b) (gives (after t (tick b ∷ [])) a)

-- a capture or a setting
abbrev pub Setting : Call → Type 0
Setting (report now ev) = ⊥
Setting (tick now) = ⊥
Setting capture = Unit {0}
Setting capture_direct = Unit {0}
Setting (raw_next on) = Unit {0}
Setting (set_grab_ms ms) = Unit {0}

-- All pairs, in the order capture, capture_direct, raw_next, set_grab_ms, tick.
pub record Orders (t : Tracker) : Type 0 where
  pub capture-twice : CaptureTwice t
  pub capture-direct : CaptureDirect t
  pub capture-raw : (on : Bool) → Commute t capture (raw_next on) exactly_if ((on or wish_meets_touch t) ≡ false)
  pub capture-grab : (ms : ℕ) → Commute t capture (set_grab_ms ms)
  pub capture-tick : (now : ℕ) → CaptureTick t now
  pub direct-twice : LaterStands t capture_direct capture_direct
  pub direct-raw : (on : Bool) → Commute t capture_direct (raw_next on) exactly_if (on ≡ false)
  pub direct-grab : (ms : ℕ) → Commute t capture_direct (set_grab_ms ms)
  pub direct-tick : (now : ℕ) → Commute t capture_direct (tick now) exactly_if NoGrab t now
  pub raw-later : (a b : Bool) → LaterWish t a b
  pub raw-raw : (a b : Bool) → Commute t (raw_next a) (raw_next b) exactly_if (a ≡ b)
  pub raw-grab : (on : Bool) (ms : ℕ) → Commute t (raw_next on) (set_grab_ms ms)
  pub raw-tick : (on : Bool) (now : ℕ) → Commute t (raw_next on) (tick now) × AnswersAlike t (raw_next on) (tick now)
  pub grab-later : (a b : ℕ) → LaterStands t (set_grab_ms a) (set_grab_ms b)
  pub grab-grab : (a b : ℕ) → Commute t (set_grab_ms a) (set_grab_ms b) exactly_if (min a grab_most ≡ min b grab_most)
  -- any of the four and a tick, and so `set_grab_ms` and a tick
  pub setting-tick : (c : Call) → Setting c → (now : ℕ) → Commute t c (tick now) exactly_if AnswersAlike t c (tick now)
  pub tick-tick : (a b : ℕ) → Commute t (tick a) (tick b) exactly_if SameGestures t a b

-- "Log lines are not compared." Which of them differ, and how: `capture` and the tick alone log.

abbrev pub logs : Tracker → Call → Option Line
logs t c = logged_by (answer_of t c)

pub record Lines (t : Tracker) : Type 0 where
  pub direct-silent : logs t capture_direct ≡ None
  pub raw-silent : (on : Bool) → logs t (raw_next on) ≡ None
  pub grab-silent : (ms : ℕ) → logs t (set_grab_ms ms) ≡ None
  -- a capture that finds the touch captured logs nothing
  pub capture-after-capture : logs (after t (capture ∷ [])) capture ≡ None
  pub capture-after-direct : logs (after t (capture_direct ∷ [])) capture ≡ None
  -- behind `raw_next` its line has that wish
  pub capture-after-raw : (on : Bool) → logs (after t (raw_next on ∷ [])) capture ≡ (when takes t then capture_line on t.one.last else None)
  pub capture-after-grab : (ms : ℕ) → logs (after t (set_grab_ms ms ∷ [])) capture ≡ logs t capture
  pub capture-after-tick : (now : ℕ) → logs (after t (tick now ∷ [])) capture ≡ logs t capture
  -- a tick that answers alike logs alike
  pub tick-after : (c : Call) → Setting c → (now : ℕ) → AnswersAlike t c (tick now) → logs (after t (c ∷ [])) (tick now) ≡ logs t (tick now)
