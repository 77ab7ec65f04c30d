-- Every call on a tracker that keeps the state rule leaves one that keeps it, and the fresh tracker keeps it: a run from a
-- fresh tracker never meets STATE. And what a law above needs of the rule. Assumes nothing.
use mathlib.Core.Path.{◌≡◌}
use mathlib.Core.Bool.{Bool, true}
use Prim.Native.Nat.{ℕ}
use native.Mathlib.Omega.{arith}
use Rattle.panel.specs.declared.points.Event.{Event}
use Rattle.panel.proofs.Follow.{if-know, if-all}
use Rattle.fingers.specs.Settings.{unset, set_raw, set_grab}
use Rattle.fingers.proofs.Kept.{reset-fine, untaken-fine, captured-fine, direct-fine}
use Rattle.gesture.specs.States.{raw_rule, state_rule}
use Rattle.gesture.specs.Trackers.{origin, whole, fresh_tracker}
use Rattle.gesture.specs.Captures.{owned, settled, taken, wished, after_capture_direct, after_set_grab}
use Rattle.gesture.specs.Answers.{refused, answered, reported, ticked, captured, event_of, tick_of, capture_of, capture_direct_of, raw_next_of, set_grab_of}
use Rattle.gesture.specs.Calls.{Call, report, tick, capture, capture_direct, raw_next, set_grab_ms, answer_of}
use Rattle.gesture.specs.declared.record.Tracker.{Tracker}
use Rattle.gesture.specs.declared.answers.Answer.{Answer}
use Rattle.gesture.proofs.Facts.{facts, kept}
use Rattle.gesture.proofs.Steps.{origin_on, report-fine, tick-fine}

-- "raw needs captured"
pub raw-captured : (t : Tracker) → state_rule t ≡ true → raw_rule t.app ≡ true
unfolding raw_rule
raw-captured t h = (facts t h).2

pub fresh_kept : state_rule fresh_tracker ≡ true
unfolding fresh_tracker whole unset
fresh_kept = kept fresh_tracker (tt, reset-fine origin origin_on, untaken-fine, omega arith)

abbrev Kept : Answer → Type 0
Kept a = state_rule a.tracker ≡ true

pub event-kept : (t : Tracker) (ev : Event) (now : ℕ) → state_rule t ≡ true → Kept (event_of t ev now)
unfolding event_of reported answered refused
event-kept t ev now h = if-all Kept _ (if-know Kept _ _ _ (λ on. kept _ (report-fine t ev now (facts t h) on)) (λ off. h)) h

pub tick-kept : (t : Tracker) (now : ℕ) → state_rule t ≡ true → Kept (tick_of t now)
unfolding tick_of ticked answered refused
tick-kept t now h = if-all Kept _ (kept _ (tick-fine t now (facts t h))) h

pub capture-kept : (t : Tracker) → state_rule t ≡ true → Kept (capture_of t)
unfolding capture_of captured answered refused taken wished owned settled set_raw whole
capture-kept t h =
    let f = facts t h in
    if-all Kept _ (if-all Kept _ (kept _ (f.0, f.1, captured-fine t.app t.settings.raw_next, f.3)) (kept _ f)) h

pub capture-direct-kept : (t : Tracker) → state_rule t ≡ true → Kept (capture_direct_of t)
unfolding capture_direct_of answered refused after_capture_direct wished owned settled set_raw whole
capture-direct-kept t h =
    let f = facts t h in
    if-all Kept _ (if-all (λ (s : Tracker). state_rule s ≡ true) _ (kept _ (f.0, f.1, direct-fine t.app, f.3)) (kept _ f)) h

pub raw-next-kept : (t : Tracker) (on : Bool) → state_rule t ≡ true → Kept (raw_next_of t on)
unfolding raw_next_of answered refused wished settled set_raw whole
raw-next-kept t on h = if-all Kept _ (kept _ (facts t h)) h

pub set-grab-kept : (t : Tracker) (ms : ℕ) → state_rule t ≡ true → Kept (set_grab_of t ms)
unfolding set_grab_of answered refused after_set_grab settled set_grab whole
set-grab-kept t ms h =
    let f = facts t h in
    if-all Kept _ (kept _ (f.0, f.1, f.2, omega arith)) h

-- any call of a run
pub call_kept : (t : Tracker) (c : Call) → state_rule t ≡ true → Kept (answer_of t c)
call_kept t (report now ev) = event-kept t ev now
call_kept t (tick now) = tick-kept t now
call_kept t capture = capture-kept t
call_kept t capture_direct = capture-direct-kept t
call_kept t (raw_next on) = raw-next-kept t on
call_kept t (set_grab_ms ms) = set-grab-kept t ms
