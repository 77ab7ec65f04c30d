-- Request [10]: the laws of specs/Orders.antt. Assumes nothing.
use mathlib.Core.Path.{◌≡◌, sym, ap, ◌∙◌}
use mathlib.Core.Bool.{true, false}
use mathlib.Core.List.{List, [], ◌∷◌}
use Rattle.gesture.proofs.Keeps.{fresh_kept, call_kept}
use Rattle.gesture.specs.Answers.{refused, event_of, tick_of, capture_of, capture_direct_of, raw_next_of, set_grab_of}
use Rattle.gesture.specs.Calls.{Call, report, tick, capture, capture_direct, raw_next, set_grab_ms, answer_of}
use Rattle.gesture.specs.Runs.{run, after}
use Rattle.gesture.specs.States.{state_rule}
use Rattle.gesture.specs.Trackers.{fresh_tracker}
use Rattle.gesture.specs.declared.record.Tracker.{Tracker}
use Rattle.panel.proofs.Follow.{if-false}
use Rattle.history.specs.Orders.{Commute, Orders, Lines}
use Rattle.history.proofs.Logs.{lines-law}
use Rattle.history.proofs.Parts.{tracker_of}
use Rattle.history.proofs.SettingTick.{tick-law, capture-tick-law, raw-tick-law, direct-tick-law}
use Rattle.history.proofs.TwoSettings.{capture-twice-law, capture-direct-law, capture-raw-law, capture-grab-law, direct-twice-law, direct-raw-law, direct-grab-law, raw-later-law, raw-raw-law, raw-grab-law, grab-later-law, grab-grab-law}
use Rattle.history.proofs.TwoTicks.{tick-tick-law}

pub orders : (t : Tracker) → state_rule t ≡ true → Orders t
orders t h = record {
  capture-twice = capture-twice-law t h;
  capture-direct = capture-direct-law t h;
  capture-raw = capture-raw-law t h;
  capture-grab = capture-grab-law t h;
  capture-tick = capture-tick-law t h;
  direct-twice = direct-twice-law t h;
  direct-raw = direct-raw-law t h;
  direct-grab = direct-grab-law t h;
  direct-tick = direct-tick-law t h;
  raw-later = raw-later-law t h;
  raw-raw = raw-raw-law t h;
  raw-grab = raw-grab-law t h;
  raw-tick = raw-tick-law t h;
  grab-later = grab-later-law t h;
  grab-grab = grab-grab-law t h;
  setting-tick = tick-law t h;
  tick-tick = tick-tick-law t h;
}

pub lines : (t : Tracker) → state_rule t ≡ true → Lines t
lines = lines-law

-- At any place of a run from a fresh tracker: nothing is supposed of the calls before it. And where two calls leave the same
-- tracker, everything afterwards is the same: refusals, gestures, log lines and trackers.

run-kept : (cs : List Call) (t : Tracker) → state_rule t ≡ true → state_rule (after t cs) ≡ true
unfolding after
run-kept [] t h = h
run-kept (c ∷ cs) t h = run-kept cs (answer_of t c).tracker (call_kept t c h)

pub orders-anywhere : (cs : List Call) → Orders (after fresh_tracker cs)
orders-anywhere cs = orders (after fresh_tracker cs) (run-kept cs fresh_tracker fresh_kept)

pub afterwards : (t : Tracker) (c d : Call) → Commute t c d → (ds : List Call) → run (after t (c ∷ d ∷ [])) ds ≡ run (after t (d ∷ c ∷ [])) ds
afterwards t c d same ds = ap (λ (u : Tracker). run u ds) same

-- On a tracker that breaks the state rule every call is refused and leaves it as it is: there any order leaves the same.

refused-leaves : (t : Tracker) (c : Call) → state_rule t ≡ false → (answer_of t c).tracker ≡ t
unfolding event_of tick_of capture_of capture_direct_of raw_next_of set_grab_of refused
refused-leaves t (report now ev) h = ap tracker_of (if-false _ _ _ h)
refused-leaves t (tick now) h = ap tracker_of (if-false _ _ _ h)
refused-leaves t capture h = ap tracker_of (if-false _ _ _ h)
refused-leaves t capture_direct h = ap tracker_of (if-false _ _ _ h)
refused-leaves t (raw_next on) h = ap tracker_of (if-false _ _ _ h)
refused-leaves t (set_grab_ms ms) h = ap tracker_of (if-false _ _ _ h)

two-refused : (t : Tracker) (c d : Call) → state_rule t ≡ false → after t (c ∷ d ∷ []) ≡ t
unfolding after
two-refused t c d h = ap (λ (u : Tracker). (answer_of u d).tracker) (refused-leaves t c h) ∙ refused-leaves t d h

pub broken-orders : (t : Tracker) → state_rule t ≡ false → (c d : Call) → Commute t c d
broken-orders t h c d = two-refused t c d h ∙ sym (two-refused t d c h)
