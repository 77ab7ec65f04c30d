-- The log lines of two calls in either order. Assumes nothing.
use Rattle.std.specs.Prelude.{Option, Some, None}
use Prim.Native.Nat.{ℕ}
use mathlib.Core.Path.{◌≡◌, refl, sym, ap, ◌∙◌}
use mathlib.Core.Bool.{Bool, true, false}
use mathlib.Core.List.{[], ◌∷◌}
use Rattle.fingers.specs.Fields.{set_captured, set_direct}
use Rattle.fingers.specs.Settings.{set_raw, set_grab}
use Rattle.fingers.specs.declared.gestures.Outcome.{Outcome}
use Rattle.fingers.specs.declared.one.One.{One}
use Rattle.fingers.specs.declared.one.OneStep.{OneStep}
use Rattle.gesture.specs.Answers.{logged_by, answered, given_by, captured, capture_of, capture_direct_of, raw_next_of, set_grab_of}
use Rattle.gesture.specs.Calls.{Call, tick, capture, capture_direct, raw_next, set_grab_ms}
use Rattle.gesture.specs.Captures.{takes}
use Rattle.gesture.specs.Lines.{capture_line, tick_line}
use Rattle.gesture.specs.Runs.{after}
use Rattle.gesture.specs.States.{state_rule}
use Rattle.gesture.specs.Trackers.{whole, is_active}
use Rattle.gesture.specs.declared.record.Tracker.{Tracker}
use Rattle.gesture.specs.declared.lines.Line.{Line}
use Rattle.panel.proofs.Follow.{if-of, if-true, if-false}
use Rattle.panel.specs.Tests as tests
use Rattle.panel.specs.Tests.{when◌then◌else◌, ◌and◌}
use Rattle.panel.specs.declared.points.Point.{Point}
use Rattle.history.specs.Orders.{AnswersAlike, Setting, logs, Lines}
use Rattle.history.proofs.KeyLaw.{KeyStep}
use Rattle.history.proofs.Held.{Alike, still_alike, still-there}
use Rattle.history.proofs.SettingTick.{by-given}
use Rattle.history.proofs.Parts.{Tells, behind, settings_by, app_by, with, left, setting-leaves, out_by, one_by, marked, key_of, still_of, left_in, tick-logs, tick-leaves}

-- what a capture logs on any tracker that keeps the rule
abbrev capture_log : Tracker → Option Line
capture_log t = when◌then◌else◌ (takes t) (capture_line t.settings.raw_next t.one.last) None

capture-logs : Tells capture logged_by capture_log
unfolding capture_of captured answered
capture-logs t h = ap logged_by (if-true _ _ _ h) ∙ if-of logged_by (takes t) _ _

-- neither capture leaves a touch to take
module _ (t : Tracker) where
  none_left : (active captured : Bool) → is_active t.touch ≡ active → t.app.captured ≡ captured → takes (left t capture) ≡ false
  unfolding left with whole takes tests.when◌then◌else◌ tests.◌and◌ set_captured
  none_left false c on is = rw on refl
  none_left true true on is = rw (on, is) refl
  none_left true false on is = rw (on, is) refl

  none-direct : (active : Bool) → is_active t.touch ≡ active → takes (left t capture_direct) ≡ false
  unfolding left with whole takes tests.when◌then◌else◌ tests.◌and◌ set_direct
  none-direct false on = rw on refl
  none-direct true on = rw on refl

key-there : (k : KeyStep) (o : One) (s : OneStep) → s.one.last ≡ o.last → (one_by k o s).last ≡ o.last
key-there (Some (g, told)) o s e = refl
key-there None o s e = e

key-out : (k : KeyStep) (r s : OneStep) → Alike r s → given_by (out_by k r) ≡ given_by (out_by k s) → out_by k r ≡ out_by k s
key-out (Some (g, told)) r s a e = refl
key-out None r s a e = ap (λ (u : OneStep). u.out) (a.1 e)

module _ (t : Tracker) (h : state_rule t ≡ true) where
  -- a capture behind a capture or a setting, and behind a tick; a tick behind them

  behind-setting : (c : Call) → Setting c → logs (after t (c ∷ [])) capture ≡ capture_log (left t c)
  behind-setting c x = behind logged_by c capture (λ (u : Tracker). left u c) capture_log (setting-leaves c x) capture-logs t h

  behind-tick : (now : ℕ) → logs (after t (tick now ∷ [])) capture ≡ logs t capture
  unfolding takes marked whole
  behind-tick now =
      behind logged_by (tick now) capture (λ (u : Tracker). left_in u now) capture_log (tick-leaves now) capture-logs t h
      ∙ ap (λ (p : Point). when◌then◌else◌ (takes t) (capture_line t.settings.raw_next p) None) (key-there (key_of t) t.one (still_of t now) (still-there t.touch t.one t.app t.settings now))
      ∙ sym (capture-logs t h)

  tick-behind : (c : Call) → Setting c → (now : ℕ) → AnswersAlike t c (tick now) → logs (after t (c ∷ [])) (tick now) ≡ logs t (tick now)
  unfolding left with whole
  tick-behind c x now alike =
      behind logged_by c (tick now) (λ (u : Tracker). left u c) (λ (u : Tracker). tick_line (out_by (key_of u) (still_of u now)) now) (setting-leaves c x) (tick-logs now) t h
      ∙ ap (λ (out : Outcome). tick_line out now) (key-out (key_of t) _ _ (still_alike t.touch t.one (app_by c t) t.app (settings_by c t.settings) t.settings now now) ((by-given t h c x now).0 alike))
      ∙ sym (tick-logs now t h)

pub lines-law : (t : Tracker) → state_rule t ≡ true → Lines t
unfolding capture_direct_of raw_next_of set_grab_of answered left with whole takes set_raw set_grab
lines-law t h = record {
  direct-silent = ap logged_by (if-true _ _ _ h);
  raw-silent = λ on. ap logged_by (if-true _ _ _ h);
  grab-silent = λ ms. ap logged_by (if-true _ _ _ h);
  capture-after-capture = behind-setting t h capture tt ∙ if-false _ _ _ (none_left t (is_active t.touch) t.app.captured refl refl);
  capture-after-direct = behind-setting t h capture_direct tt ∙ if-false _ _ _ (none-direct t (is_active t.touch) refl);
  capture-after-raw = λ on. behind-setting t h (raw_next on) tt;
  capture-after-grab = λ ms. behind-setting t h (set_grab_ms ms) tt ∙ sym (capture-logs t h);
  capture-after-tick = behind-tick t h;
  tick-after = tick-behind t h;
}
