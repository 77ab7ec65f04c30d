-- What the captures, the settings and a tick leave of a tracker that keeps the state rule, part by part: a capture or a
-- setting leaves other settings and what the app made of the touch, by these and by whether a touch is on; a tick leaves other
-- keys and what the one finger did. Assumes nothing.
use Rattle.std.specs.Prelude.{Option, Some, None}
use Prim.Native.Nat.{ℕ, min}
use mathlib.Core.Path.{◌≡◌, refl, sym, ap, ◌∙◌}
use mathlib.Core.Bool.{true, false}
use mathlib.Core.List.{[], ◌∷◌}
use Rattle.fingers.specs.Fields.{set_captured, set_direct}
use Rattle.fingers.specs.Holds.{held_still}
use Rattle.fingers.specs.Holds as holds
use Rattle.fingers.specs.Keys.{key_step}
use Rattle.fingers.specs.Settings.{set_raw, set_grab}
use Rattle.fingers.specs.Thresholds.{grab_most}
use Rattle.fingers.specs.declared.gestures.Outcome.{Outcome}
use Rattle.fingers.specs.declared.gestures.Outcome.TheVariants.{Quiet, Gives}
use Rattle.fingers.specs.declared.keys.Keys.{Keys}
use Rattle.fingers.specs.declared.one.App.{App}
use Rattle.fingers.specs.declared.one.One.{One}
use Rattle.fingers.specs.declared.one.OneStep.{OneStep}
use Rattle.fingers.specs.declared.settings.Settings.{Settings}
use Rattle.fingers.specs.declared.gestures.Gesture.{Gesture}
use Rattle.gesture.proofs.Keeps.{call_kept}
use Rattle.gesture.specs.Answers.{refusal_of, given, logged_by, answered, given_by, captured, capture_of, capture_direct_of, raw_next_of, set_grab_of, ticked, tick_of}
use Rattle.gesture.specs.Calls.{Call, report, tick, capture, capture_direct, raw_next, set_grab_ms, answer_of}
use Rattle.gesture.specs.Captures.{owned, settled, takes, taken, wished, after_capture_direct, after_set_grab}
use Rattle.gesture.specs.Lines.{tick_line}
use Rattle.gesture.specs.Reports.{goes_on}
use Rattle.gesture.specs.Runs.{after}
use Rattle.gesture.specs.States.{state_rule}
use Rattle.gesture.specs.Ticks.{still_down, keys_then_hold, tick_step}
use Rattle.gesture.specs.Trackers.{whole, is_active, step, keys_at, touched, keyed}
use Rattle.gesture.specs.declared.answers.Answer.{Answer}
use Rattle.gesture.specs.declared.record.Step.{Step}
use Rattle.gesture.specs.declared.record.Touch.{Touch}
use Rattle.gesture.specs.declared.record.Touch.TheVariants.{Idle, Down, Multi, Residual}
use Rattle.gesture.specs.declared.record.Tracker.{Tracker}
use Rattle.panel.proofs.Follow.{if-of, if-true}
use Rattle.panel.specs.Tests.{when◌then◌else◌}
use Rattle.history.specs.Orders.{Setting}
use Rattle.history.proofs.KeyLaw.{KeyStep}

-- What a call tells, or leaves, of every tracker that keeps the rule; and behind another call.

abbrev pub Tells : {A : Type 0} → Call → (Answer → A) → (Tracker → A) → Type 0
Tells c what by = (t : Tracker) → state_rule t ≡ true → what (answer_of t c) ≡ by t

abbrev pub tracker_of : Answer → Tracker
tracker_of a = a.tracker

pub behind : {A : Type 0} (what : Answer → A) (c d : Call) (leaves : Tracker → Tracker) (by : Tracker → A) → Tells c tracker_of leaves → Tells d what by →
    (t : Tracker) → state_rule t ≡ true → what (answer_of (after t (c ∷ [])) d) ≡ by (leaves t)
unfolding after
behind what c d leaves by lc ld t h = ld (answer_of t c).tracker (call_kept t c h) ∙ ap by (lc t h)

pub two-leave : (c d : Call) (f g : Tracker → Tracker) → Tells c tracker_of f → Tells d tracker_of g → (t : Tracker) → state_rule t ≡ true → after t (c ∷ d ∷ []) ≡ g (f t)
unfolding after
two-leave c d f g lc ld t h = behind tracker_of c d f g lc ld t h

-- The captures and the settings.

abbrev pub settings_by : Call → Settings → Settings
settings_by (report now ev) set = set
settings_by (tick now) set = set
settings_by capture set = set_raw set false
settings_by capture_direct set = set_raw set false
settings_by (raw_next on) set = set_raw set on
settings_by (set_grab_ms ms) set = set_grab set (min ms grab_most)

abbrev pub app_by : Call → Tracker → App
app_by (report now ev) t = t.app
app_by (tick now) t = t.app
app_by capture t = when◌then◌else◌ (takes t) (set_captured t.app t.settings.raw_next) t.app
app_by capture_direct t = when◌then◌else◌ (is_active t.touch) (set_direct t.app) t.app
app_by (raw_next on) t = t.app
app_by (set_grab_ms ms) t = t.app

-- a tracker with other settings, and another use that the app makes of the touch
unfoldable pub with : Tracker → Settings → App → Tracker
with t set app = whole set t.keys t.touch t.one app t.multi_end

-- the tracker that a capture or a setting leaves
unfoldable pub left : Tracker → Call → Tracker
left t c = with t (settings_by c t.settings) (app_by c t)

pub setting-leaves : (c : Call) → Setting c → Tells c tracker_of (λ (t : Tracker). left t c)
unfolding capture_of captured capture_direct_of raw_next_of set_grab_of answered owned settled taken wished after_capture_direct after_set_grab left with
setting-leaves (report now ev) x t h = absurd x
setting-leaves (tick now) x t h = absurd x
setting-leaves capture x t h =
    ap tracker_of (if-true _ _ _ h) ∙ if-of tracker_of (takes t) _ _ ∙ sym (if-of (with t (set_raw t.settings false)) (takes t) _ _)
setting-leaves capture_direct x t h =
    ap tracker_of (if-true _ _ _ h) ∙ sym (if-of (with t (set_raw t.settings false)) (is_active t.touch) _ _)
setting-leaves (raw_next on) x t h = ap tracker_of (if-true _ _ _ h)
setting-leaves (set_grab_ms ms) x t h = ap tracker_of (if-true _ _ _ h)

-- The tick.

-- what a finger that is down alone does by itself; no other touch does anything
unfoldable pub still_by : Touch → One → App → Settings → ℕ → OneStep
still_by Idle one app set now = holds.step Quiet one
still_by (Down start since) one app set now = held_still one app start since now set
still_by (Multi m pair) one app set now = holds.step Quiet one
still_by Residual one app set now = holds.step Quiet one

abbrev pub out_by : KeyStep → OneStep → Outcome
out_by (Some (g, told)) s = Gives g
out_by None s = s.out

abbrev pub keys_by : KeyStep → Keys → Keys
keys_by (Some (g, told)) keys = keys_at told keys.wanted
keys_by None keys = keys

abbrev pub one_by : KeyStep → One → OneStep → One
one_by (Some (g, told)) one s = one
one_by None one s = s.one

-- a tracker with other keys, and something else that the finger did
unfoldable pub marked : Tracker → Keys → One → Tracker
marked t keys one = whole t.settings keys t.touch one t.app t.multi_end

-- neither capture looks at them
pub app-unmarked : (c : Call) (t : Tracker) (keys : Keys) (one : One) → app_by c (marked t keys one) ≡ app_by c t
unfolding marked whole takes
app-unmarked (report now ev) t keys one = refl
app-unmarked (tick now) t keys one = refl
app-unmarked capture t keys one = refl
app-unmarked capture_direct t keys one = refl
app-unmarked (raw_next on) t keys one = refl
app-unmarked (set_grab_ms ms) t keys one = refl

abbrev pub still_of : Tracker → ℕ → OneStep
still_of t now = still_by t.touch t.one t.app t.settings now

abbrev pub key_of : Tracker → KeyStep
key_of t = key_step t.keys.told t.keys.wanted

still-is : (x : Touch) (t : Tracker) (now : ℕ) → t.touch ≡ x →
    still_down x t now ≡ step (still_by x t.one t.app t.settings now).out (marked t t.keys (still_by x t.one t.app t.settings now).one)
unfolding still_down still_by goes_on touched marked whole
still-is Idle t now e = refl
still-is Residual t now e = refl
still-is (Multi m pair) t now e = refl
still-is (Down start since) t now e =
    let s = held_still t.one t.app start since now t.settings in
    ap (λ (x : Touch). step s.out (whole t.settings t.keys x s.one t.app t.multi_end)) (sym e)

key-is : (k : KeyStep) (t : Tracker) (now : ℕ) → keys_then_hold k t now ≡ step (out_by k (still_of t now)) (marked t (keys_by k t.keys) (one_by k t.one (still_of t now)))
unfolding keys_then_hold keyed marked
key-is (Some (g, told)) t now = refl
key-is None t now = still-is t.touch t now refl

-- what a tick gives, and the tracker that it leaves
abbrev pub given_in : Tracker → ℕ → Option Gesture
given_in t now = given_by (out_by (key_of t) (still_of t now))

abbrev pub one_in : Tracker → ℕ → One
one_in t now = one_by (key_of t) t.one (still_of t now)

abbrev pub left_in : Tracker → ℕ → Tracker
left_in t now = marked t (keys_by (key_of t) t.keys) (one_in t now)

tick-answers : (now : ℕ) → Tells (tick now) (λ (a : Answer). a) (λ (t : Tracker). ticked (step (out_by (key_of t) (still_of t now)) (left_in t now)) now)
unfolding tick_of tick_step
tick-answers now t h = if-true _ _ _ h ∙ ap (λ (s : Step). ticked s now) (key-is (key_of t) t now)

pub tick-leaves : (now : ℕ) → Tells (tick now) tracker_of (λ (t : Tracker). left_in t now)
unfolding ticked answered
tick-leaves now t h = ap tracker_of (tick-answers now t h)

pub tick-logs : (now : ℕ) → Tells (tick now) logged_by (λ (t : Tracker). tick_line (out_by (key_of t) (still_of t now)) now)
unfolding ticked answered
tick-logs now t h = ap logged_by (tick-answers now t h)

pub tick_gives : (now : ℕ) → Tells (tick now) given (λ (t : Tracker). given_in t now)
unfolding ticked answered
tick_gives now t h = ap given (tick-answers now t h)

pub tick-answered : (now : ℕ) → Tells (tick now) refusal_of (λ (t : Tracker). 0)
unfolding ticked answered
tick-answered now t h = ap refusal_of (tick-answers now t h)
