-- What one accepted call gives, from a tracker and an observer that belong together: they belong together after it, and
-- each sentence of the demand holds of it. Assumes nothing.
use Rattle.std.specs.Prelude.{Option, Some, None}
use Prim.Native.Nat.{ℕ, ◌<◌}
use mathlib.Core.Path.{◌≡◌, refl, sym, ap, subst, ◌∙◌}
use mathlib.Core.Bool.{Bool, true, false, true≢false}
use mathlib.Core.List.{List, [], ◌∷◌}
use Rattle.fingers.specs.Gestures.{is_key_change}
use Rattle.fingers.specs.Keys.{key_step}
use Rattle.fingers.specs.Settings.{set_raw, set_grab}
use Rattle.fingers.specs.declared.gestures.Gesture.{Gesture}
use Rattle.fingers.specs.declared.gestures.Gesture.TheVariants.{Down, Tap, LongPress, Drag, Grab, Up, SwipeLeft, SwipeRight, SwipeUp, SwipeDown, Cancel, MultiSwipeDown, KeyDown, KeyUp, Move, Pinch, PinchEnd}
use Rattle.fingers.specs.declared.gestures.Outcome.TheVariants.{Gives}
use Rattle.gesture.proofs.Keeps.{call_kept}
use Rattle.gesture.specs.Lines.{is_locked}
use Rattle.gesture.specs.Answers.{points_in_use, refusal_of, given, answered, given_by, reported, event_of, ticked, tick_of, captured, capture_of, capture_direct_of, raw_next_of, set_grab_of}
use Rattle.gesture.specs.Calls.{Call, report, tick, capture, capture_direct, raw_next, set_grab_ms, answer_of}
use Rattle.gesture.specs.Captures.{owned, settled, taken, wished, after_capture_direct, after_set_grab}
use Rattle.gesture.specs.Reports.{keys_then_fingers, report_step}
use Rattle.gesture.specs.States.{state_rule}
use Rattle.gesture.specs.Ticks.{still_down, keys_then_hold, tick_step}
use Rattle.gesture.specs.Trackers.{whole, keys_at, keyed, step}
use Rattle.gesture.specs.declared.answers.Answer.{Answer}
use Rattle.gesture.specs.declared.record.Step.{Step}
use Rattle.gesture.specs.declared.record.Touch.{Touch}
use Rattle.gesture.specs.declared.record.Tracker.{Tracker}
use Rattle.panel.proofs.Follow.{if-true, if-false, if-all}
use Rattle.panel.specs.Points.{all_on_panel}
use Rattle.panel.specs.Tests.{when◌then◌else◌}
use Rattle.panel.specs.declared.points.Event.{Event}
use Rattle.history.specs.Demand.{NextChange, Tells, SeveralSilent, DownAtOnce, ExceptedSilent, Repeats}
use Rattle.history.specs.Gestures.{tells_key}
use Rattle.history.specs.Keys.{changes, told_by, told}
use Rattle.history.specs.Runs.{Accepted}
use Rattle.history.specs.Touches.{Seen, key_told, watch}
use Rattle.history.proofs.KeyLaw.{KeyStep, KeyIs, key-law}
use Rattle.history.proofs.Moves.{Fits, EndFits, Moved, fingers-moved, starts-down, tick-moved}

-- A tracker and an observer that belong together.
pub record Together (t : Tracker) (s : Seen) : Type 0 where
  pub valid : state_rule t ≡ true
  pub keys : s.keys ≡ t.keys.told
  pub byte : t.keys.told < 256
  pub want : t.keys.wanted < 256
  pub touch : Fits t.touch s.touch
  pub end : EndFits t.touch t.multi_end s.before

-- What a call c gives, apart from the state rule: s' is what is known after it.
record Gives' (t : Tracker) (s : Seen) (c : Call) (g : Option Gesture) (t' : Tracker) (s' : Seen) : Type 0 where
  watched : watch s c g ≡ s'
  keys : s'.keys ≡ t'.keys.told
  byte : t'.keys.told < 256
  want : t'.keys.wanted < 256
  touch : Fits t'.touch s'.touch
  end : EndFits t'.touch t'.multi_end s'.before
  several : SeveralSilent s.touch s'.touch g
  down : DownAtOnce s c g
  excepted : ExceptedSilent s.touch s'.touch g

-- What it does to the changes that are left to a mask.
pub record Left (t : Tracker) (mask : ℕ) (c : Call) (g : Option Gesture) (t' : Tracker) : Type 1 where
  pub want : t'.keys.wanted ≡ mask
  pub tells : (rest : List Gesture → Type 0) → rest (changes t'.keys.told mask) → Tells (changes t.keys.told mask) c g rest

-- A report and a tick, towards the mask that is wanted: of the changes that are left the first is told, and where none is
-- left the fingers or the clock are read.

-- by the changes that are left
by-key : (P : Step → Type 1) (by : KeyStep → Step) (a b : ℕ) (l : List Gesture) → changes a b ≡ l → KeyIs a b l (key_step a b) → (changes a b ≡ [] → P (by None)) →
    ((g : Gesture) (gs : List Gesture) → changes a b ≡ g ∷ gs → KeyIs a b (g ∷ gs) (key_step a b) → P (by (Some (g, told_by a g)))) → P (by (key_step a b))
by-key P by a b [] e k none some = subst (λ (x : KeyStep). P (by x)) (sym k) (none e)
by-key P by a b (g ∷ gs) e k none some = subst (λ (x : KeyStep). P (by x)) (sym k.is) (some g gs e k)

module _ (t : Tracker) (s : Seen) (i : Together t s) (c : Call) (mask : ℕ) (byte : mask < 256) where
  abbrev Does : Step → Type 1
  Does st = ((s' : Seen) × Gives' t s c (given_by st.out) st.tracker s') × Left t mask c (given_by st.out) st.tracker

  -- a call that is spent by a key change, and tells the next of them
  pub record ByKeys : Type 1 where
    pub spent : (g : Gesture) → is_key_change g ≡ true → (watch s c (Some g) ≡ key_told s (Some g)) × DownAtOnce s c (Some g)
    pub next : (left : List Gesture) (g : Option Gesture) (rest : List Gesture → Type 0) → NextChange left g rest → Tells left c g rest

  -- a change is told
  key-does : ByKeys → (g : Gesture) (gs : List Gesture) → changes t.keys.told mask ≡ g ∷ gs → KeyIs t.keys.told mask (g ∷ gs) (key_step t.keys.told mask) →
      Does (step (Gives g) (keyed t (keys_at (told_by t.keys.told g) mask)))
  unfolding keyed whole given_by
  key-does b g gs e k = (
    (
      key_told s (Some g),
      record {
        watched = (b.spent g k.key).0;
        keys = ap (λ (n : ℕ). told_by n g) i.keys;
        byte = k.byte;
        want = byte;
        touch = i.touch;
        end = i.end;
        several = λ h. k.one;
        down = (b.spent g k.key).1;
        excepted = λ h. k.key;
      },
    ),
    record {
      want = refl;
      tells = λ rest h. b.next _ _ rest (subst (λ (l : List Gesture). NextChange l (Some g) rest) (sym e) (refl, subst rest k.rest h));
    },
  )

  -- no change is left: what comes of fingers and the clock, the mask stored
  rest-does : ByKeys → (u : Tracker) → u.keys.told ≡ t.keys.told → u.keys.wanted ≡ mask → (st : Step) (s' : Seen) → Moved u s st.out st.tracker s' → watch s c (given_by st.out) ≡ s' →
      DownAtOnce s c (given_by st.out) → changes t.keys.told mask ≡ [] → Does st
  rest-does b u p q st s' m w d none = (
    (
      s',
      record {
        watched = w;
        keys = m.seen ∙ i.keys ∙ sym (m.keys ∙ p);
        byte = subst (λ (k : ℕ). k < 256) (sym (m.keys ∙ p)) i.byte;
        want = subst (λ (k : ℕ). k < 256) (sym (m.want ∙ q)) byte;
        touch = m.touch;
        end = m.end;
        several = m.several;
        down = d;
        excepted = m.excepted;
      },
    ),
    record {
      want = m.want ∙ q;
      tells = λ rest h.
          b.next _ _ rest
          (subst (λ (l : List Gesture). NextChange l (given_by st.out) rest) (sym none)
          (m.no_key, subst rest (ap (λ (k : ℕ). changes k mask) (m.keys ∙ p) ∙ none) h));
    },
  )

report-does : (t : Tracker) (s : Seen) (i : Together t s) (now : ℕ) (ev : Event) (byte : ev.keys < 256) → Does t s i (report now ev) ev.keys byte (report_step t ev now)
unfolding report_step keys_then_fingers keyed whole
report-does t s i now ev byte =
    let u = keyed t (keys_at t.keys.told ev.keys) in
    let m = fingers-moved u s ev now i.touch i.end in
    let b : ByKeys t s i (report now ev) ev.keys byte = record {
      spent = λ g e. (if-true _ _ _ e, λ a o n c. absurd (true≢false (sym e ∙ a)));
      next = λ left g rest h. h;
    } in
    by-key (Does t s i (report now ev) ev.keys byte) (λ k. keys_then_fingers k t ev now) t.keys.told ev.keys _ refl (key-law t.keys.told ev.keys i.byte byte)
    (rest-does t s i (report now ev) ev.keys byte b u refl refl _ _ m (if-false _ _ _ m.no_key) (λ a o n c. starts-down u s ev now i.touch i.end o n c))
    (key-does t s i (report now ev) ev.keys byte b)

-- an answer that tells of no key leaves the keys told as they were
gesture-none : (mask : ℕ) (g : Gesture) → is_key_change g ≡ false → told_by mask g ≡ mask
gesture-none mask (KeyDown k) e = absurd (true≢false e)
gesture-none mask (KeyUp k) e = absurd (true≢false e)
gesture-none mask (Down p) e = refl
gesture-none mask (Tap p) e = refl
gesture-none mask (LongPress p) e = refl
gesture-none mask (Drag start p a) e = refl
gesture-none mask (Grab p) e = refl
gesture-none mask (Up p) e = refl
gesture-none mask SwipeLeft e = refl
gesture-none mask SwipeRight e = refl
gesture-none mask SwipeUp e = refl
gesture-none mask SwipeDown e = refl
gesture-none mask Cancel e = refl
gesture-none mask (MultiSwipeDown n) e = refl
gesture-none mask (Move prev p) e = refl
gesture-none mask (Pinch a span0 span) e = refl
gesture-none mask (PinchEnd released) e = refl

told_none : (mask : ℕ) (g : Option Gesture) → tells_key g ≡ false → told mask g ≡ mask
told_none mask None e = refl
told_none mask (Some g) e = gesture-none mask g e

tick-does : (t : Tracker) (s : Seen) (i : Together t s) (now : ℕ) → Does t s i (tick now) t.keys.wanted i.want (tick_step t now)
unfolding tick_step keys_then_hold
tick-does t s i now =
    let m = tick-moved t s now t.touch refl i.touch i.end in
    let b : ByKeys t s i (tick now) t.keys.wanted i.want = record {
      spent = λ g e. (refl, tt);
      next = λ left g rest h. h;
    } in
    by-key (Does t s i (tick now) t.keys.wanted i.want) (λ k. keys_then_hold k t now) t.keys.told t.keys.wanted _ refl (key-law t.keys.told t.keys.wanted i.byte i.want)
    (rest-does t s i (tick now) t.keys.wanted i.want b t refl refl _ _ m
    (λ j. record { keys = told_none s.keys (given_by (still_down t.touch t now).out) m.no_key j; touch = s.touch; before = s.before }) tt)
    (key-does t s i (tick now) t.keys.wanted i.want b)

-- The captures and settings: they give nothing, and leave keys, touch and the stored end as they are.

record Leaves (t t' : Tracker) : Type 0 where
  keys : t'.keys.told ≡ t.keys.told
  want : t'.keys.wanted ≡ t.keys.wanted
  touch : t'.touch ≡ t.touch
  end : t'.multi_end ≡ t.multi_end

module _ (t : Tracker) (s : Seen) (i : Together t s) where
  quiet-gives : (c : Call) (t' : Tracker) → Leaves t t' → watch s c None ≡ s → DownAtOnce s c None → Gives' t s c None t' s
  quiet-gives c t' l w d = record {
    watched = w;
    keys = i.keys ∙ sym l.keys;
    byte = subst (λ (k : ℕ). k < 256) (sym l.keys) i.byte;
    want = subst (λ (k : ℕ). k < 256) (sym l.want) i.want;
    touch = subst (λ (x : Touch). Fits x s.touch) (sym l.touch) i.touch;
    end =
        subst (λ (x : Touch). EndFits x t'.multi_end s.before) (sym l.touch)
        (subst (λ (e : Option ℕ). EndFits t.touch e s.before) (sym l.end) i.end);
    several = λ h. refl;
    down = d;
    excepted = λ h. refl;
  }

  quiet-left : (c : Call) (mask : ℕ) (t' : Tracker) → t.keys.wanted ≡ mask → Leaves t t' →
      ((rest : List Gesture → Type 0) → rest (changes t.keys.told mask) → Tells (changes t.keys.told mask) c None rest) → Left t mask c None t'
  quiet-left c mask t' w l f = record { want = l.want ∙ w; tells = λ rest h. f rest (subst (λ (k : ℕ). rest (changes k mask)) l.keys h) }

  -- each of them on a tracker that keeps the state rule
  abbrev Quiet : Answer → Type 0
  Quiet a = (refusal_of a ≡ 0) × (given a ≡ None) × Leaves t a.tracker

  quiet_of : (b : Bool) (x y : Answer) → b ≡ true → Quiet x → Quiet (when◌then◌else◌ b x y)
  quiet_of b x y e q = subst Quiet (sym (if-true b x y e)) q

  capture-quiet : Quiet (capture_of t)
  unfolding capture_of captured answered taken wished owned settled set_raw whole
  capture-quiet =
      quiet_of _ _ _ i.valid
      (if-all Quiet _ (refl, refl, record { keys = refl; want = refl; touch = refl; end = refl }) (refl, refl, record { keys = refl; want = refl; touch = refl; end = refl }))

  direct-quiet : Quiet (capture_direct_of t)
  unfolding capture_direct_of answered after_capture_direct wished owned settled set_raw whole
  direct-quiet =
      quiet_of _ _ _ i.valid
      (refl, refl, if-all (λ (u : Tracker). Leaves t u) _ (record { keys = refl; want = refl; touch = refl; end = refl }) (record { keys = refl; want = refl; touch = refl; end = refl }))

  raw-quiet : (wish : Bool) → Quiet (raw_next_of t wish)
  unfolding raw_next_of answered wished owned settled set_raw whole
  raw-quiet wish = quiet_of _ _ _ i.valid (refl, refl, record { keys = refl; want = refl; touch = refl; end = refl })

  grab-quiet : (ms : ℕ) → Quiet (set_grab_of t ms)
  unfolding set_grab_of answered after_set_grab settled set_grab whole
  grab-quiet ms = quiet_of _ _ _ i.valid (refl, refl, record { keys = refl; want = refl; touch = refl; end = refl })

-- Any accepted call.

module _ (t : Tracker) (s : Seen) (i : Together t s) where
  pub event-is : (ev : Event) (now : ℕ) → all_on_panel (points_in_use ev) ≡ true → event_of t ev now ≡ reported (report_step t ev now) (is_locked t.one.axis) now
  unfolding event_of
  event-is ev now on = if-true _ _ _ i.valid ∙ if-true _ _ _ on

  tick_is : (now : ℕ) → tick_of t now ≡ ticked (tick_step t now) now
  unfolding tick_of
  tick_is now = if-true _ _ _ i.valid

  pub call-answered : (c : Call) → Accepted c → refusal_of (answer_of t c) ≡ 0
  unfolding reported ticked answered
  call-answered (report now ev) a = ap refusal_of (event-is ev now a.0)
  call-answered (tick now) a = ap refusal_of (tick_is now)
  call-answered capture a = (capture-quiet t s i).0
  call-answered capture_direct a = (direct-quiet t s i).0
  call-answered (raw_next wish) a = (raw-quiet t s i wish).0
  call-answered (set_grab_ms ms) a = (grab-quiet t s i ms).0

  abbrev CallGives : Call → Answer → Type 0
  CallGives c a = (s' : Seen) × Gives' t s c (given a) a.tracker s'

  quiet-call : (c : Call) (a : Answer) → Quiet t s i a → watch s c None ≡ s → DownAtOnce s c None → CallGives c a
  quiet-call c a q w d = (s, subst (λ (g : Option Gesture). Gives' t s c g a.tracker s) (sym q.1) (quiet-gives t s i c a.tracker q.2 w d))

  call-gives : (c : Call) → Accepted c → CallGives c (answer_of t c)
  unfolding reported ticked answered
  call-gives (report now ev) a = subst (CallGives (report now ev)) (sym (event-is ev now a.0)) (report-does t s i now ev a.1).0
  call-gives (tick now) a = subst (CallGives (tick now)) (sym (tick_is now)) (tick-does t s i now).0
  call-gives capture a = quiet-call capture (capture_of t) (capture-quiet t s i) refl tt
  call-gives capture_direct a = quiet-call capture_direct (capture_direct_of t) (direct-quiet t s i) refl tt
  call-gives (raw_next wish) a = quiet-call (raw_next wish) (raw_next_of t wish) (raw-quiet t s i wish) refl tt
  call-gives (set_grab_ms ms) a = quiet-call (set_grab_ms ms) (set_grab_of t ms) (grab-quiet t s i ms) refl tt

  abbrev CallLeft : ℕ → Call → Answer → Type 1
  CallLeft mask c a = Left t mask c (given a) a.tracker

  pub report-leaves : (now : ℕ) (ev : Event) → Accepted (report now ev) → CallLeft ev.keys (report now ev) (answer_of t (report now ev))
  unfolding reported answered
  report-leaves now ev a =
      subst (CallLeft ev.keys (report now ev)) (sym (event-is ev now a.0)) (report-does t s i now ev a.1).1

  quiet-leaves : (c : Call) (mask : ℕ) (a : Answer) → t.keys.wanted ≡ mask → Quiet t s i a →
      ((rest : List Gesture → Type 0) → rest (changes t.keys.told mask) → Tells (changes t.keys.told mask) c None rest) → CallLeft mask c a
  quiet-leaves c mask a w q f = subst (λ (g : Option Gesture). Left t mask c g a.tracker) (sym q.1) (quiet-left t s i c mask a.tracker w q.2 f)

  pub call-leaves : (c : Call) (mask : ℕ) → t.keys.wanted ≡ mask → Accepted c → Repeats mask c → CallLeft mask c (answer_of t c)
  unfolding ticked answered
  call-leaves (report now ev) mask w a r = subst (λ (m : ℕ). CallLeft m (report now ev) (answer_of t (report now ev))) r (report-leaves now ev a)
  call-leaves (tick now) mask w a r =
      subst (λ (m : ℕ). CallLeft m (tick now) (answer_of t (tick now))) w
      (subst (CallLeft t.keys.wanted (tick now)) (sym (tick_is now)) (tick-does t s i now).1)
  call-leaves capture mask w a r = quiet-leaves capture mask (capture_of t) w (capture-quiet t s i) (λ rest h. (refl, h))
  call-leaves capture_direct mask w a r = quiet-leaves capture_direct mask (capture_direct_of t) w (direct-quiet t s i) (λ rest h. (refl, h))
  call-leaves (raw_next wish) mask w a r = quiet-leaves (raw_next wish) mask (raw_next_of t wish) w (raw-quiet t s i wish) (λ rest h. (refl, h))
  call-leaves (set_grab_ms ms) mask w a r = quiet-leaves (set_grab_ms ms) mask (set_grab_of t ms) w (grab-quiet t s i ms) (λ rest h. (refl, h))

  -- what is promised of the call, and what goes on from it
  pub record Good (c : Call) (g : Option Gesture) (t' : Tracker) : Type 0 where
    pub together : Together t' (watch s c g)
    pub several : SeveralSilent s.touch (watch s c g).touch g
    pub down : DownAtOnce s c g
    pub excepted : ExceptedSilent s.touch (watch s c g).touch g

  pub call-good : (c : Call) → Accepted c → Good c (given (answer_of t c)) (answer_of t c).tracker
  call-good c a =
      let d = call-gives c a in
      let r = d.1 in
      let back = sym r.watched in
      record {
        together =
            subst (Together (answer_of t c).tracker) back
            (record { valid = call_kept t c i.valid; keys = r.keys; byte = r.byte; want = r.want; touch = r.touch; end = r.end });
        several = subst (λ (x : Seen). SeveralSilent s.touch x.touch (given (answer_of t c))) back r.several;
        down = r.down;
        excepted = subst (λ (x : Seen). ExceptedSilent s.touch x.touch (given (answer_of t c))) back r.excepted;
      }
