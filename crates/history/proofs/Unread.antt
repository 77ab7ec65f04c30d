-- A report answered by a key change is spent: its fingers and its time are not read, and what is heard after it is the
-- same with others. Assumes nothing.
use Rattle.std.specs.Prelude.{Option, Some}
use Prim.Native.Nat.{ℕ}
use mathlib.Core.Path.{◌≡◌, sym, ap, subst, ◌∙◌}
use mathlib.Core.Bool.{true, true≢false}
use mathlib.Core.List.{List, [], ◌∷◌, ◌++◌, tail}
use Rattle.fingers.specs.Gestures.{is_key_change}
use Rattle.fingers.specs.Keys.{key_step}
use Rattle.fingers.specs.declared.gestures.Gesture.{Gesture}
use Rattle.fingers.specs.declared.gestures.Outcome.TheVariants.{Gives}
use Rattle.gesture.specs.Answers.{given, answered, given_by, reported}
use Rattle.gesture.specs.Runs.{run}
use Rattle.gesture.specs.Calls.{Call, report, answer_of}
use Rattle.gesture.specs.Reports.{fingers_of, keys_then_fingers, report_step}
use Rattle.gesture.specs.Trackers.{fresh_tracker, whole, keys_at, keyed, step}
use Rattle.gesture.specs.declared.answers.Answer.{Answer}
use Rattle.gesture.specs.declared.record.Step.{Step}
use Rattle.gesture.specs.declared.record.Tracker.{Tracker}
use Rattle.panel.specs.declared.points.Event.{Event}
use Rattle.history.specs.Gestures.{tells_key}
use Rattle.history.specs.Keys.{changes, told_by}
use Rattle.history.specs.Runs.{sayings, history, Accepted, AllAccepted}
use Rattle.history.specs.Spent.{heard, Spent}
use Rattle.history.specs.Touches.{Seen, start, watch}
use Rattle.history.proofs.Calls.{Together, event-is, call-good}
use Rattle.history.proofs.Demanded.{fresh-together}
use Rattle.history.proofs.KeyLaw.{KeyStep, KeyIs, key-law}
use Rattle.history.proofs.Moves.{fingers-moved}

module _ (t : Tracker) (s : Seen) (i : Together t s) (now now' : ℕ) (ev ev' : Event) (same : ev.keys ≡ ev'.keys) where
  abbrev Spends : Step → Type 0
  Spends st = tells_key (given_by st.out) ≡ true → st ≡ report_step t ev' now'

  -- the fingers are read: no key change answers
  read : Spends (fingers_of (keyed t (keys_at t.keys.told ev.keys)) ev now)
  unfolding keyed whole
  read h = absurd (true≢false (sym h ∙ (fingers-moved (keyed t (keys_at t.keys.told ev.keys)) s ev now i.touch i.end).no_key))

  -- a key change answers: the same one to the other report
  unread : (g : Gesture) → key_step t.keys.told ev.keys ≡ Some (g, told_by t.keys.told g) → Spends (step (Gives g) (keyed t (keys_at (told_by t.keys.told g) ev.keys)))
  unfolding report_step keys_then_fingers
  unread g k h =
      let k' : key_step t.keys.told ev'.keys ≡ Some (g, told_by t.keys.told g) = ap (key_step t.keys.told) (sym same) ∙ k in
      ap (λ (m : ℕ). step (Gives g) (keyed t (keys_at (told_by t.keys.told g) m))) same ∙ ap (λ (x : KeyStep). keys_then_fingers x t ev' now') (sym k')

  spent-step : (l : List Gesture) → KeyIs t.keys.told ev.keys l (key_step t.keys.told ev.keys) → Spends (report_step t ev now)
  unfolding report_step keys_then_fingers
  spent-step [] k = subst (λ (x : KeyStep). Spends (keys_then_fingers x t ev now)) (sym k) read
  spent-step (g ∷ gs) k = subst (λ (x : KeyStep). Spends (keys_then_fingers x t ev now)) (sym k.is) (unread g k.is)

  -- what is heard at the report and after it, from its answer on
  heard-after : List Call → Answer → List (Option Gesture)
  heard-after ds a = given a ∷ heard (sayings a.tracker ds)

  spent-call : (ds : List Call) → Accepted (report now ev) → Accepted (report now' ev') → tells_key (given (answer_of t (report now ev))) ≡ true →
      heard-after ds (answer_of t (report now ev)) ≡ heard-after ds (answer_of t (report now' ev'))
  unfolding heard-after reported answered
  spent-call ds a a' h =
      let p = event-is t s i ev now a.0 in
      let p' = event-is t s i ev' now' a'.0 in
      let e : report_step t ev now ≡ report_step t ev' now' =
      spent-step (changes t.keys.told ev.keys) (key-law t.keys.told ev.keys i.byte a.1) (ap (λ (x : Answer). tells_key (given x)) (sym p) ∙ h) in
      ap (heard-after ds) p ∙ ap (λ (st : Step). given_by st.out ∷ heard (sayings st.tracker ds)) e ∙ ap (heard-after ds) (sym p')

spent-run : (cs ds : List Call) (t : Tracker) (s : Seen) (now now' : ℕ) (ev ev' : Event) (g : Gesture) → Together t s → AllAccepted cs → Accepted (report now ev) → Accepted (report now' ev') →
    ev.keys ≡ ev'.keys → is_key_change g ≡ true → heard (sayings t (cs ++ (report now ev ∷ []))) ≡ heard (sayings t cs) ++ (Some g ∷ []) →
    heard (sayings t (cs ++ (report now ev ∷ ds))) ≡ heard (sayings t (cs ++ (report now' ev' ∷ ds)))
unfolding run heard heard-after
spent-run [] ds t s now now' ev ev' g i al a a' e k h =
    let f : given (answer_of t (report now ev)) ≡ Some g = cc in
    spent-call t s i now now' ev ev' e ds a a' (ap tells_key f ∙ k)
spent-run (c ∷ cs) ds t s now now' ev ev' g i al a a' e k h =
    let u = answer_of t c in
    ap (λ (l : List (Option Gesture)). given u ∷ l)
    (spent-run cs ds u.tracker (watch s c (given u)) now now' ev ev' g (call-good t s i c al.0).together al.1 a a' e k (ap tail h))

-- "A report answered by a key change is spent: its fingers count for nothing."
pub spent-fingers : Spent
unfolding Spent history
spent-fingers cs ds now now' ev ev' g al a a' e k h = spent-run cs ds fresh_tracker start now now' ev ev' g fresh-together al a a' e k h
