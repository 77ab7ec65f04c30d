-- The calls on a lent tracker: a refused one carries nothing and alters nothing, each contract leaves neither a second
-- thing told nor a second tracker, and a run of calls on a lent tracker is the run by value. Assumes nothing.
use Rattle.std.specs.Prelude.{None, Result}
use mathlib.Core.Path.{◌≡◌, refl, ap, ◌∙◌, subst}
use mathlib.Core.Bool.{Bool}
use mathlib.Core.List.{List, [], ◌∷◌}
use Prim.Native.Nat.{ℕ}
use Rattle.panel.specs.declared.points.Event.{Event}
use Rattle.panel.proofs.Promises.{one_answer}
use Rattle.panel.specs.declared.refusals.Refusal.{Refusal}
use Rattle.gesture.specs.Answers.{told_number, told_gesture, told_log, refusal_of, given, logged_by, told_grab, event_of, tick_of, capture_of, capture_direct_of, raw_next_of, set_grab_of, grab_of}
use Rattle.gesture.specs.Calls.{Call, answer_of}
use Rattle.gesture.specs.Runs.{run, after}
use Rattle.gesture.specs.declared.record.Tracker.{Tracker}
use Rattle.gesture.specs.declared.answers.Answer.{Answer}
use Rattle.gesture.proofs.Promises as by_value
use Rattle.gesture.specs.declared.answers.Response.{Response}
use Rattle.lent.specs.Lent.{response_of, TellsAndLeaves}
use Rattle.lent.specs.Runs.{LentRun, told_of}

-- what is told of an answer, part by part

pub told-refusal : (a : Answer) → told_number (response_of a) ≡ refusal_of a
told-refusal a = refl

pub told-gesture : (a : Answer) → told_gesture (response_of a) ≡ given a
told-gesture a = refl

pub told-log : (a : Answer) → told_log (response_of a) ≡ logged_by a
told-log a = refl

-- "A refusal carries no other value (zeros, no gesture, no log line) and alters nothing."

abbrev Unaltered : Tracker → Result Response Refusal → Tracker → Type 0
Unaltered t told left = (told_number told ≡ 0 → ⊥) → (told_gesture told ≡ None) × (told_log told ≡ None) × (left ≡ t)

carried : {t : Tracker} (a : Answer) → ((refusal_of a ≡ 0 → ⊥) → (given a ≡ None) × (logged_by a ≡ None) × (a.tracker ≡ t)) → (told : Result Response Refusal) (left : Tracker) → TellsAndLeaves a told left → Unaltered t told left
carried a by_value told left (is, stays) refused =
    let b = by_value (λ z. refused (ap told_number is ∙ told-refusal a ∙ z)) in
    (ap told_gesture is ∙ told-gesture a ∙ b.0, ap told_log is ∙ told-log a ∙ b.1, stays ∙ b.2)

module _ (t : Tracker) (told : Result Response Refusal) (left : Tracker) where
  pub event-refused : (ev : Event) (time : ℕ) → TellsAndLeaves (event_of t ev time) told left → Unaltered t told left
  event-refused ev time = carried (event_of t ev time) (by_value.event-refused t ev time) told left

  pub tick-refused : (time : ℕ) → TellsAndLeaves (tick_of t time) told left → Unaltered t told left
  tick-refused time = carried (tick_of t time) (by_value.tick-refused t time) told left

  pub capture-refused : TellsAndLeaves (capture_of t) told left → Unaltered t told left
  capture-refused = carried (capture_of t) (by_value.capture-refused t) told left

  pub capture-direct-refused : TellsAndLeaves (capture_direct_of t) told left → Unaltered t told left
  capture-direct-refused = carried (capture_direct_of t) (by_value.capture-direct-refused t) told left

  pub raw-next-refused : (on : Bool) → TellsAndLeaves (raw_next_of t on) told left → Unaltered t told left
  raw-next-refused on = carried (raw_next_of t on) (by_value.raw-next-refused t on) told left

  pub set-grab-refused : (ms : ℕ) → TellsAndLeaves (set_grab_of t ms) told left → Unaltered t told left
  set-grab-refused ms = carried (set_grab_of t ms) (by_value.set-grab-refused t ms) told left

-- `grab_ms` only looks at the tracker
pub grab-refused : (t : Tracker) (r : Result ℕ Refusal) → r ≡ grab_of t → ((told_grab r).number ≡ 0 → ⊥) → (told_grab r).value ≡ 0
grab-refused t r is refused =
    (λ i. (told_grab (is i)).value) ∙ by_value.grab-refused t (λ z. refused ((λ i. (told_grab (is i)).number) ∙ z))

-- Each contract determines what is told and the tracker that is left.

one_way : (a : Answer) {r s : Result Response Refusal} {u w : Tracker} → TellsAndLeaves a r u → TellsAndLeaves a s w → (r ≡ s) × (u ≡ w)
one_way a (told, left) (told', left') = (one_answer told told', one_answer left left')

module _ (t : Tracker) {r s : Result Response Refusal} {u w : Tracker} where
  pub event-unique : (ev : Event) (time : ℕ) → TellsAndLeaves (event_of t ev time) r u → TellsAndLeaves (event_of t ev time) s w → (r ≡ s) × (u ≡ w)
  event-unique ev time = one_way (event_of t ev time)

  pub tick-unique : (time : ℕ) → TellsAndLeaves (tick_of t time) r u → TellsAndLeaves (tick_of t time) s w → (r ≡ s) × (u ≡ w)
  tick-unique time = one_way (tick_of t time)

  pub capture-unique : TellsAndLeaves (capture_of t) r u → TellsAndLeaves (capture_of t) s w → (r ≡ s) × (u ≡ w)
  capture-unique = one_way (capture_of t)

  pub capture-direct-unique : TellsAndLeaves (capture_direct_of t) r u → TellsAndLeaves (capture_direct_of t) s w → (r ≡ s) × (u ≡ w)
  capture-direct-unique = one_way (capture_direct_of t)

  pub raw-next-unique : (on : Bool) → TellsAndLeaves (raw_next_of t on) r u → TellsAndLeaves (raw_next_of t on) s w → (r ≡ s) × (u ≡ w)
  raw-next-unique on = one_way (raw_next_of t on)

  pub set-grab-unique : (ms : ℕ) → TellsAndLeaves (set_grab_of t ms) r u → TellsAndLeaves (set_grab_of t ms) s w → (r ≡ s) × (u ≡ w)
  set-grab-unique ms = one_way (set_grab_of t ms)

pub grab-unique : (t : Tracker) {r s : Result ℕ Refusal} → r ≡ grab_of t → s ≡ grab_of t → r ≡ s
grab-unique t = one_answer

-- A run on a lent tracker is the run by value.

pub run-by-value : (cs : List Call) (t : Tracker) (tolds : List (Result Response Refusal)) (last : Tracker) → LentRun t cs tolds last → (tolds ≡ told_of t cs) × (last ≡ after t cs)
unfolding run after
run-by-value [] t tolds last ran = ran
run-by-value (c ∷ cs) t tolds last (told, left, rest, is, (tells, leaves), ran) =
    let ran' = subst (λ (u : Tracker). LentRun u cs rest last) leaves ran in
    let b = run-by-value cs (answer_of t c).tracker rest last ran' in
    (is ∙ (λ i. tells i ∷ b.0 i), b.1)
