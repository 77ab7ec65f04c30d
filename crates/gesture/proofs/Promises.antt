-- The public calls in document 01's numbers: what each tells for every input, that a refused call carries nothing and
-- alters nothing, and that its contract leaves no second answer. Assumes nothing.
use Rattle.std.specs.Prelude.{Option, Some, None, Result, Ok, Err}
use mathlib.Core.Path.{◌≡◌, refl, sym, ap, ◌∙◌}
use mathlib.Core.Bool.{Bool, true, false}
use Prim.Native.Nat.{ℕ}
use Rattle.panel.specs.Tests as tests
use Rattle.panel.specs.Tests.{when◌then◌else◌, ◌=?◌}
use Rattle.panel.specs.Points.{all_on_panel}
use Rattle.panel.specs.Refusals.{number_of}
use Rattle.panel.specs.Refusals as numbers
use Rattle.panel.specs.declared.points.Event.{Event}
use Rattle.panel.specs.declared.refusals.Refusal.{Refusal}
use Rattle.panel.specs.declared.refusals.Refusal.TheVariants.{State, Panel, Wide, Long, Target, Few, Huge, Version, Cut, Form, Big, Kind, File, Room, Line, Steep}
use Rattle.panel.proofs.Promises.{one_answer}
use Rattle.panel.proofs.Follow.{if-of, if-true, if-all}
use Rattle.gesture.specs.Trackers.{fresh_tracker}
use Rattle.gesture.specs.States.{state_rule}
use Rattle.gesture.specs.Reports.{report_step}
use Rattle.gesture.specs.Ticks.{tick_step}
use Rattle.gesture.specs.Lines.{is_locked, report_line, tick_line, capture_line}
use Rattle.gesture.specs.Captures.{takes, taken, wished, after_capture_direct, after_set_grab}
use Rattle.gesture.specs.Answers.{refused, answered, refusal_of, given, logged_by, Told, told_answer, told_grab, given_by, points_in_use, reported, ticked, captured, event_of, tick_of, capture_of, capture_direct_of, raw_next_of, set_grab_of, grab_of}
use Rattle.gesture.specs.Calls.{Call, report, tick, capture, capture_direct, raw_next, set_grab_ms, answer_of, call_of}
use Rattle.gesture.specs.declared.record.Tracker.{Tracker}
use Rattle.gesture.specs.declared.making.Call as value
use Rattle.gesture.specs.declared.answers.Answer.{Answer}
use Rattle.gesture.specs.declared.answers.Response.{Response}
use Rattle.gesture.specs.declared.lines.Line as lines
use Rattle.fingers.specs.declared.gestures.Gesture.{Gesture}

-- What each call tells: 1 for a tracker that breaks the state rule, then 2 for a report with a point in use off the panel,
-- else 0.

abbrev tells : ℕ → Option Gesture → Option lines.Line → Tracker → Told
tells number gesture log t = record { number = number; gesture = gesture; log = log; tracker = t }

abbrev grab-tells-by : ℕ → ℕ → numbers.Told ℕ
grab-tells-by number ms = record { number = number; value = ms }

-- What is told determines the answer: no two refusals have one number, and none has 0.

abbrev refusal_at : ℕ → Option Refusal
refusal_at n =
    when n =? 1 then Some State else
    when n =? 2 then Some Panel else
    when n =? 3 then Some Wide else
    when n =? 4 then Some Long else
    when n =? 5 then Some Target else
    when n =? 6 then Some Few else
    when n =? 7 then Some Huge else
    when n =? 8 then Some Version else
    when n =? 9 then Some Cut else
    when n =? 10 then Some Form else
    when n =? 11 then Some Big else
    when n =? 12 then Some Kind else
    when n =? 13 then Some File else
    when n =? 14 then Some Room else
    when n =? 16 then Some Line else
    when n =? 17 then Some Steep else
    None

abbrev told_from : Option Refusal → Option Gesture → Option lines.Line → Result Response Refusal
told_from None gesture log = Ok (record { gesture = gesture; log = log })
told_from (Some why) gesture log = Err why

abbrev answer_from : Told → Answer
answer_from x = record { told = told_from (refusal_at x.number) x.gesture x.log; tracker = x.tracker }

from-told : (told : Result Response Refusal) (t : Tracker) → answer_from (told_answer (record { told = told; tracker = t })) ≡ record { told = told; tracker = t }
unfolding tests.when◌then◌else◌
from-told (Ok r) t = refl
from-told (Err State) t = refl
from-told (Err Panel) t = refl
from-told (Err Wide) t = refl
from-told (Err Long) t = refl
from-told (Err Target) t = refl
from-told (Err Few) t = refl
from-told (Err Huge) t = refl
from-told (Err Version) t = refl
from-told (Err Cut) t = refl
from-told (Err Form) t = refl
from-told (Err Big) t = refl
from-told (Err Kind) t = refl
from-told (Err File) t = refl
from-told (Err Room) t = refl
from-told (Err Line) t = refl
from-told (Err Steep) t = refl

pub told-determines : (a b : Answer) → told_answer a ≡ told_answer b → a ≡ b
told-determines a b e = sym (from-told a.told a.tracker) ∙ ap answer_from e ∙ from-told b.told b.tracker

module _ (t : Tracker) where
  pub event-tells : (ev : Event) (now : ℕ) → told_answer (event_of t ev now) ≡ when◌then◌else◌ (state_rule t) (when◌then◌else◌ (all_on_panel (points_in_use ev)) (tells 0 (given_by (report_step t ev now).out) (report_line (report_step t ev now).out (is_locked t.one.axis) now) (report_step t ev now).tracker) (tells 2 None None t)) (tells 1 None None t)
  unfolding event_of reported answered refused
  event-tells ev now = if-of told_answer _ _ _ ∙ ap (λ (x : Told). when◌then◌else◌ (state_rule t) x (tells 1 None None t)) (if-of told_answer _ _ _)

  pub tick-tells : (now : ℕ) → told_answer (tick_of t now) ≡ when◌then◌else◌ (state_rule t) (tells 0 (given_by (tick_step t now).out) (tick_line (tick_step t now).out now) (tick_step t now).tracker) (tells 1 None None t)
  unfolding tick_of ticked answered refused
  tick-tells now = if-of told_answer _ _ _

  pub capture-tells : told_answer (capture_of t) ≡ when◌then◌else◌ (state_rule t) (when◌then◌else◌ (takes t) (tells 0 None (capture_line t.settings.raw_next t.one.last) (taken t)) (tells 0 None None (wished t false))) (tells 1 None None t)
  unfolding capture_of captured answered refused
  capture-tells = if-of told_answer _ _ _ ∙ ap (λ (x : Told). when◌then◌else◌ (state_rule t) x (tells 1 None None t)) (if-of told_answer _ _ _)

  pub capture-direct-tells : told_answer (capture_direct_of t) ≡ when◌then◌else◌ (state_rule t) (tells 0 None None (after_capture_direct t)) (tells 1 None None t)
  unfolding capture_direct_of answered refused
  capture-direct-tells = if-of told_answer _ _ _

  pub raw-next-tells : (on : Bool) → told_answer (raw_next_of t on) ≡ when◌then◌else◌ (state_rule t) (tells 0 None None (wished t on)) (tells 1 None None t)
  unfolding raw_next_of answered refused
  raw-next-tells on = if-of told_answer _ _ _

  pub set-grab-tells : (ms : ℕ) → told_answer (set_grab_of t ms) ≡ when◌then◌else◌ (state_rule t) (tells 0 None None (after_set_grab t ms)) (tells 1 None None t)
  unfolding set_grab_of answered refused
  set-grab-tells ms = if-of told_answer _ _ _

  pub grab-tells : told_grab (grab_of t) ≡ when◌then◌else◌ (state_rule t) (grab-tells-by 0 t.settings.grab_ms) (grab-tells-by 1 0)
  unfolding grab_of
  grab-tells = if-of told_grab _ _ _

  -- "A refusal carries no other value (zeros, no gesture, no log line) and alters nothing."

  abbrev Unaltered : Answer → Type 0
  Unaltered a = (refusal_of a ≡ 0 → ⊥) → (given a ≡ None) × (logged_by a ≡ None) × (a.tracker ≡ t)

  pub event-refused : (ev : Event) (now : ℕ) → Unaltered (event_of t ev now)
  unfolding event_of reported answered refused
  event-refused ev now =
      if-all Unaltered _ (if-all Unaltered _ (λ n. absurd (n refl)) (λ n. (refl, refl, refl))) (λ n. (refl, refl, refl))

  pub tick-refused : (now : ℕ) → Unaltered (tick_of t now)
  unfolding tick_of ticked answered refused
  tick-refused now = if-all Unaltered _ (λ n. absurd (n refl)) (λ n. (refl, refl, refl))

  pub capture-refused : Unaltered (capture_of t)
  unfolding capture_of captured answered refused
  capture-refused =
      if-all Unaltered _ (if-all Unaltered _ (λ n. absurd (n refl)) (λ n. absurd (n refl))) (λ n. (refl, refl, refl))

  pub capture-direct-refused : Unaltered (capture_direct_of t)
  unfolding capture_direct_of answered refused
  capture-direct-refused = if-all Unaltered _ (λ n. absurd (n refl)) (λ n. (refl, refl, refl))

  pub raw-next-refused : (on : Bool) → Unaltered (raw_next_of t on)
  unfolding raw_next_of answered refused
  raw-next-refused on = if-all Unaltered _ (λ n. absurd (n refl)) (λ n. (refl, refl, refl))

  pub set-grab-refused : (ms : ℕ) → Unaltered (set_grab_of t ms)
  unfolding set_grab_of answered refused
  set-grab-refused ms = if-all Unaltered _ (λ n. absurd (n refl)) (λ n. (refl, refl, refl))

  abbrev UnalteredGrab : Result ℕ Refusal → Type 0
  UnalteredGrab r = ((told_grab r).number ≡ 0 → ⊥) → (told_grab r).value ≡ 0

  pub grab-refused : UnalteredGrab (grab_of t)
  unfolding grab_of
  grab-refused = if-all UnalteredGrab _ (λ n. absurd (n refl)) (λ n. refl)

-- The number of any call of a run: on a tracker that keeps the state rule only a report is ever refused, with 2, for a point
-- in use off the panel.

abbrev pub number_in : Call → ℕ
number_in (report now ev) = when◌then◌else◌ (all_on_panel (points_in_use ev)) 0 2
number_in (tick now) = 0
number_in capture = 0
number_in capture_direct = 0
number_in (raw_next on) = 0
number_in (set_grab_ms ms) = 0

abbrev number : Told → ℕ
number x = x.number

pub call-tells : (t : Tracker) (c : Call) → state_rule t ≡ true → refusal_of (answer_of t c) ≡ number_in c
call-tells t (report now ev) h = ap number (event-tells t ev now ∙ if-true _ _ _ h) ∙ if-of number _ _ _
call-tells t (tick now) h = ap number (tick-tells t now ∙ if-true _ _ _ h)
call-tells t capture h = ap number (capture-tells t ∙ if-true _ _ _ h) ∙ if-all (λ (x : Told). x.number ≡ 0) _ refl refl
call-tells t capture_direct h = ap number (capture-direct-tells t ∙ if-true _ _ _ h)
call-tells t (raw_next on) h = ap number (raw-next-tells t on ∙ if-true _ _ _ h)
call-tells t (set_grab_ms ms) h = ap number (set-grab-tells t ms ∙ if-true _ _ _ h)

-- Each contract determines the whole answer: gesture, log line, tracker and number.

module _ (t : Tracker) {r s : Answer} where
  pub event-unique : (ev : Event) (now : ℕ) → r ≡ event_of t ev now → s ≡ event_of t ev now → r ≡ s
  event-unique ev now = one_answer

  pub tick-unique : (now : ℕ) → r ≡ tick_of t now → s ≡ tick_of t now → r ≡ s
  tick-unique now = one_answer

  pub capture-unique : r ≡ capture_of t → s ≡ capture_of t → r ≡ s
  capture-unique = one_answer

  pub capture-direct-unique : r ≡ capture_direct_of t → s ≡ capture_direct_of t → r ≡ s
  capture-direct-unique = one_answer

  pub raw-next-unique : (on : Bool) → r ≡ raw_next_of t on → s ≡ raw_next_of t on → r ≡ s
  raw-next-unique on = one_answer

  pub set-grab-unique : (ms : ℕ) → r ≡ set_grab_of t ms → s ≡ set_grab_of t ms → r ≡ s
  set-grab-unique ms = one_answer

pub grab-unique : (t : Tracker) {r s : Result ℕ Refusal} → r ≡ grab_of t → s ≡ grab_of t → r ≡ s
grab-unique t = one_answer

pub state-unique : (t : Tracker) {r s : Bool} → r ≡ state_rule t → s ≡ state_rule t → r ≡ s
state-unique t = one_answer

pub fresh-unique : {r s : Tracker} → r ≡ fresh_tracker → s ≡ fresh_tracker → r ≡ s
fresh-unique = one_answer

pub make-unique : (t : Tracker) (c : value.Call) {r s : Answer} → r ≡ answer_of t (call_of c) → s ≡ answer_of t (call_of c) → r ≡ s
make-unique t c = one_answer
