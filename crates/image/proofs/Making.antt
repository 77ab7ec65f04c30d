-- A call on an area, from what was found there, the tracker's call and what was stored. Assumes nothing.
use Rattle.std.specs.Prelude.{Result, Ok, Err}
use Prim.Native.Nat.{ℕ}
use mathlib.Core.Path.{◌≡◌, refl, sym, ◌∙◌, ap}
use mathlib.Core.Bool.{Bool, true, false}
use mathlib.Core.List.{List}
use lib.ListN.{length}
use Rattle.panel.specs.declared.refusals.Refusal.{Refusal}
use Rattle.panel.specs.declared.refusals.Refusal.TheVariants.{State}
use Rattle.panel.proofs.Follow.{if-true, if-false, if-all, if-know}
use Rattle.panel.proofs.Laws.{and_right}
use Rattle.gesture.specs.Answers as answers
use Rattle.gesture.specs.Answers.{refused, captured, grab_of, event_of, tick_of, capture_of, capture_direct_of, raw_next_of, set_grab_of}
use Rattle.gesture.specs.Calls.{Call, report, tick, capture, capture_direct, raw_next, set_grab_ms, answer_of}
use Rattle.gesture.specs.States.{state_rule}
use Rattle.fingers.specs.declared.settings.Settings.{Settings}
use Rattle.gesture.specs.declared.answers.Answer.{Answer}
use Rattle.gesture.specs.declared.answers.Response.{Response}
use Rattle.gesture.specs.declared.record.Tracker.{Tracker}
use Rattle.image.specs.Image.{image_of}
use Rattle.image.specs.Codec.{decode_of}
use Rattle.image.specs.Numbers.{given_numbers, log_numbers, listed, numbers_of, zeros}
use Rattle.image.specs.Calls.{Left, left, finished_by, finished, on_decoded, made_on, grab_decoded, grab_on}
use Rattle.image.specs.code.Settings.{at_end, settings_at}
use Rattle.image.specs.code.Whole.{tracker_at}
use Rattle.image.specs.code.Finding.{unruled_of, left_by}
use Rattle.image.proofs.Codecs.{decode-keeps, decode-breaks, decode-fails, refused-length}

-- What a call answered.

module _ (area : List ℕ) (a : Answer) where
  pub finish-answered : (r : Response) (after out : List ℕ) → a.told ≡ Ok r → after ≡ image_of a.tracker → out ≡ listed (given_numbers r.gesture) (log_numbers r.log) → left_by (Ok out) after ≡ finished area a
  unfolding finished finished_by numbers_of
  finish-answered r after out told kept numbers =
      (λ i. left (Ok tt) (kept i) (numbers i)) ∙ ap (λ (x : Result Response Refusal). finished area (record { told = x; tracker = a.tracker })) (sym told)

  pub finish-refused : (why : Refusal) → a.told ≡ Err why → left_by (Err why) area ≡ finished area a
  unfolding finished finished_by
  finish-refused why told = ap (λ (x : Result Response Refusal). finished area (record { told = x; tracker = a.tracker })) (sym told)

-- The state rule is left to the tracker's own call, which refuses a tracker that breaks it.

broken-refused : (c : Call) (t : Tracker) → state_rule t ≡ false → answer_of t c ≡ refused State t
unfolding event_of tick_of capture_of capture_direct_of raw_next_of set_grab_of
broken-refused (report now ev) t broken = if-false _ _ _ broken
broken-refused (tick now) t broken = if-false _ _ _ broken
broken-refused capture t broken = if-false _ _ _ broken
broken-refused capture_direct t broken = if-false _ _ _ broken
broken-refused (raw_next on) t broken = if-false _ _ _ broken
broken-refused (set_grab_ms ms) t broken = if-false _ _ _ broken

state-finished : (area : List ℕ) (t : Tracker) → finished area (refused State t) ≡ left (Err State) area zeros
unfolding finished finished_by answers.refused
state-finished area t = refl

-- A call on what was found.

module _ (area : List ℕ) (c : Call) where
  by-rule : (t : Tracker) (b : Bool) → state_rule t ≡ b → Ok t ≡ unruled_of area → finished area (answer_of t c) ≡ made_on area c
  unfolding made_on on_decoded
  by-rule t true kept is = ap (λ (x : Result Tracker Refusal). on_decoded area x c) (decode-keeps area t is kept)
  by-rule t false broken is = ap (finished area) (broken-refused c t broken) ∙ state-finished area t ∙ ap (λ (x : Result Tracker Refusal). on_decoded area x c) (decode-breaks area t is broken)

  pub call-answered : (t : Tracker) (a : Answer) (l : Left) → Ok t ≡ unruled_of area → a ≡ answer_of t c → l ≡ finished area a → l ≡ made_on area c
  call-answered t a l found answer done = done ∙ ap (finished area) answer ∙ by-rule t (state_rule t) refl found

  pub call-refused : (why : Refusal) → Err why ≡ unruled_of area → left_by (Err why) area ≡ made_on area c
  unfolding made_on on_decoded
  call-refused why found = ap (λ (x : Result Tracker Refusal). on_decoded area x c) (decode-fails area why found)

  pub call-length : (length area ≡ at_end → ⊥) → left_by (Err State) area ≡ made_on area c
  unfolding made_on on_decoded
  call-length differ = ap (λ (x : Result Tracker Refusal). on_decoded area x c) (refused-length area differ)

-- The grab time, from a capture of a copy of the area: both are refused for the same areas.

module _ (area : List ℕ) where
  abbrev asked : Result Tracker Refusal → Result (Unit {0}) Refusal
  asked d = (on_decoded area d capture).told

  abbrev Alike : Result Tracker Refusal → Type 0
  Alike d = (asked d ≡ Ok tt → Ok (settings_at area).grab_ms ≡ grab_decoded d) × ((why : Refusal) → asked d ≡ Err why → Err why ≡ grab_decoded d)

  refused-alike : Alike (Err State)
  unfolding grab_decoded on_decoded
  refused-alike = ((λ e. cc), (λ why e. cc))

  captured-told : (t : Tracker) → state_rule t ≡ true → asked (Ok t) ≡ Ok tt
  unfolding on_decoded finished finished_by capture_of captured answers.answered
  captured-told t kept =
      ap (λ (a : Answer). (finished area a).told) (if-true _ _ _ kept) ∙ if-all (λ (a : Answer). (finished area a).told ≡ Ok tt) _ refl refl

  answered-alike : state_rule (tracker_at area) ≡ true → Alike (Ok (tracker_at area))
  unfolding grab_decoded grab_of tracker_at
  answered-alike kept =
      let told = captured-told (tracker_at area) kept in
      ((λ e. sym (if-true _ _ _ kept)), (λ why e. cc))

  alike : Alike (decode_of area)
  unfolding decode_of
  alike = if-know Alike _ (Ok (tracker_at area)) (Err State) (λ yes. answered-alike (and_right _ _ yes)) (λ other. refused-alike)

  pub grab-length : (length area ≡ at_end → ⊥) → Err State ≡ grab_on area
  unfolding grab_on grab_decoded
  grab-length differ = ap grab_decoded (refused-length area differ)

  module _ (held after out : List ℕ) (r : Result (Unit {0}) Refusal) (copy : held ≡ area) (made : left r after out ≡ made_on held capture) where
    same_told : r ≡ asked (decode_of area)
    unfolding made_on
    same_told = ap (λ (l : Left). l.told) (made ∙ (λ i. made_on (copy i) capture))

    pub grab-answered : (s : Settings) → s ≡ settings_at area → r ≡ Ok tt → Ok s.grab_ms ≡ grab_on area
    unfolding grab_on
    grab-answered s is ok = ap (λ (x : Settings). Ok x.grab_ms) is ∙ (alike).0 (sym same_told ∙ ok)

    pub grab-refused : (why : Refusal) → r ≡ Err why → Err why ≡ grab_on area
    unfolding grab_on
    grab-refused why err = (alike).1 why (sym same_told ∙ err)
