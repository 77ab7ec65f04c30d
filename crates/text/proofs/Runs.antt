-- The loop over a trace's records: what is written so far, and what the records that are left still print. And the room
-- that a text takes. Assumes nothing.
use Rattle.std.specs.Prelude.{Result, Ok, Err}
use Prim.Native.Nat.{ℕ, suc, ◌+◌, ◌-◌, ◌*◌, ◌/◌, ◌≤◌, ◌<◌}
use mathlib.Core.List.{List, [], ◌++◌, append_assoc}
use mathlib.Core.Path.{◌≡◌, refl, sym, ap, ◌∙◌}
use native.Mathlib.Numerals.{add-one}
use native.Mathlib.Omega.{arith}
use lib.ListN.{length, drop}
use lib.Seq.{length-sets, sets-eq}
use borrow.Author.Tests.{le-leb, lt-leb, lt-ltb}
use Rattle.gesture.specs.Calls.{Call, answer_of, call_of}
use Rattle.gesture.specs.Runs.{run}
use Rattle.gesture.specs.Trackers.{fresh_tracker}
use Rattle.gesture.specs.declared.answers.Answer.{Answer}
use Rattle.gesture.specs.declared.record.Tracker.{Tracker}
use Rattle.gesture.specs.declared.making.Call as value
use Rattle.numbers.specs.Numbers.{told_place}
use Rattle.numbers.specs.declared.reading.Stop.{Stop}
use Rattle.panel.proofs.Follow.{if-true, if-false}
use Rattle.panel.specs.Refusals.{number_of}
use Rattle.panel.specs.declared.refusals.Refusal.{Refusal}
use Rattle.panel.specs.declared.refusals.Refusal.TheVariants.{Room}
use Rattle.text.specs.Played.{room_for, played_of, left_of}
use Rattle.text.specs.Sizes.{line_most}
use Rattle.text.specs.Texts.{answer_line, lines_from, stop_line, end_line, last_line, printed, text_of}
use Rattle.text.specs.code.Written.{Written}
use Rattle.text.proofs.Digits.{by-lt}
use Rattle.text.proofs.Lined.{Lined}
use Rattle.text.proofs.Writing.{written_none, written_then, written_as}
use Rattle.trace.proofs.Promises.{file-tells}
use Rattle.trace.specs.Records.{record_at}
use Rattle.trace.specs.Sizes.{most_bytes}
use Rattle.trace.specs.Traces.{ends, Traced, followed, stopped_at, and_on, records_from, head_of, trace_in}

-- What a trace prints on a tracker that is i records in.

unfoldable pub printed_from : Tracker → ℕ → Traced → List ℕ
printed_from t i traced = lines_from (suc i) (run t traced.calls) ++ last_line (i + length traced.calls) traced.ending

none_left : Traced
none_left = record { calls = []; ending = ends }

from-fresh : (traced : Traced) → printed_from fresh_tracker 0 traced ≡ printed traced
unfolding printed_from printed
from-fresh traced =
    let e : 0 + length traced.calls ≡ length traced.calls = omega arith in
    ap (λ (n : ℕ). lines_from 1 (run fresh_tracker traced.calls) ++ last_line n traced.ending) e

from_end : (t : Tracker) (i : ℕ) → printed_from t i none_left ≡ end_line i
unfolding printed_from lines_from run last_line none_left
from_end t i = let e : i + 0 ≡ i = omega arith in ap end_line e

from-stop : (t : Tracker) (i : ℕ) (why : Refusal) (o : ℕ) → printed_from t i (stopped_at why o) ≡ stop_line (number_of why) o
unfolding printed_from lines_from run last_line
from-stop t i why o = refl

from-call : (t : Tracker) (i : ℕ) (c : Call) (traced : Traced) →
    answer_line (suc i) (answer_of t c).told ++ printed_from (answer_of t c).tracker (suc i) traced ≡ printed_from t i (followed c traced)
unfolding printed_from lines_from run
from-call t i c traced =
    let a : Answer = answer_of t c in
    let line : List ℕ = answer_line (suc i) (answer_of t c).told in
    let more : List ℕ = lines_from (suc (suc i)) (run (answer_of t c).tracker traced.calls) in
    let e : suc i + length traced.calls ≡ i + suc (length traced.calls) = omega arith in
    sym (append_assoc line more (last_line (suc i + length traced.calls) traced.ending))
    ∙ ap (λ (n : ℕ). (line ++ more) ++ last_line n traced.ending) e

-- The records that are left: none, a refused one, a call and those after it.

module _ (s : List ℕ) (at : ℕ) where
  records-none : records_from 0 s at ≡ none_left
  unfolding records_from none_left
  records-none = refl

  records-past : (k : ℕ) → length s ≤ at → records_from (suc k) s at ≡ none_left
  unfolding records_from none_left
  records-past k h = if-true _ _ _ (le-leb (length s) at h)

  records-on : (k : ℕ) (r : Result (value.Call × ℕ) Stop) → at < length s → r ≡ record_at s at → records_from (suc k) s at ≡ and_on (λ next. records_from k s next) r
  unfolding records_from
  records-on k r h e = rw e (if-false _ _ _ (lt-leb (length s) at h))

-- The invariant: what is written, and with what is still to come the whole; the room that is left; the records counted.

pub record Going (s l₀ whole l : List ℕ) (t : Tracker) (at to i left : ℕ) : Type 0 where
  pub done : List ℕ
  pub written : Written l₀ 0 done to l
  pub still : done ++ printed_from t i (records_from left s at) ≡ whole
  pub long : length l ≡ length l₀
  pub room : to + line_most * suc left ≤ length l
  pub count : i + left ≡ length s

pub going-from : (s l : List ℕ) (from : ℕ) (t : Tracker) → t ≡ fresh_tracker → room_for s ≤ length l → Going s l (printed (records_from (length s) s from)) l t from 0 0 (length s - 0)
going-from s l from t e h =
    let all : length s - 0 ≡ length s = omega arith in
    rw (all, e)
    (record {
      done = [];
      written = written_none l 0;
      still = from-fresh (records_from (length s) s from);
      long = refl;
      room = omega arith;
      count = omega arith;
    })

-- the whole is written, in the room
abbrev pub Finished : List ℕ → List ℕ → ℕ → List ℕ → Type 0
Finished l₀ whole r l = Written l₀ 0 whole r l × (r ≤ length l₀)

module _ (s l₀ whole l : List ℕ) (t : Tracker) (at to i left : ℕ) (g : Going s l₀ whole l t at to i left) where
  finish : (bytes : List ℕ) (r : ℕ) (l' : List ℕ) → printed_from t i (records_from left s at) ≡ bytes → Lined l to bytes r l' → Finished l₀ whole r l'
  finish bytes r l' e p =
      (written_as (ap (λ (x : List ℕ). g.done ++ x) (sym e) ∙ g.still) (written_then g.written p.0), omega (arith, p.1, g.room, g.long))

  pub going-past : (r : ℕ) (l' : List ℕ) → 0 < left → length s ≤ at → Lined l to (end_line i) r l' → Finished l₀ whole r l'
  going-past r l' h past p =
      let e : left ≡ suc (left - 1) = omega arith in
      finish (end_line i) r l' (ap (λ (k : ℕ). printed_from t i (records_from k s at)) e ∙ ap (printed_from t i) (records-past s at (left - 1) past) ∙ from_end t i) p

  pub going_end : (n r : ℕ) (l' : List ℕ) → left ≡ 0 → i ≡ n → Lined l to (end_line n) r l' → Finished l₀ whole r l'
  going_end n r l' e f p =
      finish (end_line n) r l' (ap (λ (k : ℕ). printed_from t i (records_from k s at)) e ∙ ap (printed_from t i) (records-none s at) ∙ from_end t i ∙ ap end_line f) p

  module _ (r : Result (value.Call × ℕ) Stop) (rest : ℕ) (one_more : left ≡ suc rest) (within : at < length s) (read : r ≡ record_at s at) where
    -- what the records that are left print, from what was read of the first
    on_from : printed_from t i (records_from left s at) ≡ printed_from t i (and_on (λ n. records_from rest s n) r)
    on_from =
        ap (λ (k : ℕ). printed_from t i (records_from k s at)) one_more
        ∙ ap (printed_from t i) (records-on s at rest r within read)

    pub going-stop : (stop : Stop) (e : ℕ) (l' : List ℕ) → r ≡ Err stop → Lined l to (stop_line (number_of stop.why) stop.at) e l' → Finished l₀ whole e l'
    going-stop stop e l' f p =
        finish (stop_line (number_of stop.why) stop.at) e l' (on_from ∙ ap (λ (x : Result (value.Call × ℕ) Stop). printed_from t i (and_on (λ n. records_from rest s n) x)) f ∙ from-stop t i stop.why stop.at) p

    pub going_on : (call : value.Call) (next : ℕ) (a : Answer) (e : ℕ) (l' : List ℕ) → r ≡ Ok (call, next) → a ≡ answer_of t (call_of call) → Lined l to (answer_line (i + 1) a.told) e l' → Going s l₀ whole l' a.tracker next e (i + 1) rest
    going_on call next a e l' f answer p =
        let step : answer_line (suc i) a.told ++ printed_from a.tracker (suc i) (records_from rest s next) ≡ printed_from t i (records_from left s at) =
        ap (λ (b : Answer). answer_line (suc i) b.told ++ printed_from b.tracker (suc i) (records_from rest s next)) answer
        ∙ from-call t i (call_of call) (records_from rest s next)
        ∙ ap (λ (x : Result (value.Call × ℕ) Stop). printed_from t i (and_on (λ n. records_from rest s n) x)) (sym f)
        ∙ sym on_from in
        let same : length l' ≡ length l = ap length p.0.left ∙ length-sets l to (answer_line (i + 1) a.told) in
        record {
          done = g.done ++ answer_line (i + 1) a.told;
          written = written_then g.written p.0;
          still =
              append_assoc g.done (answer_line (i + 1) a.told) (printed_from a.tracker (i + 1) (records_from rest s next))
              ∙ ap (λ (n : ℕ). g.done ++ (answer_line n a.told ++ printed_from a.tracker n (records_from rest s next))) (add-one i)
              ∙ ap (λ (x : List ℕ). g.done ++ x) step
              ∙ g.still;
          long = same ∙ g.long;
          room = omega (arith, p.1, g.room, same);
          count = omega (arith, g.count);
        }

-- The whole call: where the records begin, and the room.

pub text-from : (s : List ℕ) (at : ℕ) → head_of s ≡ Ok at → printed (records_from (length s) s at) ≡ text_of s
unfolding text_of trace_in
text-from s at e = rw e

pub text-stopped : (s : List ℕ) (stop : Stop) → head_of s ≡ Err stop → stop_line (number_of stop.why) stop.at ≡ text_of s
unfolding text_of trace_in printed lines_from run last_line
text-stopped s stop e = rw e

module _ (s l : List ℕ) where
  pub no_room : length l / line_most ≤ length s → (Err Room ≡ played_of s l) × (l ≡ left_of s l)
  unfolding played_of left_of
  no_room h =
      let short : length l < room_for s = omega arith in
      let no-fit = lt-leb (room_for s) (length l) short in
      (sym (if-false _ _ _ no-fit), sym (if-false _ _ _ no-fit))

  pub wrote : (r : ℕ) (l' : List ℕ) → length s < length l / line_most → Finished l (text_of s) r l' → (Ok r ≡ played_of s l) × (l' ≡ left_of s l)
  unfolding played_of left_of
  wrote r l' h p =
      let enough : room_for s ≤ length l = omega arith in
      let fit = le-leb (room_for s) (length l) enough in
      let size : r ≡ length (text_of s) = omega (arith, p.0.ends) in
      let n : 0 + length (text_of s) ≡ length (text_of s) = omega arith in (
        ap Ok size ∙ sym (if-true _ _ _ fit),
        p.0.left
            ∙ sets-eq (text_of s) l 0 (omega (arith, p.1))
            ∙ ap (λ (k : ℕ). text_of s ++ drop k l) n
            ∙ sym (if-true _ _ _ fit),
      )

  pub played-records : (at r : ℕ) (l' : List ℕ) → head_of s ≡ Ok at → length s < length l / line_most → Finished l (printed (records_from (length s) s at)) r l' → (Ok r ≡ played_of s l) × (l' ≡ left_of s l)
  played-records at r l' e h p = wrote r l' h (written_as (text-from s at e) p.0, p.1)

  pub played-stop : (stop : Stop) (r : ℕ) (l' : List ℕ) → head_of s ≡ Err stop → length s < length l / line_most → Lined l 0 (stop_line (number_of stop.why) stop.at) r l' → (Ok r ≡ played_of s l) × (l' ≡ left_of s l)
  played-stop stop r l' e h p = wrote r l' h (written_as (text-stopped s stop e) p.0, omega (arith, p.1))

-- a trace whose records are read is not too long
pub head-short : (s : List ℕ) (at : ℕ) → head_of s ≡ Ok at → length s ≤ most_bytes
head-short s at e = by-lt most_bytes (length s) (λ h. absurd (long h)) (λ h. h)
  where
    long : most_bytes < length s → ⊥
    long h =
        let z : ◌≡◌ {A = ℕ} 13 0 = ap (λ t. t.number) (sym (file-tells s (lt-ltb most_bytes (length s) h)) ∙ ap told_place e) in
        omega arith
