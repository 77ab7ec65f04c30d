-- The text in document 01's numbers: what `play` tells for every trace and every room, that it alters nothing where it
-- refuses and no other byte where it writes, which reports are refused and with what number, and that a contract leaves
-- no second answer. Assumes nothing.
use Rattle.std.specs.Prelude.{Result, Ok, Err}
use Prim.Native.Nat.{ℕ, ◌+◌, ◌*◌, ◌≤◌}
use mathlib.Core.Bool.{true, false}
use mathlib.Core.List.{List, [], ◌∷◌, ◌++◌, map}
use mathlib.Core.Path.{◌≡◌, refl, sym, ap, ◌∙◌}
use native.Mathlib.Omega.{arith}
use lib.ListN.{length, take, drop, length-append}
use lib.Seq.{length-take-le}
use Rattle.fingers.specs.declared.gestures.Gesture.{Gesture}
use Rattle.gesture.proofs.Keeps.{fresh_kept, call_kept}
use Rattle.gesture.proofs.Promises.{number_in, call-tells}
use Rattle.gesture.specs.Answers.{refusal_of}
use Rattle.gesture.specs.Calls.{Call, answer_of}
use Rattle.gesture.specs.States.{state_rule}
use Rattle.gesture.specs.Runs.{Made, run}
use Rattle.gesture.specs.Trackers.{fresh_tracker}
use Rattle.gesture.specs.declared.record.Tracker.{Tracker}
use Rattle.panel.proofs.Follow.{if-of, if-true, if-two}
use Rattle.panel.proofs.Promises.{one_answer}
use Rattle.panel.specs.Refusals.{Told}
use Rattle.panel.specs.Tests.{when◌then◌else◌, ◌≤?◌}
use Rattle.panel.specs.declared.refusals.Refusal.TheVariants.{Room}
use Rattle.text.specs.Gestures.{gesture_text_of}
use Rattle.text.specs.Sizes.{line_most}
use Rattle.trace.specs.Sizes.{most_bytes}
use Rattle.text.specs.Played.{room_for, played_of, left_of, told_played}
use Rattle.text.specs.Texts.{lines_from, last_line, printed, text_of}
use Rattle.text.specs.declared.gestures.GestureText.{GestureText}
use Rattle.trace.specs.Traces.{trace_in}
use Rattle.panel.specs.declared.refusals.Refusal.{Refusal}

abbrev tells : {A : Type 0} → ℕ → A → Told A
tells n a = record { number = n; value = a }

-- ROOM, 14, exactly where less room is lent than the trace may take. Where it is told nothing is altered; else the text
-- stands at the start, and behind it what was there.
module _ (bytes room : List ℕ) where
  pub play-tells : told_played (played_of bytes room) ≡ when◌then◌else◌ (room_for bytes ≤? length room) (tells 0 (length (text_of bytes))) (tells 14 0)
  unfolding played_of
  play-tells = if-of told_played _ _ _

  pub no_room : room_for bytes ≤? length room ≡ false → (told_played (played_of bytes room) ≡ tells 14 0) × (left_of bytes room ≡ room)
  unfolding played_of left_of when◌then◌else◌
  no_room h = (simp h, simp h)

  pub no-other-byte : room_for bytes ≤? length room ≡ true → left_of bytes room ≡ text_of bytes ++ drop (length (text_of bytes)) room
  unfolding left_of
  no-other-byte h = if-true _ _ _ h

  within : (k : ℕ) → Ok k ≡ played_of bytes room → k ≤ length (left_of bytes room)
  unfolding played_of left_of
  within k =
      if-two (λ (p : Result ℕ Refusal) (l : List ℕ). Ok k ≡ p → k ≤ length l) (room_for bytes ≤? length room) (Ok (length (text_of bytes))) (Err Room) (text_of bytes ++ drop (length (text_of bytes)) room) room
      (λ h e. let z : k ≡ length (text_of bytes) = cc in omega (arith, length-append (text_of bytes) (drop (length (text_of bytes)) room)))
      (λ h e. let z : ◌≡◌ {A = ℕ} 0 1 = cc in absurd (omega arith))

  -- as many bytes as are said to be written can be lent
  pub fits : (k : ℕ) → Ok k ≡ played_of bytes room → (k ≤ length (left_of bytes room)) × (k ≡ length (take k (left_of bytes room)))
  fits k e = let h = within k e in (h, sym (length-take-le k (left_of bytes room) h))

-- the same of an answer and the room left, as a caller has them
pub lent : (bytes room : List ℕ) (k : ℕ) (r : Result ℕ Refusal) (left : List ℕ) → r ≡ Ok k → (r ≡ played_of bytes room) × (left ≡ left_of bytes room) → (k ≤ length left) × (k ≡ length (take k left))
lent bytes room k r left e p = rw p.1 (fits bytes room k (sym e ∙ p.0))

-- The lines of the calls, and one last line.
pub one-last-line : (bytes : List ℕ) → text_of bytes ≡ lines_from 1 (run fresh_tracker (trace_in bytes).calls) ++ last_line (length (trace_in bytes).calls) (trace_in bytes).ending
unfolding text_of printed
one-last-line bytes = refl

-- "A refused report prints `i refused 2`": a report with a point in use off the panel is refused with 2, and nothing else
-- of a trace ever is, as no run from a fresh tracker breaks the state rule.
abbrev refusals : List Made → List ℕ
refusals calls = map (λ m. refusal_of m.answer) calls

refusals-from : (t : Tracker) (cs : List Call) → state_rule t ≡ true → refusals (run t cs) ≡ map number_in cs
unfolding run
refusals-from t [] h = refl
refusals-from t (c ∷ cs) h =
    ap (λ (n : ℕ). n ∷ refusals (run (answer_of t c).tracker cs)) (call-tells t c h)
    ∙ ap (λ (ns : List ℕ). number_in c ∷ ns) (refusals-from (answer_of t c).tracker cs (call_kept t c h))

pub only-panel : (cs : List Call) → map (λ m. refusal_of m.answer) (run fresh_tracker cs) ≡ map number_in cs
only-panel cs = refusals-from fresh_tracker cs fresh_kept

-- The contract determines the answer, and the room lent.
module _ (bytes room : List ℕ) where
  pub played-unique : {r s : Result ℕ Refusal} → r ≡ played_of bytes room → s ≡ played_of bytes room → r ≡ s
  played-unique = one_answer

  pub left_unique : {r s : List ℕ} → r ≡ left_of bytes room → s ≡ left_of bytes room → r ≡ s
  left_unique = one_answer

pub gesture-text-unique : (g : Gesture) {r s : GestureText} → r ≡ gesture_text_of g → s ≡ gesture_text_of g → r ≡ s
gesture-text-unique g = one_answer

-- how much of its input a program reads, and the room that it lends for the text
pub input-most-unique : {r s : ℕ} → r ≡ most_bytes + 1 → s ≡ most_bytes + 1 → r ≡ s
input-most-unique = one_answer

pub text-most-unique : {r s : ℕ} → r ≡ line_most * (most_bytes + 2) → s ≡ line_most * (most_bytes + 2) → r ≡ s
text-most-unique = one_answer
