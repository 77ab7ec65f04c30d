-- The text of a trace.
--
-- "Every trace starts a fresh tracker." "The trace program reads standard input and prints per answered gesture: record
-- number from 1, gesture name, its numbers .. A refused report prints `i refused 2`; a bad trace ends with `stopped R at O`
-- (offset of the number's first byte or, if missing, the length; 0 for FILE); else `end` and the record count."
use Rattle.std.specs.Prelude.{ℕ, suc, List, [], ◌∷◌, ◌++◌, length, Option, Some, None, Result, Ok, Err}
use Rattle.gesture.specs.Runs.{Made, run}
use Rattle.gesture.specs.declared.answers.Response.{Response}
use Rattle.gesture.specs.Trackers.{fresh_tracker}
use Rattle.panel.specs.Refusals.{number_of}
use Rattle.panel.specs.declared.refusals.Refusal.{Refusal}
use Rattle.text.specs.Gestures.{words_of}
use Rattle.text.specs.Words.{ascii, decimal, line}
use Rattle.trace.specs.Traces.{Ending, ends, stops, Traced, trace_in}
use Rattle.fingers.specs.declared.gestures.Gesture.{Gesture}

-- "per answered gesture": record i's line, nothing where no gesture came of it
unfoldable pub given_line : ℕ → Option Gesture → List ℕ
given_line i None = []
given_line i (Some g) = line (decimal i) (words_of g)

-- "A refused report prints `i refused 2`"
unfoldable pub refused_line : ℕ → ℕ → List ℕ
refused_line i number = line (decimal i) (ascii "refused" ∷ decimal number ∷ [])

unfoldable pub answer_line : ℕ → Result Response Refusal → List ℕ
answer_line i (Ok r) = given_line i r.gesture
answer_line i (Err why) = refused_line i (number_of why)

-- the lines of the calls made, of which the first is that of record i
unfoldable pub lines_from : ℕ → List Made → List ℕ
lines_from i [] = []
lines_from i (m ∷ rest) = answer_line i m.answer.told ++ lines_from (suc i) rest

-- "a bad trace ends with `stopped R at O` ..; else `end` and the record count"
unfoldable pub stop_line : ℕ → ℕ → List ℕ
stop_line number at = line (ascii "stopped") (decimal number ∷ ascii "at" ∷ decimal at ∷ [])

unfoldable pub end_line : ℕ → List ℕ
end_line count = line (ascii "end") (decimal count ∷ [])

unfoldable pub last_line : ℕ → Ending → List ℕ
last_line count ends = end_line count
last_line count (stops why at) = stop_line (number_of why) at

unfoldable pub printed : Traced → List ℕ
printed t = lines_from 1 (run fresh_tracker t.calls) ++ last_line (length t.calls) t.ending

unfoldable pub text_of : List ℕ → List ℕ
text_of bytes = printed (trace_in bytes)
