-- A run: calls made one after another on one tracker, each on what the one before it left. The text of a trace, the lent
-- tracker, the history theorem and the worked cases all speak of this one.
use Rattle.std.specs.Prelude.{List, [], ◌∷◌}
use Rattle.gesture.specs.Calls.{Call, answer_of}
use Rattle.gesture.specs.declared.answers.Answer.{Answer}
use Rattle.gesture.specs.declared.record.Tracker.{Tracker}

-- a call, and what it answered
pub record Made : Type 0 where
  pub call : Call
  pub answer : Answer

abbrev pub made : Tracker → Call → Made
made t c = record { call = c; answer = answer_of t c }

unfoldable pub run : Tracker → List Call → List Made
run t [] = []
run t (c ∷ cs) = made t c ∷ run (answer_of t c).tracker cs

-- the tracker in the end
unfoldable pub after : Tracker → List Call → Tracker
after t [] = t
after t (c ∷ cs) = after (answer_of t c).tracker cs
