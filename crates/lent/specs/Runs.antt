-- Calls one after another on one lent tracker, and the same calls by value, where each is passed the tracker that the one
-- before it answered. proofs/Promises.antt shows that they tell and leave the same.
use Rattle.std.specs.Prelude.{◌≡◌, List, [], ◌∷◌, map, Result}
use Rattle.panel.specs.declared.refusals.Refusal.{Refusal}
use Rattle.gesture.specs.Calls.{Call, answer_of}
use Rattle.gesture.specs.Runs.{run}
use Rattle.gesture.specs.declared.record.Tracker.{Tracker}
use Rattle.gesture.specs.declared.answers.Response.{Response}
use Rattle.lent.specs.Lent.{response_of, TellsAndLeaves}

-- lent: each call finds what the one before it left
abbrev pub LentRun : Tracker → List Call → List (Result Response Refusal) → Tracker → Type 0
LentRun t [] tolds last = (tolds ≡ []) × (last ≡ t)
LentRun t (c ∷ cs) tolds last = (told : Result Response Refusal) × (left : Tracker) × (rest : List (Result Response Refusal)) × (tolds ≡ told ∷ rest) × TellsAndLeaves (answer_of t c) told left × LentRun left cs rest last

-- by value: what the run of the crate gesture tells
abbrev pub told_of : Tracker → List Call → List (Result Response Refusal)
told_of t cs = map (λ m. response_of m.answer) (run t cs)
