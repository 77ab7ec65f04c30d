-- "The tracker record": "It is lent by the caller and altered where it stands".
--
-- A call on a lent tracker tells what the by-value call of the crate gesture answers, but for the tracker: that is left
-- where the lent one stood. "A refusal carries no other value (zeros, no gesture, no log line) and alters nothing."
use Rattle.std.specs.Prelude.{◌≡◌, Result}
use Rattle.panel.specs.declared.refusals.Refusal.{Refusal}
use Rattle.gesture.specs.declared.record.Tracker.{Tracker}
use Rattle.gesture.specs.declared.answers.Answer.{Answer}
use Rattle.gesture.specs.declared.answers.Response.{Response}

-- an answer without its tracker
abbrev pub response_of : Answer → Result Response Refusal
response_of a = a.told

-- what every contract of this crate says of an answer by value: the one is told, the other left
abbrev pub TellsAndLeaves : Answer → Result Response Refusal → Tracker → Type 0
TellsAndLeaves a told left = (told ≡ response_of a) × (left ≡ a.tracker)
