-- The tracker whose image an area is, before the state rule is looked at: whoever looks for it makes a call of the tracker next,
-- which looks at the rule first, or looks at the rule itself. And what a call leaves, by the numbers that it answers.
use Rattle.std.specs.Prelude.{ℕ, List, Result, Ok, Err}
use Rattle.panel.specs.Tests.{when◌then◌else◌}
use Rattle.panel.specs.declared.refusals.Refusal.TheVariants.{State}
use Rattle.gesture.specs.States.{state_rule}
use Rattle.image.specs.Calls.{Left, left}
use Rattle.image.specs.Codec.{is_image}
use Rattle.image.specs.Numbers.{zeros}
use Rattle.image.specs.code.Whole.{tracker_at}
use Rattle.panel.specs.declared.refusals.Refusal.{Refusal}
use Rattle.gesture.specs.declared.record.Tracker.{Tracker}

unfoldable pub unruled_of : List ℕ → Result Tracker Refusal
unruled_of area = when is_image area then Ok (tracker_at area) else Err State

unfoldable pub ruled_of : Tracker → Result Tracker Refusal
ruled_of t = when state_rule t then Ok t else Err State

abbrev pub left_by : Result (List ℕ) Refusal → List ℕ → Left
left_by (Ok out) area = left (Ok tt) area out
left_by (Err why) area = left (Err why) area zeros
