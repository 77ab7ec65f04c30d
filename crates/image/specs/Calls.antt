-- The calls on the tracker that an area holds.
--
-- "The host's C main loop calls event, tick, capture and apply16 on numbers and one lent byte area that holds the tracker.
-- One tracker has one image ..; any other area, too short or long included, is STATE." "A refusal carries no other value
-- (zeros, no gesture, no log line) and alters nothing."
--
-- What comes back is whether the call was refused, the area, which holds the tracker, and the numbers of the answer.
use Rattle.std.specs.Prelude.{ℕ, List, Result, Ok, Err}
use Rattle.gesture.specs.Answers.{grab_of}
use Rattle.gesture.specs.Calls.{Call, answer_of}
use Rattle.gesture.specs.declared.answers.Answer.{Answer}
use Rattle.gesture.specs.declared.answers.Response.{Response}
use Rattle.image.specs.Image.{image_of}
use Rattle.image.specs.Codec.{decode_of}
use Rattle.image.specs.Numbers.{numbers_of, zeros}
use Rattle.panel.specs.declared.refusals.Refusal.{Refusal}
use Rattle.gesture.specs.declared.record.Tracker.{Tracker}

pub record Left : Type 0 where
  pub told : Result (Unit {0}) Refusal
  pub area : List ℕ
  pub out : List ℕ

abbrev pub left : Result (Unit {0}) Refusal → List ℕ → List ℕ → Left
left told area out = record { told = told; area = area; out = out }

-- the area becomes the image of the tracker that the call leaves; a refused call leaves it
unfoldable pub finished_by : List ℕ → Result Response Refusal → Answer → Left
finished_by area (Ok r) a = left (Ok tt) (image_of a.tracker) (numbers_of a)
finished_by area (Err why) a = left (Err why) area zeros

unfoldable pub finished : List ℕ → Answer → Left
finished area a = finished_by area a.told a

unfoldable pub on_decoded : List ℕ → Result Tracker Refusal → Call → Left
on_decoded area (Ok t) c = finished area (answer_of t c)
on_decoded area (Err why) c = left (Err why) area zeros

unfoldable pub made_on : List ℕ → Call → Left
made_on area c = on_decoded area (decode_of area) c

-- The grab time, which alters nothing.

unfoldable pub grab_decoded : Result Tracker Refusal → Result ℕ Refusal
grab_decoded (Ok t) = grab_of t
grab_decoded (Err why) = Err why

unfoldable pub grab_on : List ℕ → Result ℕ Refusal
grab_on area = grab_decoded (decode_of area)
