-- The calls of the host on the area that holds the tracker.
--
-- "The host's C main loop calls event, tick, capture and apply16 on numbers and one lent byte area that holds the tracker."
-- What a call on an area comes to is said by the crate image (Calls, Numbers): the contracts cite its `made_on`. Here is what
-- C is told of it, in numbers; the report that the numbers of a call are; and what the two others give.
use Rattle.std.specs.Prelude.{ℕ, List, [], ◌∷◌, ℤ, pos, Result, Ok, Err}
use Rattle.panel.specs.Refusals.{number_of}
use Rattle.panel.specs.declared.points.Point.{Point}
use Rattle.panel.specs.declared.points.Event.{Event}
use Rattle.panel.specs.declared.refusals.Refusal.{Refusal}
use Rattle.calmap.specs.declared.units.Cal.{Cal}
use Rattle.calmap.specs.declared.mapping.Spot.{Spot}
use Rattle.gesture.specs.Answers.{told_grab}
use Rattle.image.specs.Codec.{Stored}
use Rattle.image.specs.Calls.{Left, grab_on}

-- 0, or the number of why a call is refused
abbrev pub number_told : {A : Type 0} → Result A Refusal → ℕ
number_told (Ok x) = 0
number_told (Err why) = number_of why

-- A call of the tracker: a refusal number, or 0, the area, which holds the tracker, and the numbers of the answer.

pub record Hosted : Type 0 where
  pub number : ℕ
  pub area : List ℕ
  pub out : List ℕ

abbrev pub hosted : ℕ → List ℕ → List ℕ → Hosted
hosted number area out = record { number = number; area = area; out = out }

abbrev pub hosted_by : Left → Hosted
hosted_by l = hosted (number_told l.told) l.area l.out

-- A tracker that is stored: a refusal number, or 0, and the area.

pub record Kept : Type 0 where
  pub number : ℕ
  pub area : List ℕ

abbrev pub kept : ℕ → List ℕ → Kept
kept number area = record { number = number; area = area }

abbrev pub kept_by : Stored → Kept
kept_by s = kept (number_told s.told) s.area

-- The grab time alone: a refusal number, or 0, and one number. The area is lent to be read only.

pub record GrabTold : Type 0 where
  pub number : ℕ
  pub out : List ℕ

abbrev pub grab_told : ℕ → List ℕ → GrabTold
grab_told number out = record { number = number; out = out }

unfoldable pub grab_hosted : List ℕ → GrabTold
grab_hosted area = grab_told (told_grab (grab_on area)).number ((told_grab (grab_on area)).value ∷ [])

-- The report that the numbers of a call are.

abbrev pub point : ℕ → ℕ → Point
point x y = record { x = x; y = y }

abbrev pub report_of : ℕ → ℕ → Point → List Point → Event
report_of keys count p pts = record { points = count; p = p; pts = pts; keys = keys }

-- A point through a calibration: a refusal number, or 0, and two numbers.

pub record Applied : Type 0 where
  pub number : ℕ
  pub out : List ℤ

abbrev pub applied : ℕ → List ℤ → Applied
applied number out = record { number = number; out = out }

abbrev pub cal_of : ℤ → ℤ → ℤ → ℤ → ℤ → ℤ → Cal
cal_of c0 c1 c2 c3 c4 c5 = record { c0 = record { 0 = c0 }; c1 = record { 0 = c1 }; c2 = record { 0 = c2 }; c3 = record { 0 = c3 }; c4 = record { 0 = c4 }; c5 = record { 0 = c5 } }

unfoldable pub applied_by : Result Spot Refusal → Applied
applied_by (Ok s) = applied 0 (s.0.0 ∷ s.1.0 ∷ [])
applied_by (Err why) = applied (number_of why) (pos 0 ∷ pos 0 ∷ [])
