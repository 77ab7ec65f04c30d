-- "Refusal numbers": the table, and what an answer tells.
--
-- "1 STATE, 2 PANEL, 3 WIDE, 4 LONG, 5 TARGET, 6 NOFIT, 7 HUGE, 8 VERSION, 9 CUT, 10 FORM, 11 BIG, 12 KIND, 13 FILE,
-- 14 ROOM." "0: answered." "A refusal carries no other value (zeros, no gesture, no log line)." Document 02, [2]: "6 becomes
-- FEW, 16 LINE, 17 STEEP .. STEEP alone carries a value, the coefficient's place" (in touchcal's `told_fit`).
use Rattle.std.specs.Prelude.{ℕ}
use Rattle.panel.specs.declared.refusals.Refusal.{Refusal}
use Rattle.panel.specs.declared.refusals.Refusal.TheVariants.{State, Panel, Wide, Long, Target, Few, Huge, Version, Cut, Form, Big, Kind, File, Room, Line, Steep}

abbrev pub number_of : Refusal → ℕ
number_of State = 1
number_of Panel = 2
number_of Wide = 3
number_of Long = 4
number_of Target = 5
number_of Few = 6
number_of Huge = 7
number_of Version = 8
number_of Cut = 9
number_of Form = 10
number_of Big = 11
number_of Kind = 12
number_of File = 13
number_of Room = 14
number_of Line = 16
number_of Steep = 17

-- What an answer tells in the documents' numbers: 0 and its value, or a refusal's number and the value that means none.
pub record Told (A : Type 0) : Type 0 where
  pub number : ℕ
  pub value : A

abbrev pub answered : {A : Type 0} → A → Told A
answered a = record { number = 0; value = a }

abbrev pub refused : {A : Type 0} → Refusal → A → Told A
refused r zeros = record { number = number_of r; value = zeros }
