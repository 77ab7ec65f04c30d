-- A number as bytes.
--
-- "Numbers: seven-bit groups, low first, high bit on all but the last, shortest form. Ten groups without a last: BIG; ended
-- early: CUT; needless zero group: FORM; too large: BIG, in that order." "offset of the number's first byte or, if missing,
-- the length".
use Rattle.std.specs.Prelude.{ℕ, zero, suc, ◌+◌, ◌-◌, ◌*◌, ◌/◌, ◌%◌, min, Bool, List, [], ◌∷◌, length, drop, Result, Ok, Err}
use Rattle.std.specs.List.{flat_map}
use Rattle.panel.specs.Refusals.{Told, answered, refused}
use Rattle.panel.specs.Tests.{when◌then◌else◌, ◌and◌, ◌<?◌, ◌=?◌}
use Rattle.panel.specs.declared.refusals.Refusal.{Refusal}
use Rattle.panel.specs.declared.refusals.Refusal.TheVariants.{Cut, Form, Big}
use Rattle.numbers.specs.Sizes.{group, most_groups}
use Rattle.numbers.specs.declared.reading.Stop.{Stop}

-- Writing: the groups of v, at most so many.
unfoldable pub groups_by : ℕ → ℕ → List ℕ
groups_by zero v = []
groups_by (suc most) v = when v <? group then v ∷ [] else (group + v % group) ∷ groups_by most (v / group)

unfoldable pub bytes_of : ℕ → List ℕ
bytes_of v = groups_by most_groups v

-- numbers one after another
abbrev pub bytes_of_all : List ℕ → List ℕ
bytes_of_all vs = flat_map bytes_of vs

-- Reading: the groups of the number that the bytes begin with, without their high bits.
pub data Groups : Type 0 where
  whole : List ℕ → Groups
  endless : Groups
  early : Groups

abbrev pub after : ℕ → Groups → Groups
after g (whole gs) = whole (g ∷ gs)
after g endless = endless
after g early = early

unfoldable pub groups_in : ℕ → List ℕ → Groups
groups_in zero bytes = endless
groups_in (suc most) [] = early
groups_in (suc most) (b ∷ bytes) = when b <? group then whole (b ∷ []) else after (b - group) (groups_in most bytes)

-- low first
unfoldable pub value_of : List ℕ → ℕ
value_of [] = 0
value_of (g ∷ gs) = g + group * value_of gs

-- of some groups, whether the last is 0 and not the only one
unfoldable pub ends_in_zero : List ℕ → Bool
ends_in_zero [] = 0 =? 0
ends_in_zero (g ∷ []) = g =? 0
ends_in_zero (g ∷ h ∷ gs) = ends_in_zero (h ∷ gs)

unfoldable pub needless : List ℕ → Bool
needless gs = (1 <? length gs) and ends_in_zero gs

-- A number that was read, and where the next one begins; or why there is none, and where it should have been.
abbrev pub read : ℕ → ℕ → Result (ℕ × ℕ) Stop
read v next = Ok (v, next)

abbrev pub stopped : {A : Type 0} → Refusal → ℕ → Result A Stop
stopped why at = Err (record { why = why; at = at })

abbrev pub judged : ℕ → ℕ → Groups → Result (ℕ × ℕ) Stop
judged at most endless = stopped Big at
judged at most early = stopped Cut at
judged at most (whole gs) =
    when needless gs then stopped Form at
    else when most <? value_of gs then stopped Big at
    else read (value_of gs) (at + length gs)

-- the number at a place of the bytes, which its field holds to a maximum
unfoldable pub number_at : List ℕ → ℕ → ℕ → Result (ℕ × ℕ) Stop
number_at bytes at most = judged (min at (length bytes)) most (groups_in most_groups (drop at bytes))

-- Reading goes on with what was read; where it has stopped, it stays so.
infixl 10 ◌>>=◌
abbrev pub ◌>>=◌ : {A B E : Type 0} → Result A E → (A → Result B E) → Result B E
(Ok x) >>= go_on = go_on x
(Err stop) >>= go_on = Err stop

abbrev pub number_from : List ℕ → Result ℕ Stop → ℕ → Result (ℕ × ℕ) Stop
number_from bytes (Ok at) most = number_at bytes at most
number_from bytes (Err stop) most = Err stop

-- in the documents' numbers: 0 and where reading goes on, or the refusal's number and the place it speaks of
abbrev pub told_place : Result ℕ Stop → Told ℕ
told_place (Ok next) = answered next
told_place (Err stop) = refused stop.why stop.at

abbrev pub told_to : Result (ℕ × ℕ) Stop → Told ℕ
told_to (Ok r) = answered r.1
told_to (Err stop) = refused stop.why stop.at
