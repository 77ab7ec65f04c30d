-- `dist10`.
--
-- "WIDE if a coordinate difference leaves i32; a sum of 2^63 (past the Rust's i64) is answered." Document 02, [6]: "The
-- tenths become the largest t with (16t) squared at most 100 times the squared distance in sixteenths."
use Rattle.std.specs.Prelude.{ℕ, ◌+◌, ◌*◌, ◌/◌, ◌≤◌, ◌<◌, nat_abs, Option, Some, None, Result, Ok, Err}
use Rattle.panel.specs.Refusals.{Told, answered, refused}
use Rattle.panel.specs.Tests.{when◌then◌else◌, ◌and◌}
use Rattle.calmap.specs.Roots.{root_by}
use Rattle.calmap.specs.Sizes.{sixteenths_in, hundred}
use Rattle.calmap.specs.Units.{tenths, ◌⊟◌, sixteenths_fit}
use Rattle.calmap.specs.declared.units.Sixteenths.{Sixteenths}
use Rattle.calmap.specs.declared.units.Tenths.{Tenths}
use Rattle.panel.specs.declared.refusals.Refusal.{Refusal}

abbrev pub square : ℕ → ℕ
square n = n * n

-- the square of the straight line by dx and dy
unfoldable pub squared : Sixteenths → Sixteenths → ℕ
squared dx dy = square (nat_abs dx.0) + square (nat_abs dy.0)

-- that from b to a, unless a coordinate difference leaves i32
unfoldable pub gap_of : Sixteenths → Sixteenths → Sixteenths → Sixteenths → Option ℕ
gap_of ax ay bx by =
    let dx = ax ⊟ bx in
    let dy = ay ⊟ by in
    when sixteenths_fit dx and sixteenths_fit dy then Some (squared dx dy) else None

-- t is the largest with (16t) squared at most 100 times d2: that of the next one is over it. There is one such t, and
-- `tenths_of` is it for every d2 of 64 bits (`tenths-below`, `tenths-above`, `tenths-only` of proofs/Laws.antt).
pub record IsTenths (t : Tenths) (d2 : ℕ) : Type 0 where
  pub below : square (sixteenths_in * t.0) ≤ hundred * d2
  pub above : hundred * d2 < square (sixteenths_in * (t.0 + 1))

-- It, so that it computes: as often as 16 goes into the root of 100 times d2, which has 36 pairs of binary digits.
unfoldable pub tenths_of : ℕ → Tenths
tenths_of d2 = tenths (root_by 36 (hundred * d2) / sixteenths_in)

-- A rule by which a squared distance in sixteenths is told in tenths. The calls go by `tenths_of`. What is made of it is
-- stated over any rule, so that it can be said of the one before as well (crate oldtenths).
abbrev pub Rule : Type 0
Rule = ℕ → Tenths

abbrev pub in_tenths : Rule → Option ℕ → Result Tenths Refusal
in_tenths rule (Some d2) = Ok (rule d2)
in_tenths rule None = Err Refusal.Wide

abbrev pub dist10_by : Rule → Sixteenths → Sixteenths → Sixteenths → Sixteenths → Result Tenths Refusal
dist10_by rule ax ay bx by = in_tenths rule (gap_of ax ay bx by)

abbrev pub dist10_of : Sixteenths → Sixteenths → Sixteenths → Sixteenths → Result Tenths Refusal
dist10_of = dist10_by tenths_of

abbrev pub told_dist10 : Result Tenths Refusal → Told Tenths
told_dist10 (Ok t) = answered t
told_dist10 (Err r) = refused r (tenths 0)
