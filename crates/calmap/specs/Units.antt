-- The units, a type for each, and what may be made of them. A number of one unit where another is asked is a type error.
--
-- "Sixteenths of a pixel, tenths of a pixel and Q16 steps each have a type apart." Whole pixels are plain numbers.
use Rattle.std.specs.Prelude.{ℕ, ◌+◌, ◌/◌, max, Bool, ℤ, pos, nat_abs, ◌+ℤ◌, ◌-ℤ◌, ◌*ℤ◌}
use Rattle.panel.specs.Tests.{◌≤?◌, ◌<?◌}
use Rattle.calmap.specs.Sizes.{one, twelve, sixteen, sixteenths_in}
use Rattle.calmap.specs.Wide.{in32, down}
use Rattle.calmap.specs.declared.units.Q16.{Q16}
use Rattle.calmap.specs.declared.units.Sixteenths.{Sixteenths}
use Rattle.calmap.specs.declared.units.Tenths.{Tenths}

infixl 60 ◌⊞◌
infixl 60 ◌⊟◌
infixl 70 ◌·◌
abbrev pub steps : ℤ → Q16
steps z = record { 0 = z }

abbrev pub sixteenths : ℤ → Sixteenths
sixteenths z = record { 0 = z }

abbrev pub tenths : ℕ → Tenths
tenths n = record { 0 = n }

-- Steps: "x·65536", those of whole pixels; "c0·x", so many for each pixel; and a sum.
abbrev pub whole_steps : ℤ → Q16
whole_steps x = steps (x *ℤ pos one)

abbrev pub ◌·◌ : Q16 → ℤ → Q16
◌·◌ q x = steps (q.0 *ℤ x)

abbrev pub ◌⊞◌ : Q16 → Q16 → Q16
◌⊞◌ a b = steps (a.0 +ℤ b.0)

abbrev pub steps_fit : Q16 → Bool
steps_fit q = in32 q.0

-- at most so many each way
abbrev pub steps_within : Q16 → Q16 → Bool
steps_within most q = nat_abs q.0 ≤? nat_abs most.0

-- "down by twelve places" they are sixteenths, "down sixteen" pixels
abbrev pub down_twelve : Q16 → Sixteenths
down_twelve q = sixteenths (down twelve q.0)

abbrev pub down_sixteen : Q16 → ℤ
down_sixteen q = down sixteen q.0

-- Sixteenths: those of whole pixels, and a difference.
abbrev pub in_sixteenths : ℤ → Sixteenths
in_sixteenths v = sixteenths (v *ℤ pos sixteenths_in)

abbrev pub ◌⊟◌ : Sixteenths → Sixteenths → Sixteenths
◌⊟◌ a b = sixteenths (a.0 -ℤ b.0)

abbrev pub sixteenths_fit : Sixteenths → Bool
sixteenths_fit s = in32 s.0

abbrev pub sixteenths_within : Sixteenths → Sixteenths → Bool
sixteenths_within most s = nat_abs s.0 ≤? nat_abs most.0

-- Tenths: a sum, its share among n, rounded down, the larger of two, and whether they are over a limit.
abbrev pub together_of : Tenths → Tenths → Tenths
together_of a b = tenths (a.0 + b.0)

abbrev pub share_of : Tenths → ℕ → Tenths
share_of t n = tenths (t.0 / n)

abbrev pub farther_of : Tenths → Tenths → Tenths
farther_of a b = tenths (max a.0 b.0)

abbrev pub over : Tenths → Tenths → Bool
over limit t = limit.0 <? t.0
