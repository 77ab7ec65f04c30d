-- What fits, and the shift toward minus infinity.
--
-- "WIDE if x or y is outside i16, or a product or partial sum leaves i32." "shift down by twelve places, toward minus
-- infinity".
use Rattle.std.specs.Prelude.{ℕ, ◌/◌, ◌^◌, Bool, ℤ, pos, negsuc}
use Rattle.std.specs.Int.Signed.{mag}
use Rattle.panel.specs.Tests.{◌<?◌}
use Rattle.calmap.specs.Sizes.{end32, end16}

-- from -2147483648 to 2147483647: mag is n for n and for -(n + 1)
unfoldable pub in32 : ℤ → Bool
in32 z = mag z <? end32

-- from -32768 to 32767
unfoldable pub in16 : ℤ → Bool
in16 z = mag z <? end16

-- division by m > 0, rounded down: -(n + 1) over m is -(n / m + 1)
abbrev pub floor_div : ℤ → ℕ → ℤ
floor_div (pos n) m = pos (n / m)
floor_div (negsuc n) m = negsuc (n / m)

-- shifted down by so many places
unfoldable pub down : ℕ → ℤ → ℤ
down places z = floor_div z (2 ^ places)
