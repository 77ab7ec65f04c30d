-- The numbers of documents 01 and 02 that the integer half of the calibration turns on, each written here and nowhere else.
use Rattle.std.specs.Prelude.{ℕ, pos}
use Rattle.calmap.specs.declared.units.Q16.{Q16}
use Rattle.calmap.specs.declared.units.Sixteenths.{Sixteenths}

-- "leaves i32", "outside i16": how many there are below 0
abbrev pub end32 : ℕ
end32 = 2147483648

abbrev pub end16 : ℕ
end16 = 32768

-- "x·65536"
abbrev pub one : ℕ
one = 65536

-- "shift down by twelve places"
abbrev pub twelve : ℕ
twelve = 12

-- "+ 32768, .. down sixteen"
abbrev pub half : Q16
half = record { 0 = pos 32768 }

abbrev pub sixteen : ℕ
sixteen = 16

-- "(16t) squared at most 100 times the squared distance in sixteenths": the sixteenths in a pixel, and its tenths squared
abbrev pub sixteenths_in : ℕ
sixteenths_in = 16

abbrev pub hundred : ℕ
hundred = 100

-- "over 64 pairs in use, or over 64 targets"
abbrev pub longest : ℕ
longest = 64

-- "a, b, d, e deltas within ±9830"
abbrev pub scale_limit : Q16
scale_limit = record { 0 = pos 9830 }

-- "each target's shift at most 640 sixteenths each way"
abbrev pub shift_limit : Sixteenths
shift_limit = record { 0 = pos 640 }
