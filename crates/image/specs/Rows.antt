-- "One tracker has one image (layout fixed in docs/, absent parts zero)": a layout is a table of rows.
--
-- A row is a width and the number that stands there, low byte first; a table is laid out row after row, with nothing
-- between.
use Rattle.std.specs.Prelude.{ℕ, zero, suc, ◌+◌, ◌%◌, ◌/◌, ◌^◌, ◌<◌, List, [], ◌∷◌, ◌++◌}

pub record Row : Type 0 where
  pub width : ℕ
  pub number : ℕ

abbrev pub row : ℕ → ℕ → Row
row width number = record { width = width; number = number }

-- the bytes of a number, low byte first
unfoldable pub bytes_of : ℕ → ℕ → List ℕ
bytes_of zero n = []
bytes_of (suc width) n = n % 256 ∷ bytes_of width (n / 256)

unfoldable pub laid : List Row → List ℕ
laid [] = []
laid (r ∷ rows) = bytes_of r.width r.number ++ laid rows

-- how many bytes a table takes
unfoldable pub total : List Row → ℕ
total [] = 0
total (r ∷ rows) = r.width + total rows

-- each number fits its width
abbrev pub Fits : List Row → Type 0
Fits [] = Unit {0}
Fits (r ∷ rows) = (r.number < 256 ^ r.width) × Fits rows
