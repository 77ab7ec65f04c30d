-- Words and lines.
--
-- "record number from 1, gesture name, its numbers in the Rust's field order (axis H or V, truth 1 or 0), single spaces".
use Rattle.std.specs.Prelude.{ℕ, zero, suc, ◌+◌, ◌/◌, ◌%◌, List, [], ◌∷◌, ◌++◌}
use Prim.Native.Char.{code}
use Prim.Native.String.{String, [] as nil, ◌∷◌ as ◌then◌}
use Rattle.panel.specs.Tests.{when◌then◌else◌, ◌<?◌}
use Rattle.panel.specs.declared.axes.Axis.{Axis}
use Rattle.panel.specs.declared.axes.Axis.TheVariants.{H, «V»}
use Rattle.text.specs.Sizes.{most_digits}

-- a word's bytes
unfoldable pub ascii : String → List ℕ
ascii nil = []
ascii (c then s) = code c ∷ ascii s

abbrev pub space : ℕ
space = 32

abbrev pub newline : ℕ
newline = 10

-- A number in decimal: `ten` to a place, at most so many places, the highest first, and as few as it takes.

abbrev pub ten : ℕ
ten = 10

-- the code of the digit 0, from which the others follow
abbrev pub digit0 : ℕ
digit0 = 48

unfoldable pub digits_by : ℕ → ℕ → List ℕ
digits_by zero v = []
digits_by (suc most) v =
    when v <? ten then (v + digit0) ∷ []
    else digits_by most (v / ten) ++ ((v % ten + digit0) ∷ [])

unfoldable pub decimal : ℕ → List ℕ
decimal v = digits_by most_digits v

-- "axis H or V"
unfoldable pub letter_of : Axis → ℕ
letter_of H = 72
letter_of «V» = 86

-- A line: words with single spaces between them.

-- a space and a word, for each of them
unfoldable pub spaced : List (List ℕ) → List ℕ
spaced [] = []
spaced (w ∷ ws) = (space ∷ w) ++ spaced ws

unfoldable pub line : List ℕ → List (List ℕ) → List ℕ
line w ws = w ++ (spaced ws ++ (newline ∷ []))
