-- Floats.
--
-- "Floats: IEEE 754 binary32." The toolchain's lib.Ieee has their operations, each the exact result rounded once, to the
-- nearest, a tie to the even one. Here they have signs of their own, so that a definition reads like the Rust's line.
use Rattle.std.specs.Prelude.{Bool, ℤ, Float}
use Rattle.std.specs.Float.{binary32}
use Rattle.std.specs.Float.Ieee.{add, sub, mul, div, lt, of_int, to_signed}

infixl 60 ◌⊕◌
infixl 60 ◌⊖◌
infixl 70 ◌⊗◌
infixl 70 ◌⊘◌
infix 40 ◌⊲◌
abbrev pub ◌⊕◌ : Float → Float → Float
◌⊕◌ x y = add binary32 x y

abbrev pub ◌⊖◌ : Float → Float → Float
◌⊖◌ x y = sub binary32 x y

abbrev pub ◌⊗◌ : Float → Float → Float
◌⊗◌ x y = mul binary32 x y

abbrev pub ◌⊘◌ : Float → Float → Float
◌⊘◌ x y = div binary32 x y

-- x < y; no test of a NaN passes
abbrev pub ◌⊲◌ : Float → Float → Bool
◌⊲◌ x y = lt x y

-- "c in f32 (nearest, ties to even)"
abbrev pub float : ℤ → Float
float z = of_int binary32 z

-- "cut toward zero", to an i32
abbrev pub cut : Float → ℤ
cut x = to_signed 31 x
