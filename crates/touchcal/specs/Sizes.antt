-- The numbers of document 01 that the float half turns on, each written here and nowhere else. A float m · 2 ^ e is
-- written `fin s m e`, negative where s is true.
use Rattle.std.specs.Prelude.{ℕ, true, false, pos, negsuc, from_bits, Float}
use Rattle.std.specs.Float.{fin, binary32}
use Rattle.calmap.specs.declared.units.Tenths.{Tenths}

-- 0, 1/2 and 1
abbrev pub zero32 : Float
zero32 = fin false 0 (pos 0)

abbrev pub half32 : Float
half32 = fin false 1 (negsuc 0)

abbrev pub one32 : Float
one32 = fin false 1 (pos 0)

-- "s = v·65536"
abbrev pub scale32 : Float
scale32 = fin false 1 (pos 16)

-- "strictly between ±2.0e9": 1,953,125 · 2 ^ 10
abbrev pub most32 : Float
most32 = fin false 1_953_125 (pos 10)

abbrev pub least32 : Float
least32 = fin true 1_953_125 (pos 10)

-- "1e-3 is bits 3A83126F"
abbrev pub thin32 : Float
thin32 = from_bits binary32 0x3A83126F

-- the Rust's `sxx < 1.0 || syy < 1.0`
abbrev pub least_sum32 : Float
least_sum32 = fin false 1 (pos 0)

-- an affine map takes three pairs
abbrev pub fewest : ℕ
fewest = 3

-- "then Resid if max > 250"
abbrev pub resid_limit : Tenths
resid_limit = record { 0 = 250 }
