-- A signed number's square, worked out at 64 bits, and the way between two coordinates. Assumes nothing.
use Prim.Native.Nat.{ℕ, zero, suc, ◌+◌, ◌-◌, ◌*◌, ◌≤◌, ◌<◌}
use mathlib.Core.Path.{◌≡◌, refl, sym, subst, ap, ◌∙◌}
use mathlib.Core.Bool.{Bool, true, false, cond}
use native.Mathlib.Nat.{mul-le-mul}
use native.Mathlib.Omega.{arith}
use lib.Dec.{T, ltb, ltb→lt}
use lib.IntN.{ℤ, pos, negsuc, nat_abs, ◌-ℤ◌, ◌*ℤ◌}
use lib.Signed.{mag, non_neg, nat_abs-le}
use mir.Syntax.{w32, w64}
use mir.Val.{to_z, of_z, SFits}
use mir.ValLaws.{to_z-of_z}
use mir.Facts.{sfits_widen}
use borrow.Author.Tests.{ltb-false}
use Rattle.panel.specs.Distances.{difference}

-- a number of 32 bits at 64, and what is read back of it
pub widened : {x : ℤ} → SFits w32 x → SFits w64 (to_z w32 (of_z w32 x))
widened {x} h = subst (SFits w64) (sym (to_z-of_z w32 x h)) (sfits_widen tt h)

pub read_twice : {x : ℤ} → SFits w32 x → to_z w64 (of_z w64 (to_z w32 (of_z w32 x))) ≡ x
read_twice {x} h = to_z-of_z w64 (to_z w32 (of_z w32 x)) (widened h) ∙ to_z-of_z w32 x h

pub square-non_neg : (d : ℤ) → T (non_neg (d *ℤ d))
square-non_neg (pos n) = tt
square-non_neg (negsuc n) = tt

pub square-is : (d : ℤ) → nat_abs (d *ℤ d) ≡ nat_abs d * nat_abs d
square-is (pos n) = refl
square-is (negsuc n) = refl

pub square-size : {d : ℤ} → SFits w32 d → nat_abs d * nat_abs d ≤ 4611686018427387904
square-size {d} h = mul-le-mul (nat_abs-le d h.sfits) (nat_abs-le d h.sfits)

square-mag : (d : ℤ) → mag (d *ℤ d) ≤ nat_abs d * nat_abs d
square-mag (pos n) = omega arith
square-mag (negsuc n) = omega arith

pub square-fits : {d : ℤ} → SFits w32 d → SFits w64 (d *ℤ d)
square-fits {d} h = record { sfits = omega (arith, square-mag d, square-size h) }

-- The way from a to b.

ways : (t : Bool) (a b : ℕ) → ltb b (suc a) ≡ t → nat_abs (cond t (negsuc (suc a - suc b)) (pos (b - suc a))) ≡ difference (suc a) b
unfolding difference
ways true a b h = let l = ltb→lt b (suc a) (subst T (sym h) tt) in omega arith
ways false a b h = let l = ltb-false b (suc a) h in omega arith

way-is : (a b : ℕ) → nat_abs (pos b -ℤ pos a) ≡ difference a b
unfolding difference
way-is zero b = omega arith
way-is (suc a) b = ways (ltb b (suc a)) a b refl

way-mag : (z : ℤ) → mag z ≤ nat_abs z
way-mag (pos n) = omega arith
way-mag (negsuc n) = omega arith

pub way-fits : (a b : ℕ) → a < 65536 → b < 65536 → SFits w32 (pos b -ℤ pos a)
unfolding difference
way-fits a b h k = record { sfits = omega (arith, way-mag (pos b -ℤ pos a), way-is a b) }

-- as a call hands it over
pub way-read : (a b : ℕ) {r : ℤ} → r ≡ pos b -ℤ pos a → a < 65536 → b < 65536 → nat_abs (to_z w32 (of_z w32 r)) ≡ difference a b
way-read a b e h k = ap nat_abs (ap (λ (z : ℤ). to_z w32 (of_z w32 z)) e ∙ to_z-of_z w32 _ (way-fits a b h k)) ∙ way-is a b

pub two-squares : {s t x y dx dy : ℕ} → s ≡ x * x → x ≡ dx → t ≡ y * y → y ≡ dy → s + t ≡ dx * dx + dy * dy
two-squares a b c d = cc
