-- Sizes of sums, differences and products of integers, what a signed local's bits read back as, and the ends of i32
-- and i16 as tests leave them. Assumes nothing.
use Prim.Native.Nat.{ℕ, zero, suc, ◌+◌, ◌-◌, ◌*◌, ◌≤◌, ◌<◌, zero-le}
use mathlib.Core.Path.{◌≡◌, refl}
use mathlib.Core.Bool.{Bool, true, false, cond, ◌&&◌}
use native.Mathlib.Nat.{le_refl, le_trans, le-suc, mul-le-mul}
use native.Mathlib.Omega.{arith}
use lib.Dec.{leb, ltb}
use lib.IntN.{ℤ, pos, negsuc, neg_ℤ, nat_abs, ◌+ℤ◌, ◌-ℤ◌, ◌*ℤ◌}
use lib.Signed.{mag}
use mir.Syntax.{w32}
use mir.Val.{to_z, of_z, SFits}
use mir.ValLaws.{to_z-of_z}
use borrow.Author.Tests.{lt-ltb, lt-leb, ltb-true, ltb-false}
use Rattle.std.specs.Ordering.{int_cmp, is_le, is_lt}
use Rattle.std.proofs.lemmas.Bool.Decides.{nat_tests}
use Rattle.calmap.specs.Sizes.{end32}
use Rattle.calmap.specs.Wide.{in32}

-- Sizes.

either : (c : Bool) (x y n : ℕ) → x ≤ n → y ≤ n → mag (cond c (negsuc x) (pos y)) ≤ n
either true x y n h k = h
either false x y n h k = k

mag-neg : (r : ℕ) → mag (neg_ℤ (pos r)) ≤ r
mag-neg zero = zero-le
mag-neg (suc r) = le-suc r

pub mag-add : (a b : ℤ) → mag (a +ℤ b) ≤ suc (mag a + mag b)
mag-add (pos a) (pos b) = omega arith
mag-add (pos a) (negsuc b) = either (ltb a (suc b)) (suc b - suc a) (a - suc b) (suc (a + b)) (omega arith) (omega arith)
mag-add (negsuc a) (pos b) = either (ltb b (suc a)) (suc a - suc b) (b - suc a) (suc (a + b)) (omega arith) (omega arith)
mag-add (negsuc a) (negsuc b) = omega arith

mag-negℤ : (a : ℤ) → mag (neg_ℤ a) ≤ suc (mag a)
mag-negℤ (pos zero) = zero-le
mag-negℤ (pos (suc a)) = omega arith
mag-negℤ (negsuc a) = omega arith

pub mag-sub : (a b : ℤ) → mag (a -ℤ b) ≤ suc (mag a + suc (mag b))
mag-sub a b = omega (arith, mag-add a (neg_ℤ b), mag-negℤ b)

pub mag-mul : (a b : ℤ) → mag (a *ℤ b) ≤ suc (mag a) * suc (mag b)
mag-mul (pos a) (pos b) = mul-le-mul (le-suc a) (le-suc b)
mag-mul (pos a) (negsuc b) = le_trans (mag-neg (a * suc b)) (mul-le-mul (le-suc a) (le_refl (suc b)))
mag-mul (negsuc a) (pos b) = le_trans (mag-neg (suc a * b)) (mul-le-mul (le_refl (suc a)) (le-suc b))
mag-mul (negsuc a) (negsuc b) = le_refl (suc a * suc b)

-- What is read back.

pub plain : {x : ℤ} → SFits w32 x → to_z w32 (of_z w32 x) ≡ x
plain {x} h = to_z-of_z w32 x h

-- A range of the library: from -(low + 1) to low.
pub range-is : (low : ℕ) (v : ℤ) → (is_le (int_cmp (negsuc low) v) && is_lt (int_cmp v (pos (suc low)))) ≡ ltb (mag v) (suc low)
range-is low (pos n) = grind (arith, nat_tests)
range-is low (negsuc n) = grind (arith, nat_tests)

pub in32-yes : (z : ℤ) → mag z < end32 → in32 z ≡ true
unfolding in32
in32-yes z h = lt-ltb _ _ h

pub in32-fits : (z : ℤ) → in32 z ≡ true → SFits w32 z
unfolding in32
in32-fits z h = record { sfits = ltb-true _ _ h }

not-so : (b : Bool) → (b ≡ true → ⊥) → b ≡ false
not-so true f = absurd (f refl)
not-so false f = refl

pub in32-no : (z : ℤ) → (SFits w32 z → ⊥) → in32 z ≡ false
in32-no z f = not-so (in32 z) (λ e. f (in32-fits z e))

-- what leaves i32 is not within a limit below it
pub abs-wide : (z : ℤ) (n : ℕ) → in32 z ≡ false → n < end32 → leb (nat_abs z) n ≡ false
unfolding in32
abs-wide (pos k) n h l = let m = ltb-false k end32 h in lt-leb k n (omega arith)
abs-wide (negsuc k) n h l = let m = ltb-false k end32 h in lt-leb (suc k) n (omega arith)
