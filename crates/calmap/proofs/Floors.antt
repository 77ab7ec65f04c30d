-- The signed shift is division rounded down: with q for `down places z` and m for 2 ^ places, m·q ≤ z < m·(q + 1). How
-- large what is left is; and a number held to the panel. Assumes nothing.
use Prim.Native.Nat.{ℕ, zero, suc, ◌+◌, ◌*◌, ◌/◌, ◌^◌, ◌≤◌, ◌<◌}
use mathlib.Core.Path.{◌≡◌, refl, sym, subst, ap, ◌∙◌}
use native.Mathlib.Nat.{div-add-mod', mod-lt, mul_comm, suc-mul, not-suc-le-zero, div-mul-le_self}
use native.Mathlib.Numerals.{add-one}
use native.Mathlib.Omega.{arith}
use lib.Dec.{T, lt→ltb, le→leb}
use lib.IntN.{ℤ, pos, negsuc, neg_ℤ, ◌*ℤ◌, ◌+ℤ◌, +ℤ_one}
use lib.Pow.{pow_pos}
use lib.Signed.{mag, shr_z, mag_shr, ◌≤ℤ◌, ◌<ℤ◌, le_z, lt_z}
use mir.Syntax.{w32}
use mir.Val.{to_z, of_z, SFits}
use mir.ValLaws.{to_z-of_z, sfits_le}
use Rattle.calmap.specs.Sizes.{end32, sixteen}
use Rattle.calmap.specs.Units.{down_sixteen}
use Rattle.calmap.specs.Wide.{floor_div, down}
use Rattle.calmap.specs.declared.units.Q16.{Q16}
use Rattle.calmap.proofs.Signed.{mag-add}

down-shr : (z : ℤ) (places : ℕ) → shr_z z (2 ^ places) ≡ down places z
unfolding down
down-shr (pos n) places = refl
down-shr (negsuc n) places = refl

-- what the machine gives for t >> places
pub shift_is : (t : ℤ) (places : ℕ) → SFits w32 t → to_z w32 (of_z w32 (shr_z (to_z w32 (of_z w32 t)) (2 ^ places))) ≡ down places t
shift_is t places h =
    ap (λ (z : ℤ). to_z w32 (of_z w32 (shr_z z (2 ^ places)))) (to_z-of_z w32 t h)
    ∙ to_z-of_z w32 (shr_z t (2 ^ places)) (sfits_le (mag_shr t (2 ^ places)) h) ∙ down-shr t places

neg-le : (r n : ℕ) → n < r → T (le_z (neg_ℤ (pos r)) (negsuc n))
neg-le zero n h = absurd (not-suc-le-zero h)
neg-le (suc r) n h = le→leb n r (omega arith)

lt-neg : (n r : ℕ) → r ≤ n → T (lt_z (negsuc n) (neg_ℤ (pos r)))
lt-neg n zero h = tt
lt-neg n (suc r) h = lt→ltb r n h

floor-below : (z : ℤ) (m : ℕ) → 0 < m → (pos m *ℤ floor_div z m) ≤ℤ z
floor-below (pos n) m h = record { le = le→leb (m * (n / m)) n (omega (arith, div-add-mod' n m, mul_comm m (n / m))) }
floor-below (negsuc n) m h =
    record { le = neg-le (m * suc (n / m)) n (omega (arith, div-add-mod' n m, mod-lt n h, mul_comm m (suc (n / m)), suc-mul (n / m) m)) }

floor-above : (z : ℤ) (m : ℕ) → 0 < m → z <ℤ (pos m *ℤ (floor_div z m +ℤ pos 1))
floor-above (pos n) m h =
    record { lt = lt→ltb n (m * (n / m + 1)) (omega (arith, div-add-mod' n m, mod-lt n h, mul_comm m (n / m + 1), suc-mul (n / m) m, ap (λ (k : ℕ). k * m) (add-one (n / m)))) }
floor-above (negsuc n) m h = record { lt = subst (λ (z : ℤ). T (lt_z (negsuc n) (pos m *ℤ z))) (sym (less_one (n / m))) (low (n / m) (div-mul-le_self n m)) }
  where
    less_one : (k : ℕ) → negsuc k +ℤ pos 1 ≡ neg_ℤ (pos k)
    less_one zero = refl
    less_one (suc k) = +ℤ_one (negsuc (suc k))

    low : (q : ℕ) → q * m ≤ n → T (lt_z (negsuc n) (pos m *ℤ neg_ℤ (pos q)))
    low zero l = tt
    low (suc k) l = lt-neg n (m * suc k) (omega (arith, mul_comm m (suc k)))

-- "toward minus infinity": m·q ≤ z < m·(q + 1)
pub down-below : (places : ℕ) (z : ℤ) → (pos (2 ^ places) *ℤ down places z) ≤ℤ z
unfolding down
down-below places z = floor-below z (2 ^ places) (pow_pos places)

pub down-above : (places : ℕ) (z : ℤ) → z <ℤ (pos (2 ^ places) *ℤ (down places z +ℤ pos 1))
unfolding down
down-above places z = floor-above z (2 ^ places) (pow_pos places)

pub down-size : (places : ℕ) (z : ℤ) → mag (down places z) ≡ mag z / 2 ^ places
unfolding down
down-size places (pos n) = refl
down-size places (negsuc n) = refl

-- what `screen` adds to a coordinate, and the sum
pub moved-fits : (v : ℕ) (s : Q16) → v < 65536 → mag s.0 < end32 → mag (pos v +ℤ down_sixteen s) < end32
moved-fits v s hv hs = omega (arith, mag-add (pos v) (down_sixteen s), down-size sixteen s.0)
