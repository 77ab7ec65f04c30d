-- What q16 cuts is between a half and 2.0e9 in size: s moved by a half, for s between ±2.0e9. Below 0 it is the negative of what it is for -s.
-- Assumes nothing.
use Rattle.std.proofs.Common.{◌≡◌, ℕ, zero, suc, ◌+◌, ◌-◌, ◌*◌, ◌/◌, ◌^◌, ◌<◌, ◌≤◌, min, Bool, true, false, cond, T, ltb, pos, ◌-ℤ◌, neg_ℤ, sym, refl, ap, ◌∙◌, subst, zero-lt-suc, div-lt_iff_lt-mul, arith, ltb→lt, w32, SFits, ltb-false, ltb-true, lt-ltb}
use lib.IntN.{+ℤ_idl}
use lib.Ieee.{Float, nan, inf, fin, Format, binary32, prec, emax, low, up, down, odd, units, round, neg, sum, add, sub, lt, le, to_signed}
use lib.Ieee.Fits.{round_is, down_pos}
use lib.Ieee.Order.{round_mono}
use lib.Ieee.Positive.{between, le→cross}
use Rattle.touchcal.specs.Sizes.{zero32, half32, most32, least32}

-- ---- the sign goes through a rounding
odd-neg : (d : ℕ) (q k l : ℕ) → odd d true q k l ≡ neg (odd d false q k l)
unfolding odd neg
odd-neg d zero k l = refl
odd-neg d (suc q) k l = refl

units-neg : (f : Format) (q k : ℕ) → units f true q k ≡ neg (units f false q k)
unfolding units neg
units-neg f q k = go (ltb (q * 2 ^ k) (2 ^ (low f + suc (emax f))))
  where
    go : (b : Bool) → cond b (odd (suc (prec f)) true q k (low f)) (inf true) ≡ neg (cond b (odd (suc (prec f)) false q k (low f)) (inf false))
    go true = odd-neg (suc (prec f)) q k (low f)
    go false = refl

pub round-neg : (f : Format) (a c : ℕ) → round f true a c ≡ neg (round f false a c)
round-neg f a c = round_is f true a c ∙ units-neg f _ _ ∙ ap neg (sym (round_is f false a c))

-- ---- from a half to 2.0e9
abbrev pub Ends : Float → Type 0
Ends x = T (le half32 x) × T (le x most32)

highest : round binary32 false 2000000001 1 ≡ most32
unfolding round
highest = refl

lowest : round binary32 false 1 2 ≡ half32
unfolding round
lowest = refl

ends : (a c : ℕ) → 0 < c → c ≤ a * 2 → a ≤ 2000000001 * c → Ends (round binary32 false a c)
ends a c C lo hi =
    let x = round binary32 false a c in (
      subst (λ (y : Float). T (le y x)) lowest (round_mono binary32 1 2 a c (zero-lt-suc 1) C (omega arith)),
      subst (λ (y : Float). T (le x y)) highest (round_mono binary32 a c 2000000001 1 C (zero-lt-suc 0) (omega arith)),
    )

-- ---- between the two ends, moved by a half
pub up_ends : (x : Float) → T (lt least32 x) → T (lt x most32) → lt x zero32 ≡ false → Ends (add binary32 x half32)
unfolding lt add sum
up_ends nan h k n = absurd h
up_ends (inf true) h k n = absurd h
up_ends (inf false) h k n = absurd k
up_ends (fin false m e) h k n =
    let l = ltb→lt (m * up e * 1) (2000000000 * down e) k in
    ends (m * up e * 2 + 1 * down e) (down e * 2) (omega (arith, down_pos e)) (omega arith) (omega arith)
up_ends (fin true m e) h k n =
    let z = ltb-false 0 (m * up e * 1 + 0 * down e) n in
    rw (lt-ltb (m * up e * 2) (1 * down e) (omega (arith, down_pos e)))
    (ends (1 * down e - m * up e * 2) (down e * 2) (omega (arith, down_pos e)) (omega arith) (omega arith))

pub down_ends : (x : Float) → T (lt least32 x) → T (lt x most32) → lt x zero32 ≡ true → Ends (add binary32 (neg x) half32)
unfolding lt add sum neg
down_ends nan h k n = absurd h
down_ends (inf true) h k n = absurd h
down_ends (inf false) h k n = absurd k
down_ends (fin false m e) h k n = let l = ltb-true (m * up e * 1) (0 * down e) n in absurd (omega arith)
down_ends (fin true m e) h k n =
    let l = ltb→lt (m * up e * 1) (2000000000 * down e) h in
    ends (m * up e * 2 + 1 * down e) (down e * 2) (omega (arith, down_pos e)) (omega arith) (omega arith)

pub down_is : (x : Float) → T (lt least32 x) → T (lt x most32) → lt x zero32 ≡ true → sub binary32 x half32 ≡ neg (add binary32 (neg x) half32)
unfolding lt sub add sum neg
down_is nan h k n = absurd h
down_is (inf true) h k n = absurd h
down_is (inf false) h k n = absurd k
down_is (fin false m e) h k n = let l = ltb-true (m * up e * 1) (0 * down e) n in absurd (omega arith)
down_is (fin true m e) h k n = round-neg binary32 (m * up e * 2 + 1 * down e) (down e * 2)

-- ---- the cut of a negative
pub cut-neg : (x : Float) → Ends x → to_signed 31 (neg x) ≡ neg_ℤ (to_signed 31 x)
unfolding to_signed neg
cut-neg nan h = absurd (between half32 nan most32 tt tt h.0 h.1)
cut-neg (inf s) h = absurd (between half32 (inf s) most32 tt tt h.0 h.1)
cut-neg (fin true m e) h = absurd (between half32 (fin true m e) most32 tt tt h.0 h.1)
cut-neg (fin false m e) h =
    let x = fin false m e in
    let hi = le→cross x most32 (between half32 x most32 tt tt h.0 h.1) tt h.1 in
    let q = m * up e / down e in
    let small : q < 2000000001 = (div-lt_iff_lt-mul (down_pos e)).1 (omega (arith, down_pos e)) in
    let same : min q 2147483648 ≡ min q 2147483647 = omega arith in
    ap (λ (n : ℕ). neg_ℤ (pos n)) same

-- ---- 0 less a number of 31 digits
pub less-is : (n : ℕ) → pos 0 -ℤ pos n ≡ neg_ℤ (pos n)
less-is n = +ℤ_idl (neg_ℤ (pos n))

neg-fits : (n : ℕ) → SFits w32 (pos n) → SFits w32 (neg_ℤ (pos n))
neg-fits zero h = h
neg-fits (suc n) h = record { sfits = omega (arith, h.sfits) }

pub less-fits : (n : ℕ) → SFits w32 (pos n) → SFits w32 (pos 0 -ℤ pos n)
less-fits n h = subst (SFits w32) (sym (less-is n)) (neg-fits n h)
