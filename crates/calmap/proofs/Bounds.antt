-- How large the answers are: where a point lands that `apply16` answers, and how far a tap then is from its target. So
-- 64 distances have a sum in u32 (`tenths-of-miss` of Telling.antt), and no sum of `resid` is WIDE. Assumes nothing.
use Rattle.std.specs.Prelude.{Some, None, Ok, Err}
use Prim.Native.Nat.{ℕ, ◌^◌, ◌≤◌, ◌<◌}
use mathlib.Core.Path.{◌≡◌, refl, ◌∙◌}
use mathlib.Core.Bool.{Bool, true, false}
use native.Mathlib.Nat.{mul-le-mul}
use native.Mathlib.Omega.{arith}
use lib.IntN.{ℤ, pos, ◌*ℤ◌}
use lib.Signed.{mag, nat_abs-le}
use borrow.Author.Tests.{ltb-true}
use Rattle.panel.proofs.Follow.{if-true, and-true}
use Rattle.panel.proofs.Laws.{and_left, and_right}
use Rattle.panel.specs.Tests.{when◌then◌else◌}
use Rattle.panel.specs.declared.refusals.Refusal.TheVariants as Refusal
use Rattle.calmap.specs.Distances.{squared, gap_of}
use Rattle.calmap.specs.Maps.{line, line_fits, apply_of}
use Rattle.calmap.specs.Sizes.{end32, sixteenths_in, twelve}
use Rattle.calmap.specs.Units.{down_twelve, in_sixteenths, ◌⊟◌, sixteenths_fit}
use Rattle.calmap.specs.Wide.{in32}
use Rattle.calmap.specs.code.Checked.{farthest, square_in}
use Rattle.calmap.specs.declared.mapping.Spot.{Spot}
use Rattle.calmap.specs.declared.units.Cal.{Cal}
use Rattle.calmap.specs.declared.units.Q16.{Q16}
use Rattle.calmap.specs.declared.units.Sixteenths.{Sixteenths}
use Rattle.calmap.proofs.Floors.{down-size}
use Rattle.calmap.proofs.Signed.{mag-sub, mag-mul, in32-yes}

-- Where a point lands: 19 bits each way.

line-size : (v : ℤ) (p q k : Q16) (x y : ℤ) → line_fits v p q k x y ≡ true → mag (down_twelve (line v p q k x y)).0 < 2 ^ 19
unfolding line_fits in32
line-size v p q k x y h =
    let l : mag (line v p q k x y).0 < end32 = ltb-true _ _ (and_right _ _ (and_right _ _ (and_right _ _ (and_right _ _ (and_right _ _ h))))) in
    omega (arith, down-size twelve (line v p q k x y).0)

pub record Lands (s : Spot) : Type 0 where
  pub x : mag s.0.0 < 2 ^ 19
  pub y : mag s.1.0 < 2 ^ 19

landed : (b : Bool) (s t : Spot) → (b ≡ true → Lands s) → when◌then◌else◌ b (Ok s) (Err Refusal.Wide) ≡ Ok t → Lands t
unfolding when◌then◌else◌
landed true s t f e = let q : s ≡ t = cc in rw q at (f refl)
landed false s t f e = let z : ◌≡◌ {A = ℕ} 0 1 = cc in absurd (omega arith)

pub applied-size : (c : Cal) (x y : ℤ) (s : Spot) → apply_of c x y ≡ Ok s → Lands s
unfolding apply_of
applied-size c x y s e = landed _ _ s (λ h. record { x = line-size _ _ _ _ _ _ (and_left _ _ (and_right _ _ (and_right _ _ h))); y = line-size _ _ _ _ _ _ (and_right _ _ (and_right _ _ (and_right _ _ h))) }) e

-- How far that is.

squared-at-most : (dx dy : Sixteenths) → mag dx.0 < 1081346 → mag dy.0 < 1081346 → squared dx dy ≤ farthest
unfolding squared
squared-at-most dx dy hx hy =
    let x = nat_abs-le dx.0 hx in
    let y = nat_abs-le dy.0 hy in
    omega (arith, mul-le-mul x x, mul-le-mul y y)

-- of two differences in i32 it is at most 2^63
pub squared-reach : (dx dy : Sixteenths) → sixteenths_fit dx ≡ true → sixteenths_fit dy ≡ true → squared dx dy ≤ 2 ^ 63
unfolding squared in32
squared-reach dx dy hx hy =
    let x = nat_abs-le dx.0 (ltb-true _ _ hx) in
    let y = nat_abs-le dy.0 (ltb-true _ _ hy) in
    omega (arith, mul-le-mul x x, mul-le-mul y y)

gap-at-most : (b : Bool) (n k : ℕ) → n ≤ k → square_in (when◌then◌else◌ b (Some n) None) ≤ k
unfolding when◌then◌else◌
gap-at-most true n k h = h
gap-at-most false n k h = omega arith

module _ (a : Sixteenths) (t : ℤ) (ha : mag a.0 < 2 ^ 19) (ht : mag t < 2 ^ 15) where
  pub apart-size : mag (a ⊟ in_sixteenths t).0 < 1081346
  apart-size = omega (arith, mag-sub a.0 (t *ℤ pos sixteenths_in), mag-mul t (pos sixteenths_in))

  -- so a landed tap's difference from its target, and a target's shift, never leave i32
  pub apart-in32 : sixteenths_fit (a ⊟ in_sixteenths t) ≡ true
  apart-in32 = let l = apart-size in in32-yes (a ⊟ in_sixteenths t).0 (omega arith)

-- and the WIDE of `resid` is always that of `apply16`
pub miss-answered : (s : Spot) (x y : ℤ) → Lands s → mag x < 2 ^ 15 → mag y < 2 ^ 15
    → gap_of s.0 s.1 (in_sixteenths x) (in_sixteenths y) ≡ Some (squared (s.0 ⊟ in_sixteenths x) (s.1 ⊟ in_sixteenths y))
unfolding gap_of
miss-answered s x y h hx hy = if-true _ _ _ (and-true _ _ (apart-in32 s.0 x h.x hx) ∙ apart-in32 s.1 y h.y hy)

pub miss-at-most : (s : Spot) (x y : ℤ) → Lands s → mag x < 2 ^ 15 → mag y < 2 ^ 15 → square_in (gap_of s.0 s.1 (in_sixteenths x) (in_sixteenths y)) ≤ farthest
unfolding gap_of
miss-at-most s x y h hx hy =
    let far = squared-at-most (s.0 ⊟ in_sixteenths x) (s.1 ⊟ in_sixteenths y) (apart-size s.0 x h.x hx) (apart-size s.1 y h.y hy) in
    gap-at-most _ (squared (s.0 ⊟ in_sixteenths x) (s.1 ⊟ in_sixteenths y)) farthest far
