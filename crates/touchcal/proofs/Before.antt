-- Without a calibration no tap is WIDE: coordinates are i16, and each sum of `apply16` is then 65536 times one of them. So what a fit tells
-- of the residuals before it is always there, and a fit is WIDE by the calibration that it found. Assumes nothing.
use Rattle.std.specs.Prelude.{Some, Ok}
use Rattle.std.proofs.Common.{◌≡◌, ℕ, zero, suc, ◌*◌, ◌^◌, ◌<◌, ◌≤◌, true, ltb, List, [], ◌∷◌, ℤ, pos, negsuc, ◌*ℤ◌, neg_ℤ, refl, ap, ◌∙◌, arith, lt-ltb}
use lib.IntN.{+ℤ_idr, zero-*ℤ}
use lib.Signed.{mag}
use Rattle.panel.specs.Tests.{◌and◌}
use Rattle.panel.proofs.Follow.{if-true, and-true}
use Rattle.calmap.specs.Sizes.{end32, one}
use Rattle.calmap.specs.Wide.{in32, in16}
use Rattle.calmap.specs.Units.{whole_steps}
use Rattle.calmap.specs.Maps.{line, line_fits, apply_of}
use Rattle.calmap.specs.Resids.{far_off, miss_of, Misses, known, misses_of}
use Rattle.calmap.specs.declared.units.Q16.{Q16}
use Rattle.calmap.specs.declared.units.Tap.{Tap}
use Rattle.calmap.specs.declared.units.Aim.{Aim}
use Rattle.calmap.specs.declared.mapping.Spot.{Spot}
use Rattle.calmap.proofs.Bounds.{applied-size, miss-answered}
use Rattle.touchcal.specs.Floats.{identity}

-- a tap of i16, and pairs of them
pub record Small (t : Tap) : Type 0 where
  pub x : mag t.x < 2 ^ 15
  pub y : mag t.y < 2 ^ 15

pub data AllSmall : List Aim → Type 0 where
  none : AllSmall []
  more : {p : Aim} {ps : List Aim} → Small p.raw → Small p.tgt → AllSmall ps → AllSmall (p ∷ ps)

-- ---- where a tap lands

mag-neg : (k b : ℕ) → k ≤ b → 0 < b → mag (neg_ℤ (pos k)) < b
mag-neg zero b h l = l
mag-neg (suc j) b h l = h

times-one : (v : ℤ) → mag v < 2 ^ 15 → mag (v *ℤ pos one) < end32
times-one (pos n) h = omega arith
times-one (negsuc n) h = mag-neg (suc n * one) end32 (omega arith) (omega arith)

abbrev none' : Q16
none' = record { 0 = pos 0 }

line-is : (v x y : ℤ) → line v none' none' none' x y ≡ whole_steps v
unfolding line
line-is v x y = simp (zero-*ℤ, +ℤ_idr)

line-fits : (v x y : ℤ) → mag v < 2 ^ 15 → line_fits v none' none' none' x y ≡ true
unfolding line_fits in32 ◌and◌
line-fits v x y h =
    let e : ltb (mag (v *ℤ pos one)) end32 ≡ true = lt-ltb _ _ (times-one v h) in
    simp (line-is, zero-*ℤ, +ℤ_idr, e)

-- ---- how far from its target

in-i16 : (v : ℤ) → mag v < 2 ^ 15 → in16 v ≡ true
unfolding in16
in-i16 v h = lt-ltb _ _ h

record Landed (t : Tap) : Type 0 where
  pub spot : Spot
  pub is : apply_of identity t.x t.y ≡ Ok spot

landed : (t : Tap) → Small t → Landed t
unfolding apply_of
landed t h =
    let both = and-true _ _ (in-i16 t.x h.x) ∙ and-true _ _ (in-i16 t.y h.y) ∙ and-true _ _ (line-fits t.x t.x t.y h.x) ∙ line-fits t.y t.x t.y h.y in
    record { spot = _; is = if-true _ _ _ both }

record Missed (p : Aim) : Type 0 where
  pub miss : ℕ
  pub is : miss_of identity p ≡ Some miss

missed : (p : Aim) → Small p.raw → Small p.tgt → Missed p
unfolding miss_of
missed p r t =
    let l = landed p.raw r in
    let s = applied-size identity p.raw.x p.raw.y l.spot l.is in
    record { miss = _; is = ap (λ a. far_off a p.tgt) l.is ∙ miss-answered l.spot p.tgt.x p.tgt.y s t.x t.y }

-- ---- so of every list

pub record Known (ms : Misses) : Type 0 where
  pub misses : List ℕ
  pub is : ms ≡ known misses

pub before-known : {ps : List Aim} → AllSmall ps → Known (misses_of identity ps)
unfolding misses_of
before-known none = record { misses = []; is = refl }
before-known (more {p} {ps} r t rest) =
    let here = missed p r t in
    let there = before-known rest in
    record { misses = here.miss ∷ there.misses; is = rw (here.is, there.is) }
