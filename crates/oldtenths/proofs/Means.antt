-- What `resid` tells by the old tenths and by those of request [6]: the mean and the largest are the same or one more, of
-- any taps that have distances. Assumes nothing.
use Rattle.std.specs.Prelude.{Option, Some, None, Result, Ok, Err}
use Prim.Native.Nat.{ℕ, suc, ◌+◌, ◌/◌, ◌^◌, ◌≤◌, ◌<◌}
use mathlib.Core.Path.{◌≡◌, refl, subst}
use mathlib.Core.Bool.{Bool, true, false}
use mathlib.Core.List.{List, [], ◌∷◌, map}
use native.Mathlib.Nat.{le_trans, div-mul-le_self, le-div_iff_mul-le, add-div_right, zero-lt-suc}
use native.Mathlib.Omega.{arith}
use lib.ListN.{length, length-map}
use Rattle.panel.proofs.Laws.{and_left, and_right}
use Rattle.panel.specs.Tests.{when◌then◌else◌, ◌<?◌}
use Rattle.panel.specs.declared.refusals.Refusal.{Refusal}
use Rattle.calmap.proofs.Bounds.{squared-reach}
use Rattle.calmap.specs.Distances.{squared, gap_of, tenths_of}
use Rattle.calmap.specs.Maps.{apply_of}
use Rattle.calmap.specs.Resids.{far_off, miss_of, Misses, known, wide, besides, misses_of, sum_of, mean_of, largest, spread, spread_by, resid_by, resid_of}
use Rattle.calmap.specs.Sizes.{longest}
use Rattle.calmap.specs.Units.{in_sixteenths, ◌⊟◌, share_of}
use Rattle.calmap.specs.declared.residuals.Spread.{Spread}
use Rattle.calmap.specs.declared.units.Aim.{Aim}
use Rattle.calmap.specs.declared.units.Cal.{Cal}
use Rattle.calmap.specs.declared.units.Tap.{Tap}
use Rattle.calmap.specs.declared.units.Tenths.{Tenths}
use Rattle.oldtenths.specs.OldTenths.{old_tenths_of}
use Rattle.oldtenths.proofs.Laws.{old-at-most, one-more-at-most}
use Rattle.calmap.specs.declared.mapping.Spot.{Spot}

-- the same, or one more
pub record OneMore (old new : Tenths) : Type 0 where
  pub least : old.0 ≤ new.0
  pub most : new.0 ≤ old.0 + 1

-- ---- squared distances of 64 bits, as those of taps are

data Reached : List ℕ → Type 0 where
  none : Reached []
  more : {d2 : ℕ} {ds : List ℕ} → d2 < 2 ^ 64 → Reached ds → Reached (d2 ∷ ds)

gap-reached : (b : Bool) (n d2 : ℕ) → (b ≡ true → n ≤ 2 ^ 63) → when◌then◌else◌ b (Some n) None ≡ Some d2 → d2 < 2 ^ 64
unfolding when◌then◌else◌
gap-reached true n d2 f e = let q : n ≡ d2 = cc in subst (λ (k : ℕ). k < 2 ^ 64) q (omega (arith, f refl))
gap-reached false n d2 f e = let z : ◌≡◌ {A = ℕ} 0 1 = cc in absurd (omega arith)

far-reached : (a : Result Spot Refusal) (t : Tap) (d2 : ℕ) → far_off a t ≡ Some d2 → d2 < 2 ^ 64
unfolding gap_of
far-reached (Ok s) t d2 e =
    let dx = s.0 ⊟ in_sixteenths t.x in
    let dy = s.1 ⊟ in_sixteenths t.y in
    gap-reached _ (squared dx dy) d2 (λ h. squared-reach dx dy (and_left _ _ h) (and_right _ _ h)) e
far-reached (Err r) t d2 e = let z : ◌≡◌ {A = ℕ} 0 1 = cc in absurd (omega arith)

miss-reached : (c : Cal) (p : Aim) (d2 : ℕ) → miss_of c p ≡ Some d2 → d2 < 2 ^ 64
unfolding miss_of
miss-reached c p d2 e = far-reached (apply_of c p.raw.x p.raw.y) p.tgt d2 e

abbrev AllReached : Misses → Type 0
AllReached (known ds) = Reached ds
AllReached wide = Unit {0}

one-reached : (g : Option ℕ) (ms : Misses) → ((d2 : ℕ) → g ≡ Some d2 → d2 < 2 ^ 64) → AllReached ms → AllReached (besides g ms)
one-reached (Some d2) (known ds) f r = more (f d2 refl) r
one-reached (Some d2) wide f r = tt
one-reached None ms f r = tt

misses-reached : (c : Cal) (ps : List Aim) → AllReached (misses_of c ps)
unfolding misses_of
misses-reached c [] = none
misses-reached c (p ∷ ps) = one-reached (miss_of c p) (misses_of c ps) (miss-reached c p) (misses-reached c ps)

-- ---- their tenths, the largest, and the mean

told : (d2 : ℕ) → d2 < 2 ^ 64 → OneMore (old_tenths_of d2) (tenths_of d2)
told d2 h = record { least = old-at-most d2 h; most = one-more-at-most d2 h }

largest-told : {ds : List ℕ} → Reached ds → OneMore (largest (map old_tenths_of ds)) (largest (map tenths_of ds))
unfolding largest
largest-told none = record { least = omega arith; most = omega arith }
largest-told (more {d2} {ds} h r) =
    let t = told d2 h in
    let l = largest-told r in
    record { least = omega (arith, t.least, l.least); most = omega (arith, t.most, l.most) }

sum_told : {ds : List ℕ} → Reached ds → ((sum_of (map old_tenths_of ds)).0 ≤ (sum_of (map tenths_of ds)).0) × ((sum_of (map tenths_of ds)).0 ≤ (sum_of (map old_tenths_of ds)).0 + length ds)
unfolding sum_of
sum_told none = (omega arith, omega arith)
sum_told (more {d2} {ds} h r) =
    let t = told d2 h in
    let l = sum_told r in
    (omega (arith, t.least, l.0), omega (arith, t.most, l.1))

-- n of them share a sum
shared-least : (a b n : ℕ) → 0 < n → a ≤ b → a / n ≤ b / n
shared-least a b n h l = (le-div_iff_mul-le h).1 (le_trans (div-mul-le_self a n) l)

shared-told : (a b : Tenths) (n : ℕ) → 0 < n → a.0 ≤ b.0 → b.0 ≤ a.0 + n → OneMore (share_of a n) (share_of b n)
shared-told a b n h l m =
    record { least = shared-least a.0 b.0 n h l; most = subst (λ (k : ℕ). b.0 / n ≤ k) (add-div_right a.0 h) (shared-least b.0 (a.0 + n) n h m) }

mean-told : {ds : List ℕ} → Reached ds → OneMore (mean_of (map old_tenths_of ds)) (mean_of (map tenths_of ds))
unfolding mean_of
mean-told none = record { least = omega arith; most = omega arith }
mean-told (more {d2} {ds} h r) =
    let l = sum_told (more {d2 = d2} {ds = ds} h r) in
    rw (length-map ds old_tenths_of, length-map ds tenths_of) (shared-told _ _ (suc (length ds)) (zero-lt-suc (length ds)) l.0 l.1)

-- ---- so of `resid`

never : {X : Type 0} (r : Refusal) (s : Spread) → Err r ≡ Ok s → X
never r s e = let z : ◌≡◌ {A = ℕ} 0 1 = cc in absurd (omega arith)

apart : (long : Bool) (ms : Misses) (s t : Spread) → AllReached ms
    → when◌then◌else◌ long (Err Refusal.Long) (spread_by old_tenths_of ms) ≡ Ok s → when◌then◌else◌ long (Err Refusal.Long) (spread_by tenths_of ms) ≡ Ok t
    → OneMore s.mean t.mean × OneMore s.max t.max
unfolding when◌then◌else◌
apart true ms s t r e f = never Refusal.Long s e
apart false (known ds) s t r e f =
    let old = map old_tenths_of ds in
    let new = map tenths_of ds in
    let p : spread (mean_of old) (largest old) ≡ s = cc in
    let q : spread (mean_of new) (largest new) ≡ t = cc in
    subst (λ (x : Spread). OneMore x.mean t.mean × OneMore x.max t.max) p (
    subst (λ (y : Spread). OneMore (mean_of old) y.mean × OneMore (largest old) y.max) q (mean-told r, largest-told r))
apart false wide s t r e f = never Refusal.Wide s e

pub resid-apart : (c : Cal) (ps : List Aim) (s t : Spread) → resid_by old_tenths_of c ps ≡ Ok s → resid_of c ps ≡ Ok t → OneMore s.mean t.mean × OneMore s.max t.max
unfolding resid_by
resid-apart c ps s t e f = apart (longest <? length ps) (misses_of c ps) s t (misses-reached c ps) e f
