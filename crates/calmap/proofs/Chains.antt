-- Sums that stop where one of them is not in i32: `narrow_of` and `plus_of` step by step make the rules of specs/.
-- Assumes nothing.
use Rattle.std.specs.Prelude.{Option, Some, None, Ok, Err, is_some}
use Prim.Native.Nat.{ℕ, ◌-◌}
use mathlib.Core.Path.{◌≡◌, refl, sym, ap, ◌∙◌}
use mathlib.Core.Bool.{Bool, true, false}
use native.Mathlib.Omega.{arith}
use lib.IntN.{ℤ, pos}
use mir.Syntax.{w32}
use mir.Val.{to_z, of_z, SFits}
use Rattle.std.specs.Option.{ok_or}
use Rattle.panel.proofs.Follow.{if-true, if-false}
use Rattle.panel.specs.Sizes.{width, height}
use Rattle.panel.specs.Tests.{when◌then◌else◌, ◌and◌}
use Rattle.panel.specs.declared.points.Point.{Point}
use Rattle.panel.specs.declared.refusals.Refusal.{Refusal}
use Rattle.calmap.specs.Maps.{line, line_fits, apply_of}
use Rattle.calmap.specs.Screening.{nudge, nudge_fits, moved, screen_of}
use Rattle.calmap.specs.Sizes.{half}
use Rattle.calmap.specs.Units.{whole_steps, ◌·◌, ◌⊞◌, steps_fit, sixteenths_fit}
use Rattle.calmap.specs.Wide.{in32}
use Rattle.calmap.proofs.Signed.{plain, in32-yes, in32-no}
use Rattle.calmap.specs.code.Checked.{narrow_of, across_of, plus_of, line_of, nudge_of, both_fit, map_fits, spot_of, placed_of}
use Rattle.calmap.specs.declared.units.Cal.{Cal}
use Rattle.calmap.specs.declared.units.Q16.{Q16}
use Rattle.calmap.specs.declared.units.Sixteenths.{Sixteenths}

-- What a checked operation of the library answers: z as the machine has it is e, of some unit.

module _ {A : Type 0} (unit : ℤ → A) {z e : ℤ} (is : z ≡ e) where
  pub checked-some : {v : ℤ} → SFits w32 z × (v ≡ z) → Some (unit (to_z w32 (of_z w32 v))) ≡ when◌then◌else◌ (in32 e) (Some (unit e)) None
  checked-some {v} h =
      ap (λ (x : ℤ). Some (unit x)) (ap (λ (x : ℤ). to_z w32 (of_z w32 x)) h.1 ∙ plain h.0 ∙ is) ∙ sym (if-true _ _ _ (ap in32 (sym is) ∙ in32-yes z h.0.sfits))

  pub checked-none : (SFits w32 z → ⊥) → None ≡ when◌then◌else◌ (in32 e) (Some (unit e)) None
  checked-none f = sym (if-false _ _ _ (ap in32 (sym is) ∙ in32-no z f))

-- What is refused where there is no value.
pub refused-as : {A : Type 0} {o : Option A} {w e : Refusal} → Err e ≡ ok_or o w → (o ≡ None) × (e ≡ w)
refused-as {o = None} h = (refl, cc)
refused-as {o = Some x} h = (cc, cc)

-- q, if all that came before it and q itself are in i32
abbrev held : Bool → Q16 → Option Q16
held b q = when◌then◌else◌ b (Some q) None

narrow-held : (q : Q16) → narrow_of q ≡ held (steps_fit q) q
unfolding narrow_of
narrow-held q = refl

held-told : (b : Bool) (q : Q16) → is_some (held b q) ≡ b
unfolding when◌then◌else◌
held-told true q = refl
held-told false q = refl

-- Differences: where there is one, it is s itself.

abbrev kept : Bool → Sixteenths → Option Sixteenths
kept b s = when◌then◌else◌ b (Some s) None

kept-fits : (b : Bool) (s t : Sixteenths) → kept b s ≡ Some t → b ≡ true
unfolding when◌then◌else◌
kept-fits true s t e = refl
kept-fits false s t e = cc

kept-is : (b : Bool) (s t : Sixteenths) → kept b s ≡ Some t → s ≡ t
unfolding when◌then◌else◌
kept-is true s t e = cc
kept-is false s t e = let n : ◌≡◌ {A = ℕ} 0 1 = cc in absurd (omega arith)

kept_leaves : (b : Bool) (s : Sixteenths) → kept b s ≡ None → b ≡ false
unfolding when◌then◌else◌
kept_leaves true s e = cc
kept_leaves false s e = refl

pub across-fits : (s t : Sixteenths) → across_of s ≡ Some t → sixteenths_fit s ≡ true
unfolding across_of
across-fits s t e = kept-fits (sixteenths_fit s) s t e

pub across-is : (s t : Sixteenths) → across_of s ≡ Some t → s ≡ t
unfolding across_of
across-is s t e = kept-is (sixteenths_fit s) s t e

pub across-leaves : (s : Sixteenths) → across_of s ≡ None → sixteenths_fit s ≡ false
unfolding across_of
across-leaves s e = kept_leaves (sixteenths_fit s) s e

-- Sums.

plus-held : (a b : Bool) (y z : Q16) → plus_of (held a y) (held b z) ≡ held (◌and◌ a (◌and◌ b (steps_fit (y ⊞ z)))) (y ⊞ z)
unfolding plus_of narrow_of when◌then◌else◌ ◌and◌
plus-held true true y z = refl
plus-held true false y z = refl
plus-held false b y z = refl

plus-in : (a : Bool) (y z : Q16) → plus_of (held a y) (Some z) ≡ held (◌and◌ a (steps_fit (y ⊞ z))) (y ⊞ z)
unfolding plus_of narrow_of when◌then◌else◌ ◌and◌
plus-in true y z = refl
plus-in false y z = refl

and_assoc : (a b c : Bool) → ◌and◌ (◌and◌ a b) c ≡ ◌and◌ a (◌and◌ b c)
unfolding ◌and◌
and_assoc true b c = refl
and_assoc false b c = refl

pub line-chain : (v : ℤ) (p q k : Q16) (x y : ℤ) → plus_of (plus_of (plus_of (narrow_of (whole_steps v)) (narrow_of (p · x))) (narrow_of (q · y))) (Some k) ≡ line_of v p q k x y
unfolding line_of line_fits line
line-chain v p q k x y = simp (narrow-held, plus-held, plus-in, and_assoc)

pub nudge-chain : (p q k : Q16) (x y : ℤ) → plus_of (plus_of (plus_of (narrow_of (p · x)) (narrow_of (q · y))) (Some k)) (Some half) ≡ nudge_of p q k x y
unfolding nudge_of nudge_fits nudge
nudge-chain p q k x y = simp (narrow-held, plus-held, plus-in, and_assoc)

-- whether there is a number
pub line-told : (v : ℤ) (p q k : Q16) (x y : ℤ) → is_some (line_of v p q k x y) ≡ line_fits v p q k x y
unfolding line_of
line-told v p q k x y = held-told _ _

pub applied : (c : Cal) (x y : ℤ) → map_fits c x y ≡ true → Ok (spot_of c x y) ≡ apply_of c x y
unfolding map_fits both_fit spot_of apply_of
applied c x y h = sym (if-true _ _ _ h)

pub not-applied : (c : Cal) (x y : ℤ) → map_fits c x y ≡ false → Err Refusal.Wide ≡ apply_of c x y
unfolding map_fits both_fit apply_of
not-applied c x y h = sym (if-false _ _ _ h)

placed-held : (p : Point) (a b : Bool) (u v : Q16) → placed_of p (held a u) (held b v) ≡ when◌then◌else◌ (◌and◌ a b) (Ok (record { x = moved (width - 1) p.x u; y = moved (height - 1) p.y v })) (Err Refusal.Wide)
unfolding placed_of when◌then◌else◌ ◌and◌
placed-held p true true u v = refl
placed-held p true false u v = refl
placed-held p false b u v = refl

pub screen-chain : (c : Cal) (p : Point) → placed_of p (nudge_of c.c0 c.c1 c.c2 (pos p.x) (pos p.y)) (nudge_of c.c3 c.c4 c.c5 (pos p.x) (pos p.y)) ≡ screen_of c p
unfolding nudge_of screen_of
screen-chain c p = placed-held p _ _ _ _
