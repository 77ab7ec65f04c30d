-- `calmap::residuals::miss` meets its contract. Assumes nothing.
use Rattle.std.specs.Prelude.{ℕ, Option, Some, None, Result, Ok, Err}
use Rattle.std.specs.Result.{result_ok}
use Prim.Native.Nat.{◌≤◌}
use mathlib.Core.Path.{◌≡◌, refl, sym, ap, subst, ◌∙◌}
use native.Mathlib.Omega.{arith}
use lib.IntN.{ℤ}
use mir.Syntax.{w16, w32}
use mir.Val.{SFits}
use mir.ValLaws.{to_z-of_z}
use borrow.Author.Rules.{rules}
use Rattle.calmap.specs.Distances.{gap_of}
use Rattle.calmap.specs.Maps.{apply_of}
use Rattle.panel.specs.declared.refusals.Refusal.{Refusal}
use Rattle.calmap.specs.Resids.{far_off, miss_of}
use Rattle.calmap.specs.declared.mapping.Spot.{Spot}
use Rattle.calmap.specs.declared.units.Tap.{Tap}
use Rattle.calmap.specs.Units.{in_sixteenths}
use Rattle.calmap.specs.code.Checked.{farthest, square_in}
use Rattle.calmap.proofs.Bounds.{applied-size, miss-at-most}
use Rattle.calmap.proofs.Signed.{plain}
use Rattle.calmap.proofs.residuals.miss.Goals as goal

-- what `ok` keeps of an answer
none-left : (r : Result Spot Refusal) (t : Tap) → None ≡ result_ok r → None ≡ far_off r t
none-left (Ok s) t e = cc
none-left (Err r) t e = refl

left : (r : Result Spot Refusal) (s : Spot) → Some s ≡ result_ok r → r ≡ Ok s
left (Ok p) s e = cc
left (Err r) s e = cc

pub returns-in_err-s : goal.returns-in_err-s
unfolding miss_of
returns-in_err-s c =
    let hx : SFits w16 c.args.p.raw.x = search rules in
    let hy : SFits w16 c.args.p.raw.y = search rules in
    let fx : SFits w32 c.from.result = search rules in
    let fy : SFits w32 c.from-2.result = search rules in
    let ex = plain fx ∙ c.from.ensures ∙ to_z-of_z w16 _ hx in
    let ey = plain fy ∙ c.from-2.ensures ∙ to_z-of_z w16 _ hy in
    let asked = c.apply16.ensures ∙ (λ i. apply_of c.args.c (ex i) (ey i)) in
    let none = c.in_err-s.ensures.value ∙ ap (λ (r : Result Spot Refusal). result_ok r) asked in
    rw c.from_residual.ensures (none-left _ c.args.p.tgt none, omega arith)

pub returns : goal.returns
unfolding miss_of
returns c =
    let s = c.args in
    let hx : SFits w16 s.p.raw.x = search rules in
    let hy : SFits w16 s.p.raw.y = search rules in
    let gx : SFits w16 s.p.tgt.x = search rules in
    let gy : SFits w16 s.p.tgt.y = search rules in
    let fx : SFits w32 c.from.result = search rules in
    let fy : SFits w32 c.from-2.result = search rules in
    let ax = plain fx ∙ c.from.ensures ∙ to_z-of_z w16 _ hx in
    let ay = plain fy ∙ c.from-2.ensures ∙ to_z-of_z w16 _ hy in
    let asked = c.apply16.ensures ∙ (λ i. apply_of s.c (ax i) (ay i)) in
    let p = c.in_ok-s.s in
    let at = left _ p (c.in_ok-s.ensures.value ∙ ap (λ (r : Result Spot Refusal). result_ok r) asked) in
    let ex = c.from-3.ensures ∙ ap (λ (z : ℤ). in_sixteenths z) (to_z-of_z w16 _ gx) in
    let ey = c.from-4.ensures ∙ ap (λ (z : ℤ). in_sixteenths z) (to_z-of_z w16 _ gy) in
    let e = c.gap_between.ensures ∙ (λ i. gap_of p.0 p.1 (ex i) (ey i)) in
    let lands = applied-size s.c s.p.raw.x s.p.raw.y p at in
    (rw at e, subst (λ (g : Option ℕ). square_in g ≤ farthest) (sym e) (miss-at-most p s.p.tgt.x s.p.tgt.y lands gx.sfits gy.sfits))
