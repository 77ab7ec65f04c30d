-- `calmap::gaps::gap_between` meets its contract. Assumes nothing.
use Rattle.std.specs.Prelude.{Some}
use Prim.Native.Nat.{◌+◌, ◌*◌}
use mathlib.Core.Path.{sym, ap, ◌∙◌}
use lib.IntN.{ℤ, nat_abs}
use mir.Syntax.{w32}
use mir.Val.{SFits}
use borrow.Author.Rules.{rules}
use Rattle.panel.proofs.Follow.{if-true, if-false, and-true, and-false}
use Rattle.calmap.specs.Distances.{squared, gap_of}
use Rattle.calmap.specs.declared.units.Sixteenths.{Sixteenths}
use Rattle.calmap.proofs.Chains.{across-fits, across-is, across-leaves}
use Rattle.calmap.proofs.Signed.{plain}
use Rattle.calmap.proofs.gaps.gap_between.Goals as goal

pub returns-in_err-dx : goal.returns-in_err-dx
unfolding gap_of
returns-in_err-dx c = rw c.from_residual.ensures (sym (if-false _ _ _ (and-false _ _ (across-leaves _ (sym c.minus.ensures ∙ c.in_err-dx.was)))))

pub returns-in_err-dy : goal.returns-in_err-dy
unfolding gap_of
returns-in_err-dy c =
    let x = across-fits _ _ (sym c.minus.ensures ∙ c.in_ok-dx.was) in
    let y = across-leaves _ (sym c.minus-2.ensures ∙ c.in_err-dy.was) in
    rw c.from_residual-in_err-dy.ensures (sym (if-false _ _ _ (and-true _ _ x ∙ y)))

pub returns : goal.returns
unfolding gap_of squared
returns c =
    let nx = sym c.minus.ensures ∙ c.in_ok-dx.was in
    let ny = sym c.minus-2.ensures ∙ c.in_ok-dy.was in
    let fx : SFits w32 c.in_ok-dx.dx.0 = search rules in
    let fy : SFits w32 c.in_ok-dy.dy.0 = search rules in
    let eu = plain fx ∙ ap (λ (s : Sixteenths). s.0) (sym (across-is _ _ nx)) in
    let ev = plain fy ∙ ap (λ (s : Sixteenths). s.0) (sym (across-is _ _ ny)) in
    let sx = c.square.ensures.0 ∙ ap (λ (z : ℤ). nat_abs z * nat_abs z) eu in
    let sy = c.square-2.ensures.0 ∙ ap (λ (z : ℤ). nat_abs z * nat_abs z) ev in
    (λ i. Some (sx i + sy i)) ∙ sym (if-true _ _ _ (and-true _ _ (across-fits _ _ nx) ∙ across-fits _ _ ny))
