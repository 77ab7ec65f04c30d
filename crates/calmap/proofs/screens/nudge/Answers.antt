-- `calmap::screens::nudge` meets its contract: its steps, each where the one before has an answer, are those of
-- `nudge-chain` (Chains). Assumes nothing.
use mathlib.Core.Path.{sym, ap, ◌∙◌}
use lib.IntN.{ℤ}
use Rattle.calmap.specs.Units.{◌·◌}
use Rattle.calmap.specs.code.Checked.{narrow_of, plus_of}
use Rattle.calmap.proofs.Chains.{nudge-chain}
use Rattle.calmap.proofs.Signed.{plain}
use Rattle.calmap.proofs.screens.nudge.Goals as goal

pub returns-in_err-scaled : goal.returns-in_err-scaled
unfolding plus_of
returns-in_err-scaled c =
    let a = c.args in
    let u = ap (λ (z : ℤ). narrow_of (a.p · z)) (sym (plain c.ranges.x)) ∙ sym c.scaled.ensures ∙ c.in_err-scaled.was in
    rw (c.from_residual.ensures, ← nudge-chain a.p a.q a.k a.x a.y, u)

pub returns-in_err-scaled-2 : goal.returns-in_err-scaled-2
unfolding plus_of
returns-in_err-scaled-2 c =
    let a = c.args in
    let u = ap (λ (z : ℤ). narrow_of (a.p · z)) (sym (plain c.ranges.x)) ∙ sym c.scaled.ensures ∙ c.in_ok-scaled.was in
    let v = ap (λ (z : ℤ). narrow_of (a.q · z)) (sym (plain c.ranges.y)) ∙ sym c.scaled-2.ensures ∙ c.in_err-scaled-2.was in
    rw (c.from_residual-in_err-scaled-2.ensures, ← nudge-chain a.p a.q a.k a.x a.y, u, v)

pub returns-in_err-a : goal.returns-in_err-a
unfolding plus_of
returns-in_err-a c =
    let a = c.args in
    let u = ap (λ (z : ℤ). narrow_of (a.p · z)) (sym (plain c.ranges.x)) ∙ sym c.scaled.ensures ∙ c.in_ok-scaled.was in
    let v = ap (λ (z : ℤ). narrow_of (a.q · z)) (sym (plain c.ranges.y)) ∙ sym c.scaled-2.ensures ∙ c.in_ok-scaled-2.was in
    rw (c.from_residual-in_err-a.ensures, ← nudge-chain a.p a.q a.k a.x a.y, u, v, sym c.add.ensures ∙ c.in_err-a.was)

pub returns-in_err-b : goal.returns-in_err-b
unfolding plus_of
returns-in_err-b c =
    let a = c.args in
    let u = ap (λ (z : ℤ). narrow_of (a.p · z)) (sym (plain c.ranges.x)) ∙ sym c.scaled.ensures ∙ c.in_ok-scaled.was in
    let v = ap (λ (z : ℤ). narrow_of (a.q · z)) (sym (plain c.ranges.y)) ∙ sym c.scaled-2.ensures ∙ c.in_ok-scaled-2.was in
    rw (c.from_residual-in_err-b.ensures, ← nudge-chain a.p a.q a.k a.x a.y, u, v, sym c.add.ensures ∙ c.in_ok-a.was, sym c.add-2.ensures ∙ c.in_err-b.was)

pub returns : goal.returns
unfolding plus_of
returns c =
    let a = c.args in
    let u = ap (λ (z : ℤ). narrow_of (a.p · z)) (sym (plain c.ranges.x)) ∙ sym c.scaled.ensures ∙ c.in_ok-scaled.was in
    let v = ap (λ (z : ℤ). narrow_of (a.q · z)) (sym (plain c.ranges.y)) ∙ sym c.scaled-2.ensures ∙ c.in_ok-scaled-2.was in
    rw (← nudge-chain a.p a.q a.k a.x a.y, u, v, sym c.add.ensures ∙ c.in_ok-a.was, sym c.add-2.ensures ∙ c.in_ok-b.was) c.add-3.ensures
