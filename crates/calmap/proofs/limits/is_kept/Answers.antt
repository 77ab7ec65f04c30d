-- `calmap::limits::is_kept` meets its contract. Assumes nothing.
use mathlib.Core.Path.{sym, ◌∙◌}
use mir.Syntax.{w32}
use mir.Val.{SFits}
use borrow.Author.Rules.{rules}
use Rattle.panel.proofs.Follow.{and-true, and-false}
use Rattle.calmap.specs.Checks.{near, stays}
use Rattle.calmap.proofs.Chains.{applied, not-applied}
use Rattle.calmap.proofs.Signed.{plain}
use Rattle.calmap.proofs.limits.is_kept.Goals as goal

pub spot_at-s-requires : goal.spot_at-s-requires
spot_at-s-requires c = sym c.fits.ensures ∙ c.if-fits.true

pub returns-then-is_near : goal.returns-then-is_near
unfolding stays
returns-then-is_near c =
    let fx : SFits w32 c.from-x.result = search rules in
    let fy : SFits w32 c.from-y.result = search rules in
    let px = plain fx ∙ c.from-x.ensures in
    let py = plain fy ∙ c.from-y.ensures in
    let asked = simp (px, py) at c.fits.ensures in
    let lands = simp (px, py) at c.spot_at-s.ensures in
    let here = sym (applied _ _ _ (sym asked ∙ c.if-fits.true)) in
    let near-x = (λ i. near (sym lands i).0 c.args.p.x) ∙ sym c.is_near.ensures ∙ c.if-is_near.true in
    rw here (c.is_near-then-is_near.ensures ∙ (λ i. near (lands i).1 c.args.p.y) ∙ sym (and-true _ _ near-x))

pub returns-else-is_near : goal.returns-else-is_near
unfolding stays
returns-else-is_near c =
    let fx : SFits w32 c.from-x.result = search rules in
    let fy : SFits w32 c.from-y.result = search rules in
    let px = plain fx ∙ c.from-x.ensures in
    let py = plain fy ∙ c.from-y.ensures in
    let asked = simp (px, py) at c.fits.ensures in
    let lands = simp (px, py) at c.spot_at-s.ensures in
    let here = sym (applied _ _ _ (sym asked ∙ c.if-fits.true)) in
    let near-x = (λ i. near (sym lands i).0 c.args.p.x) ∙ sym c.is_near.ensures ∙ c.if-is_near.false in
    rw here (c.if-is_near.false ∙ sym (and-false _ _ near-x))

pub returns : goal.returns
unfolding stays
returns c =
    let fx : SFits w32 c.from-x.result = search rules in
    let fy : SFits w32 c.from-y.result = search rules in
    let px = plain fx ∙ c.from-x.ensures in
    let py = plain fy ∙ c.from-y.ensures in
    let asked = simp (px, py) at c.fits.ensures in
    rw (sym (not-applied _ _ _ (sym asked ∙ c.if-fits.false)))
