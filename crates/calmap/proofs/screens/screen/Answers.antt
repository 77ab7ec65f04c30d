-- `calmap::screens::screen` meets its contract. Assumes nothing.
use mathlib.Core.Path.{◌∙◌}
use mir.Syntax.{w32}
use mir.Val.{SFits}
use borrow.Author.Rules.{rules}
use Rattle.calmap.specs.code.Checked.{nudge_of, placed_of}
use Rattle.calmap.proofs.Chains.{screen-chain}
use Rattle.calmap.proofs.Signed.{plain}
use Rattle.calmap.proofs.screens.screen.Goals as goal

pub returns : goal.returns
returns c =
    let k = c.args.c in
    let wx = c.from-x in
    let wy = c.from-y in
    let fx : SFits w32 wx.result = search rules in
    let fy : SFits w32 wy.result = search rules in
    let ex = plain fx ∙ wx.ensures in
    let ey = plain fy ∙ wy.ensures in
    let u = c.nudge-dx.ensures ∙ (λ i. nudge_of k.c0 k.c1 k.c2 (ex i) (ey i)) in
    let v = c.nudge-dy.ensures ∙ (λ i. nudge_of k.c3 k.c4 k.c5 (ex i) (ey i)) in
    c.placed.ensures ∙ (λ i. placed_of c.args.p (u i) (v i)) ∙ screen-chain k c.args.p
