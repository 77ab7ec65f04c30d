-- `calmap::screens::shifted` meets its contract. Assumes nothing.
use mathlib.Core.Path.{ap, ◌∙◌}
use lib.IntN.{ℤ}
use mir.Syntax.{w32}
use mir.Val.{SFits}
use borrow.Author.Rules.{rules}
use Rattle.calmap.specs.Screening.{clamp, moved}
use Rattle.calmap.proofs.Signed.{plain}
use Rattle.calmap.proofs.screens.shifted.Goals as goal

pub returns : goal.returns
unfolding moved
returns c =
    let m = c.moved_by.result in
    let f : SFits w32 m = search rules in
    c.clamped.ensures ∙ ap (λ (z : ℤ). clamp c.args.last z) (plain f ∙ c.moved_by.ensures)
