-- `calmap::limits::is_mild` meets its contract. Assumes nothing.
use mathlib.Core.Path.{ap, ◌∙◌}
use lib.IntN.{ℤ}
use mir.Syntax.{w32}
use mir.Val.{SFits}
use borrow.Author.Rules.{rules}
use Rattle.calmap.specs.Checks.{mild}
use Rattle.calmap.specs.Units.{steps}
use Rattle.calmap.proofs.Signed.{plain}
use Rattle.calmap.proofs.limits.is_mild.Goals as goal

pub returns : goal.returns
unfolding mild
returns c =
    let f : SFits w32 c.args.q.0 = search rules in
    c.within.ensures ∙ ap (λ (z : ℤ). mild (steps z)) (plain f)
