-- `calmap::checked::scaled` meets its contract. Assumes nothing.
use mathlib.Core.Path.{◌≡◌, ◌∙◌}
use lib.IntN.{◌*ℤ◌}
use mir.Syntax.{w32}
use mir.Val.{to_z, of_z}
use borrow.Author.Rules.{rules}
use Rattle.calmap.specs.Units.{steps}
use Rattle.calmap.specs.code.Checked.{narrow_of}
use Rattle.calmap.proofs.Signed.{plain}
use Rattle.calmap.proofs.checked.scaled.Goals as goal

pub returns : goal.returns
returns c =
    let e : to_z w32 (of_z w32 c.args.q.0) ≡ c.args.q.0 = search rules in
    c.times.ensures ∙ (λ i. narrow_of (steps (e i *ℤ plain c.ranges.x i)))
