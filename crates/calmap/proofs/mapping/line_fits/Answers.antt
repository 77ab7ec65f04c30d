-- `calmap::mapping::line_fits` meets its contract. Assumes nothing.
use mathlib.Core.Path.{ap, ◌∙◌}
use Rattle.std.specs.Prelude.{Option, is_some}
use Rattle.calmap.specs.declared.units.Q16.{Q16}
use Rattle.calmap.proofs.Chains.{line-told}
use Rattle.calmap.proofs.Signed.{plain}
use Rattle.calmap.proofs.mapping.line_fits.Goals as goal

pub returns : goal.returns
returns c =
    let a = c.args in
    let line = simp (plain c.ranges.v, plain c.ranges.x, plain c.ranges.y) at c.line.ensures in
    c.is_some.ensures ∙ ap (λ (o : Option Q16). is_some o) line ∙ line-told a.v a.p a.q a.k a.x a.y
