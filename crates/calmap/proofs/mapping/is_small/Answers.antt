-- `calmap::mapping::is_small` meets its contract. Assumes nothing.
use mathlib.Core.Path.{◌≡◌, ap, ◌∙◌}
use mir.Syntax.{w32}
use mir.Val.{to_z, of_z}
use borrow.Author.Rules.{rules}
use Rattle.calmap.specs.Wide.{in16}
use Rattle.calmap.specs.code.Checked.{small}
use Rattle.calmap.proofs.mapping.is_small.Goals as goal

pub returns : goal.returns
unfolding small
returns c =
    let q = c.args.q in
    let e : to_z w32 (of_z w32 q.0) ≡ q.0 = search rules in
    c.in_i16.ensures ∙ ap in16 e
