-- `calmap::mapping::is_slight` meets its contract. Assumes nothing.
use mathlib.Core.Path.{◌∙◌}
use mathlib.Core.Bool.{◌&&◌}
use Rattle.panel.proofs.Follow.{both, joined}
use Rattle.calmap.specs.code.Checked.{slight}
use Rattle.calmap.proofs.mapping.is_slight.Goals as goal

pub returns : goal.returns
unfolding slight
returns c =
    let e0 = c.is_small.ensures in
    let e1 = c.is_small-2.ensures in
    let e3 = c.is_small-3.ensures in
    let e4 = c.is_small-4.ensures in
    (λ i. ((((e0 i && e1 i) && e3 i) && e4 i) && c.few_steps.ensures i) && c.few_steps-2.ensures i) ∙ both _ _ ∙ joined _ _ _ ∙ joined _ _ _ ∙ joined _ _ _ ∙ joined _ _ _
