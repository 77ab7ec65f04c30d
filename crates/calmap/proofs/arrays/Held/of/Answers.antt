-- `calmap::arrays::Held::of` meets its contract. Assumes nothing.
use mathlib.Core.Path.{ap, ◌∙◌}
use mathlib.Core.List.{◌++◌}
use lib.ListN.{length, drop, replicate}
use Rattle.panel.specs.Tests.{◌<?◌}
use Rattle.calmap.specs.Sizes.{longest}
use Rattle.calmap.specs.code.Arrays.{held}
use Rattle.calmap.proofs.Holding.{filled-is}
use Rattle.calmap.proofs.arrays.Held.of.Goals as goal

pub returns : goal.returns
unfolding held
returns g c =
    let a = c.args in
    let list = ap (λ l. l ++ drop c.min-n.result (replicate 64 a.none)) c.copy_from_slice.ensures.after ∙ filled-is a.none c.min-n.result 64 a.s.now c.min-n.ensures in
    λ i. record { list = list i; n = c.min-n.ensures i; long = longest <? length a.s.now }
