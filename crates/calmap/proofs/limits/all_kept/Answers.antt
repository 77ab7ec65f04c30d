-- `calmap::limits::all_kept` meets its contract: `all` asks each target. Assumes nothing.
use mathlib.Core.Path.{◌≡◌, ◌∙◌}
use Rattle.std.proofs.Common.{rules}
use Rattle.std.proofs.lemmas.Iterator.{YieldsList-from_slice}
use Rattle.std.proofs.lemmas.Iterator.Search.{all_from_yields_List}
use Rattle.std.specs.List.{list_all}
use Rattle.calmap.specs.Checks.{stays}
use Rattle.calmap.proofs.Judging.{each-stays}
use Rattle.calmap.proofs.limits.all_kept.Goals as goal

pub returns : goal.returns
returns c =
    let each : c.all.result ≡ list_all (stays c.args.c) c.args.targets.now =
    all_from_yields_List (stays c.args.c) _ _ _ c.all.ensures.ran (YieldsList-from_slice c.args.targets.now cc) (λ x b q k. search rules) in
    each ∙ each-stays c.args.c _
