-- `each_on_panel` meets its contract: `all` asks each of the points. Assumes nothing.
use mathlib.Core.Path.{◌≡◌, ◌∙◌}
use Rattle.std.proofs.Common.{rules}
use Rattle.std.proofs.lemmas.Iterator.{YieldsList-from_slice}
use Rattle.std.proofs.lemmas.Iterator.Search.{all_from_yields_List}
use Rattle.std.specs.List.{list_all}
use Rattle.panel.specs.Points.{on_panel}
use Rattle.panel.proofs.Loops.{each-on-panel}
use Rattle.panel.proofs.points.each_on_panel.Goals as goal

pub returns : goal.returns
returns c =
    let each : c.all.result ≡ list_all on_panel c.args.pts.now =
    all_from_yields_List on_panel _ _ _ c.all.ensures.ran (YieldsList-from_slice c.args.pts.now cc) (λ x b q k. search rules) in
    each ∙ each-on-panel _
