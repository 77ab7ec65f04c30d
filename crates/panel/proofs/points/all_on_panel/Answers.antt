-- `all_on_panel` meets its contract: the first points are asked, as many as the count means. Assumes nothing.
use mathlib.Core.Path.{ap, ◌∙◌}
use lib.ListN.{take}
use Rattle.panel.specs.Points.{all_on_panel}
use Rattle.panel.proofs.points.all_on_panel.Goals as goal

pub returns : goal.returns
returns c = c.each_on_panel.ensures ∙ ap (λ n. all_on_panel (take n c.args.pts)) c.fingers_of.ensures.0
