-- `image::ended::end_time` meets its contract. Assumes nothing.
use mathlib.Core.Path.{◌∙◌}
use Rattle.image.proofs.Laid.{end-is}
use Rattle.image.proofs.ended.end_time.Goals as goal

pub returns : goal.returns
returns c = c.unwrap_or.ensures ∙ end-is c.args.end
