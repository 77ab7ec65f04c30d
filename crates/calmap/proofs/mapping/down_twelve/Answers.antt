-- `calmap::mapping::down_twelve` meets its contract. Assumes nothing.
use mathlib.Core.Path.{ap}
use mir.Syntax.{w32}
use mir.Val.{SFits}
use borrow.Author.Rules.{rules}
use Rattle.calmap.specs.Sizes.{twelve}
use Rattle.calmap.specs.Units.{sixteenths}
use Rattle.calmap.proofs.Floors.{shift_is}
use Rattle.calmap.proofs.mapping.down_twelve.Goals as goal

pub returns : goal.returns
returns c =
    let q = c.args.q in
    let f : SFits w32 q.0 = search rules in
    ap sixteenths (shift_is q.0 twelve f)
