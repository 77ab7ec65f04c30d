-- `calmap::screens::down_sixteen` meets its contract. Assumes nothing.
use mir.Syntax.{w32}
use mir.Val.{SFits}
use borrow.Author.Rules.{rules}
use Rattle.calmap.specs.Sizes.{sixteen}
use Rattle.calmap.proofs.Floors.{shift_is}
use Rattle.calmap.proofs.screens.down_sixteen.Goals as goal

pub returns : goal.returns
returns c =
    let q = c.args.q in
    let f : SFits w32 q.0 = search rules in
    shift_is q.0 sixteen f
