-- `fingers::later::away` meets its contract. Assumes nothing.
use native.Mathlib.Omega.{arith}
use borrow.Author.Rules.{rules}
use Rattle.panel.proofs.Laws.{distance-at-most}
use Rattle.fingers.proofs.later.away.Goals as goal

pub overflow_cast-result : goal.overflow_cast-result
overflow_cast-result c =
    let p0 = c.args.p0 in
    let p = c.args.p in
    omega (arith, c.apart.ensures, distance-at-most 65535 p0 p (search rules) (search rules) (search rules) (search rules))
