-- `apart2` meets its contract: the two squares, added. Assumes nothing.
use borrow.Author.Rules.{rules}
use Rattle.panel.specs.Distances.{distance2}
use Rattle.panel.proofs.Squares.{way-read, two-squares}
use Rattle.panel.proofs.distances.apart2.Goals as goal

pub returns : goal.returns
unfolding distance2
returns c =
    let x = c.offset.ensures in
    let y = c.offset-2.ensures in
    two-squares c.square.ensures.0 (way-read _ _ x (search rules) (search rules)) c.square-2.ensures.0 (way-read _ _ y (search rules) (search rules))
