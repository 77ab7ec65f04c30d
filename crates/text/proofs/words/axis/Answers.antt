-- `text::words::axis` meets its contract. Assumes nothing.
use native.Mathlib.Omega.{arith}
use lib.ListN.{length-set}
use Rattle.text.proofs.Writing.{letter-after}
use Rattle.text.proofs.words.axis.Goals as goal

pub bounds-out-at-2 : goal.bounds-out-at-2
bounds-out-at-2 c = simp length-set (omega arith)

pub returns : goal.returns
returns c =
    record {
      written = letter-after c.args.out.now c.args.at _ _ c.letter.ensures;
      value = omega arith;
    }
