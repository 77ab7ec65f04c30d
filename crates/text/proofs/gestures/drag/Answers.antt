-- `text::gestures::drag` meets its contract. Assumes nothing.
use native.Mathlib.Omega.{arith}
use Rattle.text.specs.Words.{ascii}
use Rattle.text.proofs.Gestured.{drag-words}
use Rattle.text.proofs.gestures.drag.Goals as goal

pub returns : goal.returns
unfolding ascii
returns c =
    record {
      written = drag-words c.args.start c.args.p c.args.axis c.word-a.ensures.written c.place-b.ensures.written c.place-c.ensures.written c.axis.ensures.written;
      upper_bound = omega (arith, c.word-a.ensures.value, c.place-b.ensures.upper_bound, c.place-c.ensures.upper_bound, c.axis.ensures.value);
    }
