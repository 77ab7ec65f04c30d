-- `text::gestures::moved` meets its contract. Assumes nothing.
use native.Mathlib.Omega.{arith}
use Rattle.text.specs.Words.{ascii}
use Rattle.text.proofs.Gestured.{move-words}
use Rattle.text.proofs.gestures.moved.Goals as goal

pub returns : goal.returns
unfolding ascii
returns c =
    record {
      written = move-words c.args.prev c.args.p c.word-a.ensures.written c.place-b.ensures.written c.place.ensures.written;
      upper_bound = omega (arith, c.word-a.ensures.value, c.place-b.ensures.upper_bound, c.place.ensures.upper_bound);
    }
