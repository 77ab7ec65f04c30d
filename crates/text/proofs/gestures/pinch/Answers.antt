-- `text::gestures::pinch` meets its contract. Assumes nothing.
use native.Mathlib.Omega.{arith}
use Rattle.text.specs.Words.{ascii}
use Rattle.text.proofs.Gestured.{pinch-words}
use Rattle.text.proofs.gestures.pinch.Goals as goal

pub returns : goal.returns
unfolding ascii
returns c =
    record {
      written = pinch-words c.args.axis c.args.span0 c.args.span c.word-a.ensures.written c.axis-b.ensures.written c.value-c.ensures.written c.value.ensures.written;
      upper_bound = omega (arith, c.word-a.ensures.value, c.axis-b.ensures.value, c.value-c.ensures.upper_bound, c.value.ensures.upper_bound);
    }
