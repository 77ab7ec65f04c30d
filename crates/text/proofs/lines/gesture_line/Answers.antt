-- `text::lines::gesture_line` meets its contract. Assumes nothing.
use native.Mathlib.Omega.{arith}
use Rattle.text.specs.Gestures.{words_of}
use Rattle.text.proofs.Writing.{line_of}
use Rattle.text.proofs.lines.gesture_line.Goals as goal

pub returns : goal.returns
returns c =
    record {
      written = line_of (words_of c.args.g) c.number-a.ensures.written c.gesture_words-b.ensures.written c.finish.ensures.written;
      upper_bound = omega (arith, c.number-a.ensures.upper_bound, c.gesture_words-b.ensures.upper_bound, c.finish.ensures.value);
    }
