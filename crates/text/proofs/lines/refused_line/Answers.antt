-- `text::lines::refused_line` meets its contract. Assumes nothing.
use native.Mathlib.Omega.{arith}
use Rattle.text.specs.Words.{ascii}
use Rattle.text.proofs.Lined.{refused-of}
use Rattle.text.proofs.lines.refused_line.Goals as goal

pub returns : goal.returns
unfolding ascii
returns c =
    record {
      written = refused-of c.args.i c.args.why c.number.ensures.value c.number-a.ensures.written c.word-b.ensures.written c.value-c.ensures.written c.finish.ensures.written;
      upper_bound = omega (arith, c.number-a.ensures.upper_bound, c.word-b.ensures.value, c.value-c.ensures.upper_bound, c.finish.ensures.value);
    }
