-- `text::lines::end_line` meets its contract. Assumes nothing.
use native.Mathlib.Omega.{arith}
use Rattle.text.specs.Words.{ascii}
use Rattle.text.proofs.Lined.{end_of}
use Rattle.text.proofs.lines.end_line.Goals as goal

pub returns : goal.returns
unfolding ascii
returns c =
    record {
      written = end_of c.args.count c.say-a.ensures c.value-b.ensures.written c.finish.ensures.written;
      upper_bound = omega (arith, c.say-a.ensures.ends, c.value-b.ensures.upper_bound, c.finish.ensures.value);
    }
