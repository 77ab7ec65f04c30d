-- `text::lines::stop_line` meets its contract. Assumes nothing.
use native.Mathlib.Omega.{arith}
use Rattle.text.specs.Words.{ascii}
use Rattle.text.proofs.Lined.{stop-of}
use Rattle.text.proofs.lines.stop_line.Goals as goal

pub finish-requires : goal.finish-requires
finish-requires c =
    omega (arith, c.say-a.ensures.ends, c.value-b.ensures.upper_bound_2 c.number.ensures.upper_bound, c.word-c.ensures.value, c.large-d.ensures.upper_bound)

pub returns : goal.returns
unfolding ascii
returns c =
    record {
      written = stop-of c.args.stop.why c.args.stop.at c.number.ensures.value c.say-a.ensures c.value-b.ensures.written c.word-c.ensures.written c.large-d.ensures.written c.finish.ensures.written;
      upper_bound = omega (arith, c.say-a.ensures.ends, c.value-b.ensures.upper_bound_2 c.number.ensures.upper_bound, c.word-c.ensures.value, c.large-d.ensures.upper_bound, c.finish.ensures.value);
    }
