-- `text::words::value` meets its contract. Assumes nothing.
use native.Mathlib.Omega.{arith}
use mathlib.Core.Path.{◌∙◌}
use lib.ListN.{length-set}
use Rattle.text.specs.Words.{decimal}
use Rattle.text.proofs.Writing.{word_after}
use Rattle.text.proofs.words.value.Goals as goal

pub shape_of-out : goal.shape_of-out
shape_of-out c = c.number.auto.out ∙ simp length-set

pub returns : goal.returns
returns c =
    record {
      written = word_after c.args.out.now c.args.at (decimal c.args.v) _ _ c.number.ensures.written;
      upper_bound = omega (arith, c.number.ensures.upper_bound);
      upper_bound_2 = λ h. omega (arith, c.number.ensures.upper_bound_2 h);
    }
