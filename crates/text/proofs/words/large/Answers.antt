-- `text::words::large` meets its contract. Assumes nothing.
use native.Mathlib.Omega.{arith}
use mathlib.Core.Path.{◌∙◌}
use lib.ListN.{length-set}
use Rattle.text.specs.Words.{decimal}
use Rattle.text.proofs.Digits.{decimal-most}
use Rattle.text.proofs.Writing.{word_after}
use Rattle.text.proofs.words.large.Goals as goal

pub digits-requires : goal.digits-requires
unfolding decimal
digits-requires c = simp length-set (omega (arith, decimal-most c.args.v))

pub shape_of-out : goal.shape_of-out
shape_of-out c = c.digits.auto.out ∙ simp length-set

pub returns : goal.returns
unfolding decimal
returns c =
    record {
      written = word_after c.args.out.now c.args.at (decimal c.args.v) _ _ c.digits.ensures;
      upper_bound = omega (arith, c.digits.ensures.ends, decimal-most c.args.v);
    }
