-- `text::words::word` meets its contract. Assumes nothing.
use native.Mathlib.Omega.{arith}
use mathlib.Core.Path.{◌∙◌}
use lib.ListN.{length-set}
use Rattle.text.proofs.Writing.{word_after}
use Rattle.text.proofs.words.word.Goals as goal

pub shape_of-out : goal.shape_of-out
shape_of-out c = c.say.auto.out ∙ simp length-set

pub returns : goal.returns
returns c =
    record {
      written = word_after c.args.out.now c.args.at c.args.w.now _ _ c.say.ensures;
      value = omega (arith, c.say.ensures.ends);
    }
