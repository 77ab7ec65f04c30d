-- `text::gestures::with_number` meets its contract. Assumes nothing.
use native.Mathlib.Omega.{arith}
use mathlib.Core.List.{[], ◌∷◌}
use Rattle.text.specs.Words.{decimal}
use Rattle.text.proofs.Writing.{words-then}
use Rattle.text.proofs.gestures.with_number.Goals as goal

pub returns : goal.returns
returns c =
    record {
      written = words-then (c.args.name.now ∷ []) (decimal c.args.v ∷ []) c.word-a.ensures.written c.value.ensures.written;
      upper_bound = omega (arith, c.word-a.ensures.value, c.value.ensures.upper_bound);
    }
