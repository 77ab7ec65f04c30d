-- `text::gestures::with_point` meets its contract. Assumes nothing.
use native.Mathlib.Omega.{arith}
use mathlib.Core.List.{[], ◌∷◌}
use Rattle.text.specs.Words.{decimal}
use Rattle.text.proofs.Writing.{words-then}
use Rattle.text.proofs.gestures.with_point.Goals as goal

pub returns : goal.returns
returns c =
    record {
      written = words-then (c.args.name.now ∷ []) (decimal c.args.p.x ∷ decimal c.args.p.y ∷ []) c.word-a.ensures.written c.place.ensures.written;
      upper_bound = omega (arith, c.word-a.ensures.value, c.place.ensures.upper_bound);
    }
