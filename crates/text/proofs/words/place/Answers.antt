-- `text::words::place` meets its contract. Assumes nothing.
use native.Mathlib.Omega.{arith}
use mathlib.Core.List.{[], ◌∷◌}
use Rattle.text.specs.Words.{decimal}
use Rattle.text.proofs.Writing.{words-then}
use Rattle.text.proofs.words.place.Goals as goal

pub returns : goal.returns
returns c =
    record {
      written = words-then (decimal c.args.p.x ∷ []) (decimal c.args.p.y ∷ []) c.value-a.ensures.written c.value.ensures.written;
      upper_bound = omega (arith, c.value-a.ensures.upper_bound, c.value.ensures.upper_bound);
    }
