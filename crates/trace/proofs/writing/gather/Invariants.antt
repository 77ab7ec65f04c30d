-- `trace::writing::gather` meets its contract. Assumes nothing.
use mathlib.Core.List.{[], ◌∷◌}
use Rattle.trace.specs.Sizes.{kind_report}
use Rattle.trace.proofs.Gathered.{Gathering}
use Rattle.trace.proofs.writing.gather.Given as goal

abbrev pub invariant-loop-i : goal.invariant-loop-i
invariant-loop-i l = Gathering (kind_report ∷ l.time ∷ l.keys ∷ l.count ∷ []) l.pts l.v l.i
