-- `resid_by`: the loop's sum and largest, and the distances still to come, make the whole (Tallying). Assumes nothing.
use Prim.Native.Nat.{◌*◌, ◌≤◌}
use mathlib.Core.Path.{◌≡◌}
use Rattle.calmap.specs.Resids.{resid_first_by}
use Rattle.calmap.specs.code.Checked.{farthest_tenths}
use Rattle.calmap.proofs.Tallying.{spread_from, misses_from}
use Rattle.calmap.proofs.residuals.resid_by.Given as goal

abbrev pub invariant-loop-p : goal.invariant-loop-p
invariant-loop-p g l = record {
  small : l.sum.0 ≤ farthest_tenths * l.p-index;
  whole : resid_first_by g.R.Rule.tenths l.c l.n l.fn.pairs ≡ spread_from g.R.Rule.tenths l.n l.sum l.most (misses_from l.c l.p-items l.p-index);
}
