-- `numbers::writing::total` meets its contract. Assumes nothing.
use Prim.Native.Nat.{◌≤◌, ◌*◌}
use mathlib.Core.Path.{◌≡◌}
use lib.ListN.{length, take}
use Rattle.numbers.specs.Numbers.{bytes_of_all}
use Rattle.numbers.specs.Sizes.{most_groups}
use Rattle.numbers.proofs.writing.total.Given as goal

abbrev pub invariant-loop-x : goal.invariant-loop-x
invariant-loop-x l = record {
  sum_is : l.sum ≡ length (bytes_of_all (take l.x-index l.v));
  small : l.sum ≤ most_groups * l.x-index;
}
