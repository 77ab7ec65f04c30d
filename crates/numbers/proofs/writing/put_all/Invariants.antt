-- `numbers::writing::put_all` meets its contract. Assumes nothing.
use Prim.Native.Nat.{◌+◌}
use mathlib.Core.Path.{◌≡◌}
use lib.ListN.{length, take}
use lib.Seq.{sets}
use Rattle.numbers.specs.Numbers.{bytes_of_all}
use Rattle.numbers.proofs.writing.put_all.Given as goal

abbrev pub invariant-loop-x : goal.invariant-loop-x
invariant-loop-x l = record {
  to_is : l.to ≡ l.at + length (bytes_of_all (take l.x-index l.v));
  out_is : l.out ≡ sets l.initial.out l.at (bytes_of_all (take l.x-index l.v));
}
