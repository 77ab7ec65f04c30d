-- `numbers::writing::put` meets its contract. Assumes nothing.
use mathlib.Core.Path.{ap}
use native.Mathlib.Omega.{arith}
use lib.ListN.{length, length-set}
use Rattle.numbers.proofs.Bytes.{bytes-more}
use Rattle.numbers.proofs.writing.+put.Goals as goal

pub put-requires : goal.put-requires
put-requires t c = (omega arith, simp length-set (omega (arith, ap length (bytes-more c.args.v (omega arith) c.if-v-lt-GROUP.false))))
