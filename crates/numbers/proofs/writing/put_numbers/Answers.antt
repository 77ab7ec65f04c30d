-- `numbers::writing::put_numbers` meets its contract. Assumes nothing.
use Prim.Native.Nat.{◌+◌, ◌<◌}
use native.Mathlib.Omega.{arith}
use lib.ListN.{length}
use Rattle.numbers.specs.Numbers.{bytes_of_all}
use Rattle.numbers.proofs.Rooms.{no_room, with-room}
use Rattle.numbers.proofs.writing.put_numbers.Goals.{then-out-at-via-then-out-at, then-out-at-via-else-out-at+then-out-at-2}
use Rattle.numbers.proofs.writing.put_numbers.Goals as goal

pub returns-then-out-at : goal.returns-then-out-at
returns-then-out-at c =
    let a = c.args in
    let long : length a.out.now < a.at + length (bytes_of_all a.v.now) = elim c.then-out-at.branch [
      | then-out-at-via-then-out-at w ↦ omega arith
      | then-out-at-via-else-out-at+then-out-at-2 w ↦ omega (arith, c.total-n.ensures)
    ] in
    let p = no_room _ _ _ long in
    record { value = p.0; out_after = p.1 }

pub returns : goal.returns
returns c =
    let a = c.args in
    let p = with-room a.out.now a.at (bytes_of_all a.v.now) _ _ (omega (arith, c.total-n.ensures)) c.put_all.ensures.value c.put_all.ensures.out_after in
    record { value = p.0; out_after = p.1 }
