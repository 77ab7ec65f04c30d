-- `numbers::writing::put_number` meets its contract. Assumes nothing.
use Prim.Native.Nat.{◌+◌, ◌≤◌}
use native.Mathlib.Omega.{arith}
use lib.ListN.{length}
use Rattle.numbers.specs.Numbers.{bytes_of}
use Rattle.numbers.proofs.Bytes.{bytes-most}
use Rattle.numbers.proofs.Rooms.{no_room, with-room}
use Rattle.numbers.proofs.writing.put_number.Goals.{else-room-via-then-room+else-room-length_of, else-room-via-else-room}
use Rattle.numbers.proofs.writing.put_number.Goals as goal

pub returns-then-out-at : goal.returns-then-out-at
returns-then-out-at c =
    let p = no_room _ _ _ (omega arith) in
    record { value = p.0; out_after = p.1 }

pub returns-then-room-length_of : goal.returns-then-room-length_of
returns-then-room-length_of c =
    let p = no_room _ _ _ (omega (arith, c.length_of.ensures)) in
    record { value = p.0; out_after = p.1 }

pub put-requires : goal.put-requires
put-requires c = elim c.else-room.branch [
  | else-room-via-then-room+else-room-length_of w ↦ omega (arith, w.length_of.ensures)
  | else-room-via-else-room w ↦ omega (arith, bytes-most c.args.v)
]

pub returns : goal.returns
returns c =
    let a = c.args in
    let fits : a.at + length (bytes_of a.v) ≤ length a.out.now = elim c.else-room.branch [
      | else-room-via-then-room+else-room-length_of w ↦ omega (arith, w.length_of.ensures)
      | else-room-via-else-room w ↦ omega (arith, bytes-most a.v)
    ] in
    let p = with-room a.out.now a.at (bytes_of a.v) _ _ fits c.put.ensures.value c.put.ensures.out_after in
    record { value = p.0; out_after = p.1 }
