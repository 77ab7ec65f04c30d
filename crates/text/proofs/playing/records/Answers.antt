-- `text::playing::records` meets its contract. Assumes nothing.
use Prim.Native.Nat.{◌+◌, ◌-◌}
use native.Mathlib.Omega.{arith}
use lib.ListN.{length}
use Rattle.text.proofs.Runs.{going-from, going-past, going_end, going-stop, going_on}
use Rattle.text.proofs.playing.records.Goals as goal

pub loop-i-init : goal.loop-i-init
loop-i-init c =
    going-from c.args.s.now c.args.out.now c.args.from _ c.fresh-t.ensures c.requires.1

pub returns-then-s-at-clause-written : goal.returns-then-s-at-clause-written
returns-then-s-at-clause-written c =
    (going-past _ _ _ _ _ _ _ _ _ c.loop-i.invariant _ _ (omega arith) c.if-s-at.true (c.end_line.ensures.written, c.end_line.ensures.upper_bound)).0

pub returns-in-Err-clause-written : goal.returns-in-Err-clause-written
returns-in-Err-clause-written c =
    (going-stop _ _ _ _ _ _ _ _ _ c.loop-i.invariant _ (length c.args.s.now - (c.loop-i.i + 1)) (omega arith) (omega (arith, c.if-s-at.false)) c.next_record.ensures _ _ _ c.in-Err.is (c.stop_line.ensures.written, c.stop_line.ensures.upper_bound)).0

pub loop-i-preserved : goal.loop-i-preserved
loop-i-preserved c =
    going_on _ _ _ _ _ _ _ _ _ c.loop-i.invariant _ _ (omega arith) (omega (arith, c.if-s-at.false)) c.next_record.ensures _ _ _ _ _ c.in-Ok.is c.make-a.ensures (c.answer_line-to.ensures.written, c.answer_line-to.ensures.upper_bound)

pub returns-clause-written : goal.returns-clause-written
returns-clause-written c =
    (going_end _ _ _ _ _ _ _ _ _ c.loop-i.invariant _ _ _ (omega arith) (omega arith) (c.end_line-2.ensures.written, c.end_line-2.ensures.upper_bound)).0
