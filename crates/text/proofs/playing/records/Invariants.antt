-- `text::playing::records` meets its contract. The loop's invariant is `Going`: i records are done, and as many are left as
-- the trace has bytes more.
use Rattle.std.proofs.Common.{◌-◌, length}
use Rattle.text.specs.Texts.{printed}
use Rattle.trace.specs.Traces.{records_from}
use Rattle.text.proofs.Runs.{Going}
use Rattle.text.proofs.playing.records.Given as goal

abbrev pub invariant-loop-i : goal.invariant-loop-i
invariant-loop-i l = Going l.s l.initial.out (printed (records_from (length l.s) l.s l.from)) l.out l.t l.at l.to l.i (length l.s - l.i)
