-- `trace::writing::used_first` meets its contract. Assumes nothing.
use Rattle.trace.proofs.Gathered.{one-used}
use Rattle.trace.proofs.writing.used_first.Goals as goal

pub returns-then-count-eq1 : goal.returns-then-count-eq1
returns-then-count-eq1 c = one-used c.args.count c.args.p _ c.args.pts c.if-count-eq1.true
