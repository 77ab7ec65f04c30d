-- `trace::records::report_from` meets its contract. Assumes nothing.
use borrow.Author.Rules.{rules}
use Rattle.trace.specs.code.Points.{report_filled}
use Rattle.trace.proofs.PointsIn.{report_same}
use Rattle.trace.proofs.records.report_from.Goals as goal

pub returns-in_err-pts : goal.returns-in_err-pts
unfolding report_filled
returns-in_err-pts c = search (rules, ← report_same c.args.s.now c.args.at)

pub returns : goal.returns
unfolding report_filled
returns c = search (rules, ← report_same c.args.s.now c.args.at)
