-- `text::lines::number` meets its contract. Assumes nothing.
use native.Mathlib.Omega.{arith}
use Rattle.panel.proofs.Promises.{two_digits}
use Rattle.text.proofs.lines.number.Goals as goal

pub returns-clause-upper_bound : goal.returns-clause-upper_bound
returns-clause-upper_bound c = omega (arith, two_digits c.args.why)
