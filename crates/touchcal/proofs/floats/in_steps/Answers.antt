-- `touchcal::floats::in_steps` meets its contract. Assumes nothing.
use Rattle.std.proofs.Common.{rules}
use Rattle.touchcal.proofs.Reach.{stepped-by}
use Rattle.touchcal.proofs.floats.in_steps.Goals as goal

pub returns-in_err-stepped : goal.returns-in_err-stepped
returns-in_err-stepped c = search (rules, stepped-by, ← c.stepped.ensures)

pub returns-in_err-stepped-2 : goal.returns-in_err-stepped-2
returns-in_err-stepped-2 c = search (rules, stepped-by, ← c.stepped.ensures, ← c.stepped-2.ensures)

pub returns-in_err-stepped-3 : goal.returns-in_err-stepped-3
returns-in_err-stepped-3 c = search (rules, stepped-by, ← c.stepped.ensures, ← c.stepped-2.ensures, ← c.stepped-3.ensures)

pub returns-in_err-stepped-4 : goal.returns-in_err-stepped-4
returns-in_err-stepped-4 c = search (rules, stepped-by, ← c.stepped.ensures, ← c.stepped-2.ensures, ← c.stepped-3.ensures, ← c.stepped-4.ensures)

pub returns-in_err-stepped-5 : goal.returns-in_err-stepped-5
returns-in_err-stepped-5 c = search (rules, stepped-by, ← c.stepped.ensures, ← c.stepped-2.ensures, ← c.stepped-3.ensures, ← c.stepped-4.ensures, ← c.stepped-5.ensures)

pub returns-in_err-stepped-6 : goal.returns-in_err-stepped-6
returns-in_err-stepped-6 c = search (rules, stepped-by, ← c.stepped.ensures, ← c.stepped-2.ensures, ← c.stepped-3.ensures, ← c.stepped-4.ensures, ← c.stepped-5.ensures, ← c.stepped-6.ensures)

pub returns : goal.returns
returns c = search (rules, stepped-by, ← c.stepped.ensures, ← c.stepped-2.ensures, ← c.stepped-3.ensures, ← c.stepped-4.ensures, ← c.stepped-5.ensures, ← c.stepped-6.ensures)
