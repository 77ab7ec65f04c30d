-- `touchcal::scpi::scpi_put` meets its contract. Assumes nothing.
use Rattle.std.proofs.Common.{rules}
use Rattle.touchcal.specs.Scpi.{put_of}
use Rattle.touchcal.proofs.scpi.scpi_put.Goals as goal

pub returns-in_err-from_f32-clause-answer : goal.returns-in_err-from_f32-clause-answer
unfolding put_of
returns-in_err-from_f32-clause-answer c = search (rules, ← c.from_f32.ensures)

pub returns-in_err-from_f32-clause-after : goal.returns-in_err-from_f32-clause-after
unfolding put_of
returns-in_err-from_f32-clause-after c = search (rules, ← c.from_f32.ensures, c.cleared.ensures)

pub returns-clause-answer : goal.returns-clause-answer
unfolding put_of
returns-clause-answer c = search (rules, ← c.from_f32.ensures)

pub returns-clause-after : goal.returns-clause-after
unfolding put_of
returns-clause-after c = search (rules, ← c.from_f32.ensures)
