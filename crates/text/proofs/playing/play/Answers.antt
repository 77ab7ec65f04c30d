-- `text::playing::play` meets its contract. Assumes nothing.
use native.Mathlib.Omega.{arith}
use mathlib.Core.Path.{sym, ◌∙◌}
use Rattle.text.proofs.Runs.{no_room, played-records, played-stop, head-short}
use Rattle.text.proofs.playing.play.Goals as goal

pub returns-then-out-s : goal.returns-then-out-s
returns-then-out-s c =
    let a = c.args in
    let p = no_room a.s.now a.out.now c.if-out-s.true in
    record { value = p.0; out_after = p.1 }

pub records-requires : goal.records-requires
records-requires c =
    let a = c.args in
    (head-short a.s.now _ (sym c.head.ensures ∙ c.in-Ok.is), omega (arith, c.if-out-s.false))

pub returns-in-Ok : goal.returns-in-Ok
returns-in-Ok c =
    let a = c.args in
    let p = played-records a.s.now a.out.now _ _ _ (sym c.head.ensures ∙ c.in-Ok.is) (omega (arith, c.if-out-s.false)) (c.records.ensures.written, c.records.ensures.upper_bound) in
    record { value = p.0; out_after = p.1 }

pub returns-in-Err : goal.returns-in-Err
returns-in-Err c =
    let a = c.args in
    let p = played-stop a.s.now a.out.now _ _ _ (sym c.head.ensures ∙ c.in-Err.is) (omega (arith, c.if-out-s.false)) (c.stop_line.ensures.written, c.stop_line.ensures.upper_bound) in
    record { value = p.0; out_after = p.1 }
