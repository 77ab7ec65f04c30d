-- `trace::records::points_from` meets its contract. Assumes nothing.
use Rattle.std.proofs.lemmas.Result.{err_from_is_err_and}
use Rattle.std.proofs.lemmas.List.{set-append_left}
use native.Mathlib.Omega.{arith}
use mathlib.Core.Path.{◌≡◌, sym, ◌∙◌}
use Prim.Native.Nat.{ℕ, ◌≤◌}
use lib.ListN.{length, take, drop, length-take, take-append-drop}
use Rattle.panel.specs.Sizes.{max_points}
use Rattle.trace.specs.Records.{no_points}
use Rattle.trace.proofs.PointsIn.{none_read, one-read, stopped-read, all_read}
use Rattle.trace.proofs.records.points_from.Goals as goal

-- as many places as there are points to read
places : (n : ℕ) → n ≤ max_points → length (take n no_points) ≡ n
places n h = length-take n no_points ∙ omega (arith, h)

pub loop-p-init : goal.loop-p-init
loop-p-init c = rw (take-append-drop c.args.n no_points) (none_read c.args.s.now c.args.at c.args.n)

pub loop-p-preserved : goal.loop-p-preserved
loop-p-preserved c =
    let a = c.args in
    let l = c.loop-p in
    let all = places a.n c.requires in
    rw (sym (set-append_left l.p-items (drop a.n no_points) l.p-index c.in_ok-read.read (omega arith)))
    (one-read a.s.now a.at a.n _ l.to l.p-index c.requires l.invariant c.in_ok-read.read c.in_ok-read.next (omega (arith, all)) c.in_ok-read.ensures)

pub returns-in_err-read : goal.returns-in_err-read
returns-in_err-read c =
    let a = c.args in
    let l = c.loop-p in
    let p = err_from_is_err_and c.from_residual.result c.from_residual.ensures.1 in
    let all = places a.n c.requires in
    rw (p.1, p.2) (sym (stopped-read a.s.now a.at a.n _ l.to l.p-index c.requires l.invariant _ (omega (arith, all)) c.in_err-read.ensures))

pub returns : goal.returns
returns c =
    let a = c.args in
    let l = c.loop-p in
    let all = places a.n c.requires in
    sym (all_read a.s.now a.at a.n _ l.to l.p-index c.requires l.invariant (omega (arith, all)))
