-- `totals` meets its contract. Assumes nothing.
use Prim.Native.Nat.{ℕ, ◌+◌}
use mathlib.Core.Path.{sym, ap, ◌∙◌}
use native.Mathlib.Omega.{arith}
use lib.ListN.{get_or}
use borrow.Author.Rules.{rules}
use Rattle.panel.specs.Centroids.{xs, ys, total}
use Rattle.panel.specs.declared.points.Point.{Point}
use Rattle.panel.proofs.Loops.{total-more, all-taken}
use Rattle.panel.proofs.middle.totals.Goals as goal

pub loop-p-init : goal.loop-p-init
unfolding total
loop-p-init c = search rules

pub loop-p-preserved : goal.loop-p-preserved
loop-p-preserved c =
    let pts = c.args.pts.now in
    let i = c.loop-p.p-index in
    let nowhere : Point = record { x = 0; y = 0 } in
    let p = get_or pts i nowhere in
    let inv = c.loop-p.invariant in (
      ap (λ (k : ℕ). k + p.x) inv.0 ∙ sym (total-more (λ (q : Point). q.x) pts i nowhere c.loop-p-test.true),
      ap (λ (k : ℕ). k + p.y) inv.1 ∙ sym (total-more (λ (q : Point). q.y) pts i nowhere c.loop-p-test.true),
      omega arith,
      omega arith,
    )

pub returns-clause-x : goal.returns-clause-x
returns-clause-x c = c.loop-p.invariant.0 ∙ ap total (ap xs (all-taken c.args.pts.now c.loop-p.p-index c.loop-p.auto.p-index-end c.loop-p-test.false))

pub returns-clause-y : goal.returns-clause-y
returns-clause-y c = c.loop-p.invariant.1 ∙ ap total (ap ys (all-taken c.args.pts.now c.loop-p.p-index c.loop-p.auto.p-index-end c.loop-p-test.false))
