-- `middle_of` meets its contract: (0, 0) for none, else the totals shared out. Assumes nothing.
use Prim.Native.Nat.{ℕ, ◌/◌, ◌<◌, ◌≤◌}
use mathlib.Core.Path.{sym, ap, ◌∙◌}
use native.Mathlib.Omega.{arith}
use lib.ListN.{length, take, length-take}
use Rattle.panel.specs.Centroids.{middle}
use Rattle.panel.proofs.Loops.{shared, middle-none, middle-some}
use Rattle.panel.proofs.middle.middle_of.Goals as goal

pub returns-then-n-eq0 : goal.returns-then-n-eq0
returns-then-n-eq0 c =
    let pts = c.args.pts in
    sym (ap (λ (k : ℕ). middle (take k pts)) (sym c.fingers_of-n.ensures.0 ∙ c.if-n-eq0.true) ∙ middle-none pts)

pub totals-t-requires : goal.totals-t-requires
totals-t-requires c = rw length-take (omega (arith, c.fingers_of-n.ensures.1))

pub overflow_cast-result : goal.overflow_cast-result
overflow_cast-result c = omega (arith, c.fingers_of-n.ensures.1)

pub overflow_cast-result-2 : goal.overflow_cast-result-2
overflow_cast-result-2 c = shared c.totals-t.ensures.x_at_most (rw length-take (omega arith))

pub overflow_cast-result-3 : goal.overflow_cast-result-3
overflow_cast-result-3 c = omega (arith, c.fingers_of-n.ensures.1)

pub overflow_cast-result-4 : goal.overflow_cast-result-4
overflow_cast-result-4 c = shared c.totals-t.ensures.y_at_most (rw length-take (omega arith))

pub returns : goal.returns
returns c =
    let n = c.fingers_of-n.result in
    let pts = c.args.pts in
    let t = c.totals-t.ensures in
    let some : 0 < n = omega arith in
    let within : n ≤ length pts = omega arith in
    (λ i. record { x = ap (λ (k : ℕ). k / n) t.x i; y = ap (λ (k : ℕ). k / n) t.y i }) ∙ sym (middle-some pts n some within) ∙ ap (λ (k : ℕ). middle (take k pts)) c.fingers_of-n.ensures.0
