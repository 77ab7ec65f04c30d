-- `trace::writing::gather` meets its contract. Assumes nothing.
use Prim.Native.Nat.{ℕ, ◌+◌, ◌*◌}
use mathlib.Core.Path.{◌≡◌, sym, ap, ◌∙◌}
use mathlib.Core.List.{◌∷◌}
use native.Mathlib.Omega.{arith}
use lib.ListN.{length, take}
use borrow.Author.Rules.{rules}
use Rattle.panel.specs.Sizes.{max_points}
use Rattle.trace.specs.Calls.{coordinates}
use Rattle.trace.specs.Sizes.{kind_report}
use Rattle.trace.proofs.Gathered.{none_more, one_more}
use Rattle.trace.proofs.writing.gather.Goals as goal

pub loop-i-init : goal.loop-i-init
loop-i-init c =
    let a = c.args in
    none_more a.time a.keys a.count _ _ a.pts c.from.ensures c.from-2.ensures

pub loop-i-preserved : goal.loop-i-preserved
loop-i-preserved c =
    let a = c.args in
    let five : length a.pts ≡ max_points = search rules in
    let used = c.fingers_of-i-end.ensures in
    one_more _ a.pts c.loop-i.v c.loop-i.i _ _ (omega (arith, used.1)) (omega (arith, used.1)) c.from-in-loop-i.ensures c.from-in-loop-i-2.ensures c.loop-i.invariant

pub returns : goal.returns
returns c =
    let a = c.args in
    let used = c.fingers_of-i-end.ensures in
    let e : c.loop-i.i ≡ c.fingers_of-i-end.result = omega arith in
    ap (λ (k : ℕ). take (4 + 2 * k) c.loop-i.v) (sym (e ∙ used.0))
    ∙ c.loop-i.invariant.front
    ∙ ap (λ (k : ℕ). kind_report ∷ a.time ∷ a.keys ∷ a.count ∷ coordinates (take k a.pts)) (e ∙ used.0)
