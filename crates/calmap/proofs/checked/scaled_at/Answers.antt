-- `calmap::checked::scaled_at` meets its contract. Assumes nothing.
use mathlib.Core.Path.{◌≡◌, sym, subst, ap, ◌∙◌}
use lib.IntN.{ℤ, ◌*ℤ◌}
use mir.Syntax.{w32}
use mir.Val.{to_z, of_z, SFits}
use borrow.Author.Rules.{rules}
use Rattle.calmap.specs.Units.{steps}
use Rattle.calmap.proofs.Signed.{plain, in32-fits}
use Rattle.calmap.proofs.checked.scaled_at.Goals as goal

-- what the machine computes with is q and x
machine : {q x : ℤ} → SFits w32 q → SFits w32 x → to_z w32 (of_z w32 q) *ℤ to_z w32 (of_z w32 x) ≡ q *ℤ x
machine hq hx = λ i. plain hq i *ℤ plain hx i

pub overflow_mul-result : goal.overflow_mul-result
overflow_mul-result c =
    let f : SFits w32 c.args.q.0 = search rules in
    subst (SFits w32) (sym (machine f c.ranges.x)) (in32-fits _ c.requires)

pub returns : goal.returns
returns c =
    let f : SFits w32 c.args.q.0 = search rules in
    let e = machine f c.ranges.x in
    ap steps (plain (subst (SFits w32) (sym e) (in32-fits _ c.requires)) ∙ e)
