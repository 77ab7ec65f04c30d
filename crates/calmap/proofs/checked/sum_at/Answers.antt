-- `calmap::checked::sum_at` meets its contract. Assumes nothing.
use mathlib.Core.Path.{◌≡◌, sym, subst, ap, ◌∙◌}
use lib.IntN.{ℤ, ◌+ℤ◌}
use mir.Syntax.{w32}
use mir.Val.{to_z, of_z, SFits}
use borrow.Author.Rules.{rules}
use Rattle.calmap.specs.Units.{steps}
use Rattle.calmap.proofs.Signed.{plain, in32-fits}
use Rattle.calmap.proofs.checked.sum_at.Goals as goal

-- what the machine computes with is a and b
machine : {a b : ℤ} → SFits w32 a → SFits w32 b → to_z w32 (of_z w32 a) +ℤ to_z w32 (of_z w32 b) ≡ a +ℤ b
machine ha hb = λ i. plain ha i +ℤ plain hb i

pub overflow_add-result : goal.overflow_add-result
overflow_add-result c =
    let fa : SFits w32 c.args.a.0 = search rules in
    let fb : SFits w32 c.args.b.0 = search rules in
    subst (SFits w32) (sym (machine fa fb)) (in32-fits _ c.requires)

pub returns : goal.returns
returns c =
    let fa : SFits w32 c.args.a.0 = search rules in
    let fb : SFits w32 c.args.b.0 = search rules in
    let e = machine fa fb in
    ap steps (plain (subst (SFits w32) (sym e) (in32-fits _ c.requires)) ∙ e)
