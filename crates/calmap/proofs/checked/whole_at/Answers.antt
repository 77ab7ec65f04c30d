-- `calmap::checked::whole_at` meets its contract. Assumes nothing.
use mathlib.Core.Path.{◌≡◌, sym, subst, ap, ◌∙◌}
use lib.IntN.{ℤ, pos, ◌*ℤ◌}
use mir.Syntax.{w32}
use mir.Val.{to_z, of_z, SFits}
use Rattle.calmap.specs.Sizes.{one}
use Rattle.calmap.specs.Units.{steps}
use Rattle.calmap.proofs.Signed.{plain, in32-fits}
use Rattle.calmap.proofs.checked.whole_at.Goals as goal

-- what the machine computes with is v
machine : {v : ℤ} → SFits w32 v → to_z w32 (of_z w32 v) *ℤ pos one ≡ v *ℤ pos one
machine h = ap (λ (z : ℤ). z *ℤ pos one) (plain h)

pub overflow_mul-result : goal.overflow_mul-result
overflow_mul-result c = subst (SFits w32) (sym (machine c.ranges.v)) (in32-fits _ c.requires)

pub returns : goal.returns
returns c =
    let e = machine c.ranges.v in
    ap steps (plain (subst (SFits w32) (sym e) (in32-fits _ c.requires)) ∙ e)
