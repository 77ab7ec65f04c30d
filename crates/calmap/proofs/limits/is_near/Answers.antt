-- `calmap::limits::is_near` meets its contract. Assumes nothing.
use mathlib.Core.Path.{sym, ap, ◌∙◌}
use native.Mathlib.Omega.{arith}
use lib.IntN.{ℤ, nat_abs}
use mir.Syntax.{w32}
use mir.Val.{SFits}
use borrow.Author.Rules.{rules}
use Rattle.calmap.specs.Checks.{near}
use Rattle.calmap.specs.Sizes.{shift_limit}
use Rattle.calmap.specs.Units.{sixteenths, sixteenths_within}
use Rattle.calmap.specs.declared.units.Sixteenths.{Sixteenths}
use Rattle.calmap.proofs.Chains.{across-is, across-leaves}
use Rattle.calmap.proofs.Signed.{plain, abs-wide}
use Rattle.calmap.proofs.limits.is_near.Goals as goal

pub returns-in-None : goal.returns-in-None
unfolding near
returns-in-None c =
    let asked = rw c.from.ensures at c.minus.ensures in
    sym (abs-wide _ (nat_abs shift_limit.0) (across-leaves _ (sym asked ∙ c.in-None.is)) (omega arith))

pub returns-in-Some : goal.returns-in-Some
unfolding near
returns-in-Some c =
    let asked = rw c.from.ensures at c.minus.ensures in
    let is = across-is _ _ (sym asked ∙ c.in-Some.is) in
    let f : SFits w32 c.in-Some.d.0 = search rules in
    c.within.ensures ∙ ap (λ (z : ℤ). sixteenths_within shift_limit (sixteenths z)) (plain f) ∙ ap (λ (s : Sixteenths). sixteenths_within shift_limit s) (sym is)
