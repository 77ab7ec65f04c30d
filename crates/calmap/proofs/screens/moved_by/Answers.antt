-- `calmap::screens::moved_by` meets its contract. Assumes nothing.
use Prim.Native.Nat.{◌<◌, ℕ}
use mathlib.Core.Path.{◌≡◌, sym, subst, ◌∙◌}
use lib.IntN.{pos, ◌+ℤ◌, ℤ}
use mir.Syntax.{w32}
use mir.Val.{to_z, of_z, SFits}
use borrow.Author.Rules.{rules}
use Rattle.calmap.specs.Units.{down_sixteen}
use Rattle.calmap.proofs.Floors.{moved-fits}
use Rattle.calmap.proofs.Signed.{plain}
use Rattle.calmap.specs.declared.units.Q16.{Q16}
use Rattle.calmap.proofs.screens.moved_by.Goals as goal

-- what the machine adds up
machine : {x y : ℤ} (v : ℕ) (s : Q16) → SFits w32 x → x ≡ pos v → SFits w32 y → y ≡ down_sixteen s → to_z w32 (of_z w32 x) +ℤ to_z w32 (of_z w32 y) ≡ pos v +ℤ down_sixteen s
machine v s fv ev fs es = λ i. (plain fv ∙ ev) i +ℤ (plain fs ∙ es) i

pub overflow_add-result : goal.overflow_add-result
overflow_add-result c =
    let a = c.args in
    let fv : SFits w32 c.from.result = search rules in
    let fs : SFits w32 c.down_sixteen.result = search rules in
    let small : a.v < 65536 = search rules in
    let f : SFits w32 a.s.0 = search rules in
    subst (SFits w32) (sym (machine a.v a.s fv c.from.ensures fs c.down_sixteen.ensures)) (record { sfits = moved-fits a.v a.s small f.sfits })

pub returns : goal.returns
returns c =
    let a = c.args in
    let fv : SFits w32 c.from.result = search rules in
    let fs : SFits w32 c.down_sixteen.result = search rules in
    let small : a.v < 65536 = search rules in
    let f : SFits w32 a.s.0 = search rules in
    let e = machine a.v a.s fv c.from.ensures fs c.down_sixteen.ensures in
    plain (subst (SFits w32) (sym e) (record { sfits = moved-fits a.v a.s small f.sfits })) ∙ e
