-- `calmap::checked::add` meets its contract. Assumes nothing.
use lib.IntN.{◌+ℤ◌}
use mir.Syntax.{w32}
use mir.Val.{SFits}
use borrow.Author.Rules.{rules}
use Rattle.calmap.specs.Units.{steps}
use Rattle.calmap.specs.code.Checked.{narrow_of}
use Rattle.calmap.proofs.Chains.{checked-some, checked-none}
use Rattle.calmap.proofs.Signed.{plain}
use Rattle.calmap.proofs.checked.add.Goals as goal

pub returns-in_err-checked_add : goal.returns-in_err-checked_add
unfolding narrow_of
returns-in_err-checked_add c =
    let fa : SFits w32 c.args.a.0 = search rules in
    let fb : SFits w32 c.args.b.0 = search rules in
    rw c.from_residual.ensures (checked-none steps (λ i. plain fa i +ℤ plain fb i) c.in_err-checked_add.ensures)

pub returns : goal.returns
unfolding narrow_of
returns c =
    let fa : SFits w32 c.args.a.0 = search rules in
    let fb : SFits w32 c.args.b.0 = search rules in
    checked-some steps (λ i. plain fa i +ℤ plain fb i) c.in_ok-checked_add.ensures
