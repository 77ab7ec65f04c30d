-- `calmap::checked::minus` meets its contract. Assumes nothing.
use lib.IntN.{◌-ℤ◌}
use mir.Syntax.{w32}
use mir.Val.{SFits}
use borrow.Author.Rules.{rules}
use Rattle.calmap.specs.Units.{sixteenths}
use Rattle.calmap.specs.code.Checked.{across_of}
use Rattle.calmap.proofs.Chains.{checked-some, checked-none}
use Rattle.calmap.proofs.Signed.{plain}
use Rattle.calmap.proofs.checked.minus.Goals as goal

pub returns-in_err-checked_sub : goal.returns-in_err-checked_sub
unfolding across_of
returns-in_err-checked_sub c =
    let fa : SFits w32 c.args.a.0 = search rules in
    let fb : SFits w32 c.args.b.0 = search rules in
    rw c.from_residual.ensures (checked-none sixteenths (λ i. plain fa i -ℤ plain fb i) c.in_err-checked_sub.ensures)

pub returns : goal.returns
unfolding across_of
returns c =
    let fa : SFits w32 c.args.a.0 = search rules in
    let fb : SFits w32 c.args.b.0 = search rules in
    checked-some sixteenths (λ i. plain fa i -ℤ plain fb i) c.in_ok-checked_sub.ensures
