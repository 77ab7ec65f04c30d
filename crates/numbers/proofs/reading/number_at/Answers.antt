-- `numbers::reading::number_at` meets its contract. Assumes nothing.
use Rattle.std.specs.Prelude.{Ok}
use Prim.Native.Nat.{ℕ, ◌+◌}
use mathlib.Core.Path.{sym, ap, ◌∙◌}
use native.Mathlib.Omega.{arith}
use Rattle.numbers.specs.Sizes.{most_groups}
use Rattle.numbers.specs.code.Groups.{judged_as}
use Rattle.numbers.proofs.Grouping.{last-group, number-here, number-missing, number-most}
use Rattle.numbers.proofs.reading.number_at.Goals as goal

-- one group is all of it
pub returns-then-b-lt-HIGH_BIT : goal.returns-then-b-lt-HIGH_BIT
returns-then-b-lt-HIGH_BIT c =
    let a = c.args in
    let here = c.if-s-at.false in
    let e =
    c.within.ensures
    ∙ ap (λ (v : ℕ). judged_as a.at a.most (Ok (v, a.at + 1))) c.from.ensures
    ∙ ap (judged_as a.at a.most) (sym (last-group _ a.at most_groups (λ n. omega (arith, n)) here c.if-b-lt-HIGH_BIT.true))
    ∙ number-here _ _ _ here (omega arith) in
    record { value = e; v_le_most = number-most _ _ _ _ e }

pub returns-in-Ok : goal.returns-in-Ok
returns-in-Ok c =
    let a = c.args in
    let e = c.within-in-Ok.ensures ∙ ap (judged_as a.at a.most) c.in-Ok.ensures ∙ number-here _ _ _ c.if-s-at.false (omega arith) in
    record { value = e; v_le_most = number-most _ _ _ _ e }

pub returns-in-Err-clause-value : goal.returns-in-Err-clause-value
returns-in-Err-clause-value c =
    let a = c.args in
    rw c.from-in-Err.ensures (ap (judged_as a.at a.most) c.in-Err.ensures ∙ number-here _ _ _ c.if-s-at.false (omega arith))

pub returns-then-s-at-clause-value : goal.returns-then-s-at-clause-value
returns-then-s-at-clause-value c = number-missing _ _ _ c.if-s-at.true
