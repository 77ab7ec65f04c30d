-- `calmap::screens::placed` meets its contract. Assumes nothing.
use Rattle.std.specs.Prelude.{Ok}
use Rattle.std.proofs.lemmas.Result.{err_from_is_err_and}
use Rattle.calmap.specs.code.Checked.{placed_of}
use Rattle.calmap.proofs.Chains.{refused-as}
use Rattle.calmap.proofs.screens.placed.Goals as goal

pub returns-in_err-u : goal.returns-in_err-u
unfolding placed_of
returns-in_err-u c =
    let p = err_from_is_err_and c.from_residual.result c.from_residual.ensures.1 in
    let r = refused-as c.in_err-u.ensures.value in
    rw (p.1, p.2, r.0, r.1)

pub returns-in_err-v : goal.returns-in_err-v
unfolding placed_of
returns-in_err-v c =
    let p = err_from_is_err_and c.from_residual-in_err-v.result c.from_residual-in_err-v.ensures.1 in
    let r = refused-as c.in_err-v.ensures.value in
    rw (p.1, p.2, c.in_ok-u.ensures.ok_part, r.0, r.1)

pub returns : goal.returns
unfolding placed_of
returns c = rw (c.in_ok-u.ensures.ok_part, c.in_ok-v.ensures.ok_part) (λ i. Ok (record { x = c.shifted.ensures i; y = c.shifted-2.ensures i }))
