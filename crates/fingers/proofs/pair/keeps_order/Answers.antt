-- `fingers::pair::keeps_order` meets its contract. Assumes nothing.
use native.Mathlib.Omega.{arith}
use borrow.Author.Rules.{rules}
use Rattle.panel.proofs.Laws.{distance2-at-most}
use Rattle.fingers.proofs.pair.keeps_order.Goals as goal

pub overflow_add-kept : goal.overflow_add-kept
overflow_add-kept c =
    let s = c.args in
    omega (
      arith,
      c.apart2.ensures,
      c.apart2-2.ensures,
      distance2-at-most 65535 s.r.a s.p (search rules) (search rules) (search rules) (search rules),
      distance2-at-most 65535 s.r.b s.q (search rules) (search rules) (search rules) (search rules),
    )

pub overflow_add-crossed : goal.overflow_add-crossed
overflow_add-crossed c =
    let s = c.args in
    omega (
      arith,
      c.apart2-3.ensures,
      c.apart2-4.ensures,
      distance2-at-most 65535 s.r.a s.q (search rules) (search rules) (search rules) (search rules),
      distance2-at-most 65535 s.r.b s.p (search rules) (search rules) (search rules) (search rules),
    )
