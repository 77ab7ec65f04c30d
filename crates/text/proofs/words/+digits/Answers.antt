-- `text::words::digits` meets its contract: by recursion on how many digits are left. Assumes nothing.
use native.Mathlib.Omega.{arith}
use mathlib.Core.Path.{ap}
use lib.ListN.{length}
use Rattle.text.proofs.Digits.{digits_last, more-length, written_none, written_last, written-more}
use Rattle.text.proofs.words.+digits.Goals as goal

pub returns-then-left-eq0 : goal.returns-then-left-eq0
returns-then-left-eq0 t c = written_none c.args.out.now c.args.at c.args.left c.args.v c.if-left-eq0.true

pub bounds-out-at : goal.bounds-out-at
bounds-out-at t c = omega (arith, ap length (digits_last c.args.left c.args.v c.if-left-eq0.false c.if-v-lt10.true))

pub returns-then-v-lt10 : goal.returns-then-v-lt10
returns-then-v-lt10 t c = written_last c.args.out.now c.args.at c.args.left c.args.v c.if-left-eq0.false c.if-v-lt10.true

pub digits-a-requires : goal.digits-a-requires
digits-a-requires t c = (omega arith, omega (arith, more-length c.args.left c.args.v c.if-left-eq0.false c.if-v-lt10.false))

pub bounds-out-a : goal.bounds-out-a
bounds-out-a t c =
    omega (arith, more-length c.args.left c.args.v c.if-left-eq0.false c.if-v-lt10.false, c.digits-a.ensures.ends, c.digits-a.auto.out)

pub overflow_add-result-2 : goal.overflow_add-result-2
overflow_add-result-2 t c =
    omega (arith, more-length c.args.left c.args.v c.if-left-eq0.false c.if-v-lt10.false, c.digits-a.ensures.ends)

pub returns : goal.returns
returns t c =
    written-more c.args.out.now c.args.at c.args.left c.args.v _ _ c.if-left-eq0.false c.if-v-lt10.false c.digits-a.ensures
