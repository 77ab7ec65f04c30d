-- `text::words::number` meets its contract. Assumes nothing.
use native.Mathlib.Omega.{arith}
use lib.ListN.{length-set}
use Rattle.text.specs.Words.{decimal}
use Rattle.text.proofs.Digits.{decimal-small, decimal-two, one-digit, two_digits, three-digits, four-digits}
use Rattle.text.proofs.words.number.Goals as goal

pub returns-then-v-lt10 : goal.returns-then-v-lt10
returns-then-v-lt10 c =
    record {
      written = one-digit c.args.out.now c.args.at c.args.v c.if-v-lt10.true;
      upper_bound = omega arith;
      upper_bound_2 = λ h. omega arith;
    }

pub bounds-out-at-then-v-lt100-2 : goal.bounds-out-at-then-v-lt100-2
bounds-out-at-then-v-lt100-2 c = simp length-set (omega arith)

pub returns-then-v-lt100 : goal.returns-then-v-lt100
returns-then-v-lt100 c =
    record {
      written = two_digits c.args.out.now c.args.at c.args.v c.if-v-lt10.false c.if-v-lt100.true;
      upper_bound = omega arith;
      upper_bound_2 = λ h. omega arith;
    }

pub bounds-out-at-then-v-lt1000-2 : goal.bounds-out-at-then-v-lt1000-2
bounds-out-at-then-v-lt1000-2 c = simp length-set (omega arith)

pub bounds-out-at-then-v-lt1000-3 : goal.bounds-out-at-then-v-lt1000-3
bounds-out-at-then-v-lt1000-3 c = simp length-set (omega arith)

pub returns-then-v-lt1000 : goal.returns-then-v-lt1000
returns-then-v-lt1000 c =
    record {
      written = three-digits c.args.out.now c.args.at c.args.v c.if-v-lt100.false c.if-v-lt1000.true;
      upper_bound = omega arith;
      upper_bound_2 = λ h. omega (arith, c.if-v-lt100.false);
    }

pub bounds-out-at-then-v-lt10000-2 : goal.bounds-out-at-then-v-lt10000-2
bounds-out-at-then-v-lt10000-2 c = simp length-set (omega arith)

pub bounds-out-at-then-v-lt10000-3 : goal.bounds-out-at-then-v-lt10000-3
bounds-out-at-then-v-lt10000-3 c = simp length-set (omega arith)

pub bounds-out-at-then-v-lt10000-4 : goal.bounds-out-at-then-v-lt10000-4
bounds-out-at-then-v-lt10000-4 c = simp length-set (omega arith)

pub returns-then-v-lt10000 : goal.returns-then-v-lt10000
returns-then-v-lt10000 c =
    record {
      written = four-digits c.args.out.now c.args.at c.args.v c.if-v-lt1000.false c.if-v-lt10000.true;
      upper_bound = omega arith;
      upper_bound_2 = λ h. omega (arith, c.if-v-lt1000.false);
    }

pub digits-requires : goal.digits-requires
unfolding decimal
digits-requires c = omega (arith, decimal-small c.args.v c.requires.0)

pub returns : goal.returns
unfolding decimal
returns c =
    record {
      written = c.digits.ensures;
      upper_bound = omega (arith, c.digits.ensures.ends, decimal-small c.args.v c.requires.0);
      upper_bound_2 = λ h. omega (arith, c.digits.ensures.ends, decimal-two c.args.v h);
    }
