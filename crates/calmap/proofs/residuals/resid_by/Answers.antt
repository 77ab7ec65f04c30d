-- `calmap::residuals::resid_by` meets its contract: the loop's sum and largest, and the distances still to come, make the
-- whole (Tallying). Assumes nothing.
use Rattle.std.specs.Prelude.{Option, Some}
use Rattle.std.proofs.lemmas.Result.{err_from_is_err_and}
use Prim.Native.Nat.{◌+◌, ◌≤◌, ◌<◌, ℕ}
use mathlib.Core.Path.{◌≡◌, sym, subst, ◌∙◌}
use native.Mathlib.Omega.{arith}
use lib.ListN.{take, length-take}
use Rattle.calmap.specs.code.Checked.{farthest, farthest_tenths, square_in}
use Rattle.calmap.proofs.Chains.{refused-as}
use Rattle.calmap.proofs.Firsts.{resid-long}
use Rattle.calmap.proofs.Tallying.{spread_from, misses_from, resid-none, loop-first, loop-next, loop-stops, loop-ends}
use Rattle.calmap.specs.declared.units.Aim.{Aim}
use Rattle.calmap.proofs.residuals.resid_by.Goals as goal

pub returns-then-n-gt-MAX_TAPS : goal.returns-then-n-gt-MAX_TAPS
returns-then-n-gt-MAX_TAPS g c = sym (resid-long _ _ _ _ c.if-n-gt-MAX_TAPS.true)

pub returns-then-n-eq0 : goal.returns-then-n-eq0
returns-then-n-eq0 g c = sym (resid-none g.R.Rule.tenths _ _ _ c.if-n-eq0.true)

pub loop-p-init : goal.loop-p-init
loop-p-init g c =
    let s = c.args in
    record { small = omega arith; whole = loop-first g.R.Rule.tenths s.c s.n s.pairs (omega arith) (omega (arith, c.if-n-eq0.false)) c.if-n-gt-MAX_TAPS.false }

pub returns-in_err-d2 : goal.returns-in_err-d2
returns-in_err-d2 g c =
    let s = c.args in
    let at = c.loop-p in
    let p = err_from_is_err_and c.from_residual.result c.from_residual.ensures.1 in
    let r = refused-as c.in_err-d2.ensures.value in
    rw (p.1, p.2, r.1) (sym (at.invariant.whole ∙ loop-stops g.R.Rule.tenths s.c s.n (take s.n s.pairs) at.p-index at.sum at.most c.miss.result c.loop-p-test.true c.miss.ensures.0 r.0))

-- a distance is not far
near : {g : Option ℕ} {d2 t : ℕ} → square_in g ≤ farthest → g ≡ Some d2 → (d2 ≤ farthest → t ≤ farthest_tenths) → t ≤ farthest_tenths
near h e f = f (subst (λ (g : Option ℕ). square_in g ≤ farthest) e h)

pub together-sum-requires : goal.together-sum-requires
together-sum-requires g c =
    let d = near c.miss.ensures.1 c.in_ok-d2.ensures.ok_part c.in_tenths-d.ensures.near in
    let more : c.loop-p.p-index < 64 = omega (arith, c.loop-p-test.true, length-take {A = Aim}) in
    omega (arith, c.loop-p.invariant.small)

pub loop-p-preserved : goal.loop-p-preserved
loop-p-preserved g c =
    let s = c.args in
    let at = c.loop-p in
    let ps = take s.n s.pairs in
    let d = near c.miss.ensures.1 c.in_ok-d2.ensures.ok_part c.in_tenths-d.ensures.near in
    let next = loop-next g.R.Rule.tenths s.c s.n ps at.p-index at.sum at.most c.miss.result c.loop-p-test.true c.miss.ensures.0 c.in_ok-d2.d2 c.in_tenths-d.result c.in_ok-d2.ensures.ok_part c.in_tenths-d.ensures.told in
    let sum = sym c.together-sum.ensures in
    let most = sym c.farther-most.ensures in
    record {
      small = rw c.together-sum.ensures (omega (arith, at.invariant.small));
      whole = at.invariant.whole ∙ next ∙ (λ j. spread_from g.R.Rule.tenths s.n (sum j) (most j) (misses_from s.c ps (at.p-index + 1)));
    }

pub returns : goal.returns
returns g c =
    let s = c.args in
    let at = c.loop-p in
    sym (at.invariant.whole ∙ loop-ends g.R.Rule.tenths s.c s.n (take s.n s.pairs) at.p-index at.sum at.most (omega arith))
