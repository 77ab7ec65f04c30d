-- `calmap::gaps::in_tenths` meets its contract: the root of 25·d2/64 is the tenths. Assumes nothing.
use Prim.Native.Nat.{ℕ, ◌+◌, ◌*◌, ◌/◌, ◌^◌, ◌≤◌, ◌<◌}
use lib.Bits.{bit_and}
use mathlib.Core.Path.{sym, ap, subst, ◌∙◌}
use native.Mathlib.Omega.{arith}
use Rattle.calmap.specs.Units.{tenths}
use Rattle.calmap.specs.code.Checked.{farthest_tenths}
use Rattle.calmap.specs.declared.units.Tenths.{Tenths}
use Rattle.calmap.proofs.Rooted.{root_is, root-below-end}
use Rattle.calmap.proofs.Telling.{tenths-are, one-tenths, low-digits, by-root, tenths-of-miss}
use Rattle.calmap.proofs.gaps.ScaledRule.in_tenths.Goals as goal

pub overflow_mul-d2-2 : goal.overflow_mul-d2-2
overflow_mul-d2-2 c = record { fits = omega (arith, low-digits c.args.d2) }

pub overflow_add-d2 : goal.overflow_add-d2
overflow_add-d2 c = record { fits = omega (arith, low-digits c.args.d2, c.ranges.d2.fits) }

-- what is added up fits
sum_fits : {d2 : ℕ} → d2 < 2 ^ 64 → 25 * (d2 / 64) + 25 * bit_and d2 63 / 64 < 2 ^ 64
sum_fits {d2} h = omega (arith, low-digits d2)

pub overflow_cast-result : goal.overflow_cast-result
overflow_cast-result c = record { fits = rw c.isqrt.ensures (root-below-end _ (sum_fits c.ranges.d2.fits)) }

pub returns-clause-told : goal.returns-clause-told
returns-clause-told c =
    let d2 = c.args.d2 in
    let root = root_is _ (sum_fits c.ranges.d2.fits) in
    ap tenths c.isqrt.ensures ∙ one-tenths (by-root _ d2 root) (tenths-are d2 c.ranges.d2.fits)

pub returns-clause-near : goal.returns-clause-near
returns-clause-near c h =
    let t = sym (returns-clause-told c) in
    subst (λ (t : Tenths). t.0 ≤ farthest_tenths) t (tenths-of-miss c.args.d2 h)
