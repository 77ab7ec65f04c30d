-- `in_tenths` of the old rule meets its contract. Assumes nothing.
use Prim.Native.Nat.{ℕ, ◌≤◌, ◌<◌, ◌*◌, ◌/◌, ◌^◌}
use mathlib.Core.Path.{◌≡◌, sym, ap, subst}
use native.Mathlib.Omega.{arith}
use Rattle.calmap.specs.Units.{tenths}
use Rattle.calmap.specs.Sizes.{sixteenths_in}
use Rattle.calmap.specs.code.Checked.{farthest_tenths}
use Rattle.calmap.specs.declared.units.Tenths.{Tenths}
use Rattle.calmap.proofs.Laws.{root-fits}
use Rattle.oldtenths.proofs.Laws.{old-of-miss}
use Rattle.oldtenths.specs.OldTenths.{tenths_in, old_tenths_of}
use Rattle.calmap.specs.Roots.{root_of}
use Rattle.oldtenths.proofs.gaps.OldRule.in_tenths.Goals as goal

small : {r d2 : ℕ} → d2 < 2 ^ 64 → r ≡ root_of d2 → r < 4294967296
small {r} {d2} h e = rw e (root-fits d2 h)

pub overflow_mul-result : goal.overflow_mul-result
overflow_mul-result c = let h = small c.ranges.d2.fits c.isqrt.ensures in record { fits = omega arith }

pub overflow_cast-result : goal.overflow_cast-result
overflow_cast-result c = let h = small c.ranges.d2.fits c.isqrt.ensures in record { fits = omega arith }

pub returns-clause-told : goal.returns-clause-told
unfolding old_tenths_of
returns-clause-told c = ap (λ (r : ℕ). tenths (r * tenths_in / sixteenths_in)) c.isqrt.ensures

pub returns-clause-near : goal.returns-clause-near
returns-clause-near c h = subst (λ (t : Tenths). t.0 ≤ farthest_tenths) (sym (returns-clause-told c)) (old-of-miss c.args.d2 h)
