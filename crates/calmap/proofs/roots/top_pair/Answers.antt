-- v's highest binary digit is at place 63 less its leading zeros (lib.Count).
use Prim.Native.Nat.{ℕ, suc, ◌+◌, ◌-◌, ◌*◌, ◌/◌, ◌%◌, ◌^◌, ◌≤◌, ◌<◌}
use mathlib.Core.Path.{◌≡◌, ap}
use native.Mathlib.Omega.{arith}
use lib.Count.{count_leading_zeros, leading_top}
use Rattle.calmap.proofs.Digits.{top-pair}
use Rattle.calmap.proofs.roots.top_pair.Goals as goal

highest : (c : goal.Start) → (j : ℕ) × (count_leading_zeros 64 c.args.v + suc j ≡ 64) × (2 ^ j ≤ c.args.v) × (c.args.v < 2 ^ suc j)
highest c = leading_top 64 c.args.v c.requires c.ranges.v.fits

pub overflow_sub-result : goal.overflow_sub-result
overflow_sub-result c = omega (arith, (highest c).1)

pub returns : goal.returns
returns c =
    let h = highest c in
    let place : 63 - count_leading_zeros 64 c.args.v ≡ h.0 = omega (arith, h.1) in
    top-pair c.args.v h.0 _ h.2 h.3 (omega (arith, h.1)) (ap (λ (x : ℕ). 1 * 2 ^ (x / 2 * 2 % 2 ^ 32) % 2 ^ 64) place)
