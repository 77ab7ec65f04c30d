-- How many fingers a count means: itself up to five, and five over it; and one point's test. Assumes nothing.
use mathlib.Core.Path.{◌≡◌, refl}
use mathlib.Core.Bool.{Bool, true, false}
use mathlib.Core.List.{[], ◌∷◌}
use Prim.Native.Nat.{ℕ, ◌≤◌, ◌<◌}
use native.Mathlib.Omega.{arith}
use Rattle.panel.specs.Tests as tests
use Rattle.panel.specs.Tests.{◌and◌}
use Rattle.panel.specs.Sizes.{max_points}
use Rattle.panel.specs.Points.{fingers, on_panel, all_on_panel}
use Rattle.panel.specs.declared.points.Point.{Point}

pub fingers-few : (count : ℕ) → count < 6 → fingers count ≡ count
unfolding fingers
fingers-few count h = omega arith

pub fingers-many : (count : ℕ) → 6 ≤ count → fingers count ≡ 5
unfolding fingers
fingers-many count h = omega arith

-- the fingers of a count that is none of 0, 1 and 2
pub fingers-range : (count : ℕ) → (count ≡ 0 → ⊥) → (count ≡ 1 → ⊥) → (count ≡ 2 → ⊥) → (2 ≤ fingers count) × (fingers count ≤ max_points)
unfolding fingers
fingers-range count n0 n1 n2 =
    let three : 3 ≤ count = omega (arith, n0, n1, n2) in
    (omega arith, omega arith)

pub fingers-twice : (count : ℕ) → fingers (fingers count) ≡ fingers count
unfolding fingers
fingers-twice count = omega arith

and-nothing : (a : Bool) → ◌and◌ a true ≡ a
unfolding tests.◌and◌
and-nothing true = refl
and-nothing false = refl

pub one-point : (p : Point) → all_on_panel (p ∷ []) ≡ on_panel p
unfolding all_on_panel
one-point p = and-nothing (on_panel p)
