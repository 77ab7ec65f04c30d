-- The laws of the measures, which the crates above cite in place of the definitions' text: the larger of two
-- differences, symmetry, and what holds on the panel. Assumes nothing.
use Prim.Native.Nat.{ℕ, ◌+◌, ◌-◌, ◌*◌, ◌≤◌, ◌<◌, max}
use mathlib.Core.Path.{◌≡◌, refl, sym}
use mathlib.Core.Bool.{Bool, true, false, true≢false}
use mathlib.Core.List.{List, [], ◌∷◌, map}
use native.Mathlib.Omega.{arith}
use native.Mathlib.Nat.{max-le, mul-le-mul, add_comm, div-le_of_le-mul, mul_comm}
use lib.ListN.{length}
use borrow.Author.Tests.{ltb-true}
use Rattle.panel.specs.Centroids.{total, mean, middle}
use Rattle.panel.specs.Distances.{difference, distance, distance2}
use Rattle.panel.specs.Points.{on_panel, all_on_panel}
use Rattle.panel.specs.Sizes.{width, height}
use Rattle.panel.specs.Tests.{◌and◌}
use Rattle.panel.specs.declared.points.Point.{Point}
use Rattle.panel.proofs.Follow.{follow}

-- Tests joined by `and`, taken apart.

pub and_left : (a b : Bool) → ◌and◌ a b ≡ true → a ≡ true
unfolding ◌and◌
and_left true b e = refl
and_left false b e = e

pub and_right : (a b : Bool) → ◌and◌ a b ≡ true → b ≡ true
unfolding ◌and◌
and_right true b e = e
and_right false b e = absurd (true≢false (sym e))

-- What it is to be on the panel.

pub on-panel-x : (p : Point) → on_panel p ≡ true → p.x < width
unfolding on_panel
on-panel-x p h = ltb-true _ _ (and_left _ _ h)

pub on-panel-y : (p : Point) → on_panel p ≡ true → p.y < height
unfolding on_panel
on-panel-y p h = ltb-true _ _ (and_right _ _ h)

pub on-panel-by : (p : Point) → p.x < width → p.y < height → on_panel p ≡ true
unfolding on_panel
on-panel-by p hx hy = search follow

-- The larger of the two differences.

pub distance_is : (p q : Point) → distance p q ≡ max (difference p.x q.x) (difference p.y q.y)
unfolding distance
distance_is p q = refl

-- Symmetry.

pub difference-symmetric : (a b : ℕ) → difference a b ≡ difference b a
unfolding difference
difference-symmetric a b = add_comm _ _

pub distance-symmetric : (p q : Point) → distance p q ≡ distance q p
unfolding distance
distance-symmetric p q = rw (difference-symmetric p.x q.x, difference-symmetric p.y q.y)

pub distance2-symmetric : (p q : Point) → distance2 p q ≡ distance2 q p
unfolding distance2
distance2-symmetric p q = rw (difference-symmetric p.x q.x, difference-symmetric p.y q.y)

-- Bounds of any two points, on the panel or not: coordinates of at most n are at most n apart.

pub difference-at-most : (n a b : ℕ) → a ≤ n → b ≤ n → difference a b ≤ n
unfolding difference
difference-at-most n a b ha hb = omega arith

module _ (n : ℕ) (p q : Point) (px : p.x ≤ n) (py : p.y ≤ n) (qx : q.x ≤ n) (qy : q.y ≤ n) where
  pub distance-at-most : distance p q ≤ n
  distance-at-most =
      rw (distance_is p q) (max-le (difference-at-most n p.x q.x px qx) (difference-at-most n p.y q.y py qy))

  pub distance2-at-most : distance2 p q ≤ n * n + n * n
  unfolding distance2
  distance2-at-most =
      let x = difference-at-most n p.x q.x px qx in
      let y = difference-at-most n p.y q.y py qy in
      omega (arith, mul-le-mul x x, mul-le-mul y y)

-- Bounds on the panel.

module _ (p q : Point) (hp : on_panel p ≡ true) (hq : on_panel q ≡ true) where
  across : difference p.x q.x ≤ width - 1
  across =
      let a = on-panel-x p hp in
      let b = on-panel-x q hq in
      difference-at-most (width - 1) p.x q.x (omega arith) (omega arith)

  along : difference p.y q.y ≤ height - 1
  along =
      let a = on-panel-y p hp in
      let b = on-panel-y q hq in
      difference-at-most (height - 1) p.y q.y (omega arith) (omega arith)

  pub distance-on-panel : distance p q < width
  unfolding distance
  distance-on-panel =
      let l = along in
      let y : difference p.y q.y ≤ width - 1 = omega arith in
      omega (arith, max-le across y)

  pub distance2-on-panel : distance2 p q ≤ (width - 1) * (width - 1) + (height - 1) * (height - 1)
  unfolding distance2
  distance2-on-panel = omega (arith, mul-le-mul across across, mul-le-mul along along)

-- The middle of points on the panel is on the panel.

module _ (f : Point → ℕ) (b : ℕ) (at_most : (p : Point) → on_panel p ≡ true → f p ≤ b) where
  total-on-panel : (ps : List Point) → all_on_panel ps ≡ true → total (map f ps) ≤ b * length (map f ps)
  unfolding all_on_panel total
  total-on-panel [] h = omega arith
  total-on-panel (p ∷ ps) h =
      let here = at_most p (and_left _ _ h) in
      let rest = total-on-panel ps (and_right _ _ h) in
      omega arith

  mean-on-panel : (ps : List Point) → all_on_panel ps ≡ true → mean (map f ps) ≤ b
  unfolding mean
  mean-on-panel [] h = omega arith
  mean-on-panel (p ∷ ps) h = div-le_of_le-mul _ (rw (mul_comm (length (map f (p ∷ ps))) b) (total-on-panel (p ∷ ps) h))

pub middle-on-panel : (ps : List Point) → all_on_panel ps ≡ true → on_panel (middle ps) ≡ true
unfolding middle
middle-on-panel ps h =
    let x = mean-on-panel (λ p. p.x) (width - 1) (λ p o. let z = on-panel-x p o in omega arith) ps h in
    let y = mean-on-panel (λ p. p.y) (height - 1) (λ p o. let z = on-panel-y p o in omega arith) ps h in
    on-panel-by (middle ps) (omega arith) (omega arith)
