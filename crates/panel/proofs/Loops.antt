-- What a turn of each loop over the points adds, and what there is after the last. Assumes nothing.
use Prim.Native.Nat.{ℕ, zero, suc, ◌+◌, ◌*◌, ◌/◌, ◌≤◌, ◌<◌}
use mathlib.Core.Path.{◌≡◌, refl, ap, ◌∙◌}
use mathlib.Core.Bool.{Bool}
use mathlib.Core.List.{List, [], ◌∷◌, map}
use native.Mathlib.Nat.{le_of_suc-le-suc, not-suc-le-zero, zero-add, add-zero, add_assoc, mul_comm, div-le_of_le-mul}
use native.Mathlib.Numerals.{add-one}
use native.Mathlib.Omega.{arith}
use lib.ListN.{length, take, get_or, length-take, length-map}
use Rattle.std.proofs.Math.Seq.{take-length}
use mir.Syntax.{w16}
use mir.Val.{Fits}
use Rattle.panel.specs.Centroids.{xs, ys, total, mean, middle}
use Rattle.std.specs.List.{list_all}
use Rattle.panel.proofs.Follow.{both}
use Rattle.panel.specs.Points.{on_panel, all_on_panel}
use Rattle.panel.specs.Tests.{◌and◌}
use Rattle.panel.specs.declared.points.Point.{Point}

module _ {A : Type 0} (f : A → ℕ) where
  total-suc : (ps : List A) (i : ℕ) (d : A) → i < length ps → total (map f (take (suc i) ps)) ≡ total (map f (take i ps)) + f (get_or ps i d)
  unfolding total
  total-suc [] i d h = absurd (not-suc-le-zero h)
  total-suc (p ∷ ps) zero d h = rw (add-zero, zero-add)
  total-suc (p ∷ ps) (suc i) d h = rw (total-suc ps i d (le_of_suc-le-suc h), add_assoc)

  -- a turn of a loop: one number more
  pub total-more : (ps : List A) (i : ℕ) (d : A) → i < length ps → total (map f (take (i + 1) ps)) ≡ total (map f (take i ps)) + f (get_or ps i d)
  total-more ps i d h = rw add-one (total-suc ps i d h)

-- a coordinate's total, shared out among its points, is a coordinate again
pub shared : {t m n : ℕ} → t ≤ 65535 * m → m ≤ n → Fits w16 (t / n)
shared {t} {m} {n} h k =
    let q : t / n ≤ 65535 = div-le_of_le-mul n (rw (mul_comm n 65535) (omega arith)) in
    record { fits = omega arith }

-- the mean of some numbers is their total divided by how many they are
pub mean-is : (ns : List ℕ) (n : ℕ) → length ns ≡ n → 0 < n → mean ns ≡ total ns / n
unfolding mean
mean-is [] n e h = absurd (omega arith)
mean-is (k ∷ ns) n e h = rw e

-- the middle of no point, and of some
pub middle-none : (pts : List Point) → middle (take 0 pts) ≡ record { x = 0; y = 0 }
unfolding middle mean
middle-none pts = refl

pub middle-some : (pts : List Point) (n : ℕ) → 0 < n → n ≤ length pts → middle (take n pts) ≡ record { x = total (xs (take n pts)) / n; y = total (ys (take n pts)) / n }
unfolding middle
middle-some pts n h hn =
    let e : length (take n pts) ≡ n = rw length-take (omega arith) in
    let ex : length (xs (take n pts)) ≡ n = rw (length-map (take n pts) (λ p. p.x)) e in
    let ey : length (ys (take n pts)) ≡ n = rw (length-map (take n pts) (λ p. p.y)) e in
    rw (mean-is (xs (take n pts)) n ex h, mean-is (ys (take n pts)) n ey h)

-- past the last, all of them were taken
pub all-taken : {A : Type 0} (xs : List A) (i : ℕ) → i ≤ length xs → length xs ≤ i → take i xs ≡ xs
all-taken xs i h k =
    let e : i ≡ length xs = omega arith in
    ap (λ n. take n xs) e ∙ take-length xs

-- whether each is on the panel, as the library asks it of a list
pub each-on-panel : (pts : List Point) → list_all on_panel pts ≡ all_on_panel pts
unfolding all_on_panel
each-on-panel [] = refl
each-on-panel (p ∷ pts) = both _ _ ∙ ap (λ (b : Bool). ◌and◌ (on_panel p) b) (each-on-panel pts)
