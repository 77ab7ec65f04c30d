-- The public calls in document 01's numbers: what each tells for every input, and that its contract leaves no
-- second answer. Assumes nothing.
use Rattle.std.specs.Prelude.{Option, None, Result}
use Prim.Native.Nat.{ℕ, ◌*◌, ◌≤◌, ◌<◌, max}
use mathlib.Core.Bool.{Bool}
use mathlib.Core.Path.{◌≡◌, refl, sym, ◌∙◌}
use mathlib.Core.List.{List, [], ◌∷◌, map}
use lib.IntN.{ℤ, nat_abs}
use native.Mathlib.Omega.{arith}
use Rattle.panel.specs.Axes.{axis_of, lock_of, told_lock, axis_number}
use Rattle.panel.specs.Centroids.{middle, centroid_of, told_centroid}
use Rattle.panel.specs.Distances.{difference, distance, distance2, dist_of, dist2_of, told_dist}
use Rattle.panel.specs.Points.{on_panel, all_on_panel, fingers, first_points}
use Rattle.panel.specs.Refusals.{number_of, Told}
use Rattle.panel.specs.Sizes.{lock_wide}
use Rattle.panel.specs.Tests.{when◌then◌else◌, ◌and◌, ◌≤?◌, bit}
use Rattle.panel.specs.declared.axes.Axis.{Axis}
use Rattle.panel.specs.declared.points.Point.{Point}
use Rattle.panel.specs.declared.refusals.Refusal.{Refusal}
use Rattle.panel.specs.declared.refusals.Refusal.TheVariants.{State, Panel, Wide, Long, Target, Few, Huge, Version, Cut, Form, Big, Kind, File, Room, Line, Steep}
use Rattle.panel.proofs.Follow.{if-of}

-- Two values that are both what a definition says are the same. Every line named `...-unique`, here and in the crates
-- above, is this law: where a contract says what comes back, it leaves no second answer.
pub one_answer : {A : Type 0} {told r s : A} → r ≡ told → s ≡ told → r ≡ s
one_answer p q = p ∙ sym q

-- The table's order: the refusals have the numbers 1 to 14, 16 and 17, each its own. 15 is a later request's.
pub numbers : map number_of (State ∷ Panel ∷ Wide ∷ Long ∷ Target ∷ Few ∷ Huge ∷ Version ∷ Cut ∷ Form ∷ Big ∷ Kind ∷ File ∷ Room ∷ Line ∷ Steep ∷ []) ≡ 1 ∷ 2 ∷ 3 ∷ 4 ∷ 5 ∷ 6 ∷ 7 ∷ 8 ∷ 9 ∷ 10 ∷ 11 ∷ 12 ∷ 13 ∷ 14 ∷ 16 ∷ 17 ∷ []
numbers = refl

-- a number has two digits at most
pub two_digits : (why : Refusal) → number_of why < 100
two_digits State = omega arith
two_digits Panel = omega arith
two_digits Wide = omega arith
two_digits Long = omega arith
two_digits Target = omega arith
two_digits Few = omega arith
two_digits Huge = omega arith
two_digits Version = omega arith
two_digits Cut = omega arith
two_digits Form = omega arith
two_digits Big = omega arith
two_digits Kind = omega arith
two_digits File = omega arith
two_digits Room = omega arith
two_digits Line = omega arith
two_digits Steep = omega arith

abbrev tells : {A : Type 0} → ℕ → A → Told A
tells n a = record { number = n; value = a }

-- PANEL, number 2 and a zero, exactly for a point off the panel.
pub dist-tells : (p q : Point) → told_dist (dist_of p q) ≡ when◌then◌else◌ (◌and◌ (on_panel p) (on_panel q)) (tells 0 (distance p q)) (tells 2 0)
unfolding dist_of
dist-tells p q = if-of told_dist _ _ _

pub dist2-tells : (p q : Point) → told_dist (dist2_of p q) ≡ when◌then◌else◌ (◌and◌ (on_panel p) (on_panel q)) (tells 0 (distance2 p q)) (tells 2 0)
unfolding dist2_of
dist2-tells p q = if-of told_dist _ _ _

pub centroid-tells : (count : ℕ) (pts : List Point) → told_centroid (centroid_of count pts) ≡ when◌then◌else◌ (all_on_panel (first_points count pts)) (tells 0 (middle (first_points count pts))) (tells 2 (record { x = 0; y = 0 }))
unfolding centroid_of
centroid-tells count pts = if-of told_centroid _ _ _

-- WIDE, number 3, exactly past the limit in either part.
pub lock-tells : (dx dy : ℤ) → told_lock (lock_of dx dy) ≡ when◌then◌else◌ (◌and◌ (nat_abs dx ≤? lock_wide) (nat_abs dy ≤? lock_wide)) (tells 0 (axis_of (nat_abs dx) (nat_abs dy))) (tells 3 None)
unfolding lock_of
lock-tells dx dy = if-of told_lock _ _ _

-- Each contract determines the answer, one line for each public function.

pub number-unique : (why : Refusal) {r s : ℕ} → r ≡ number_of why → s ≡ number_of why → r ≡ s
number-unique why = one_answer

pub on-panel-unique : (p : Point) {r s : Bool} → r ≡ on_panel p → s ≡ on_panel p → r ≡ s
on-panel-unique p = one_answer

pub each-on-panel-unique : (ps : List Point) {r s : Bool} → r ≡ all_on_panel ps → s ≡ all_on_panel ps → r ≡ s
each-on-panel-unique ps = one_answer

pub fingers-unique : (count : ℕ) {r s : ℕ} → r ≡ fingers count → s ≡ fingers count → r ≡ s
fingers-unique count = one_answer

pub gap-unique : (a b : ℕ) {r s : ℕ} → r ≡ difference a b → s ≡ difference a b → r ≡ s
gap-unique a b = one_answer

pub larger-unique : (a b : ℕ) {r s : ℕ} → r ≡ max a b → s ≡ max a b → r ≡ s
larger-unique a b = one_answer

module _ (p q : Point) where
  pub apart-unique : {r s : ℕ} → r ≡ distance p q → s ≡ distance p q → r ≡ s
  apart-unique = one_answer

  pub apart2-unique : {r s : ℕ} → r ≡ distance2 p q → s ≡ distance2 p q → r ≡ s
  apart2-unique = one_answer

  pub dist-unique : {r s : Result ℕ Refusal} → r ≡ dist_of p q → s ≡ dist_of p q → r ≡ s
  dist-unique = one_answer

  pub dist2-unique : {r s : Result ℕ Refusal} → r ≡ dist2_of p q → s ≡ dist2_of p q → r ≡ s
  dist2-unique = one_answer

module _ (count : ℕ) (pts : List Point) where
  pub all-on-panel-unique : {r s : Bool} → r ≡ all_on_panel (first_points count pts) → s ≡ all_on_panel (first_points count pts) → r ≡ s
  all-on-panel-unique = one_answer

  pub middle-unique : {r s : Point} → r ≡ middle (first_points count pts) → s ≡ middle (first_points count pts) → r ≡ s
  middle-unique = one_answer

  pub centroid-unique : {r s : Result Point Refusal} → r ≡ centroid_of count pts → s ≡ centroid_of count pts → r ≡ s
  centroid-unique = one_answer

pub magnitude-unique : (v : ℤ) {r s : ℕ} → r ≡ nat_abs v → s ≡ nat_abs v → r ≡ s
magnitude-unique v = one_answer

pub axis-along-unique : (ax ay : ℕ) {r s : Option Axis} → r ≡ axis_of ax ay → s ≡ axis_of ax ay → r ≡ s
axis-along-unique ax ay = one_answer

pub axis-number-unique : (a : Axis) {r s : ℕ} → r ≡ axis_number a → s ≡ axis_number a → r ≡ s
axis-number-unique a = one_answer

pub bit-unique : (b : Bool) {r s : ℕ} → r ≡ bit b → s ≡ bit b → r ≡ s
bit-unique b = one_answer

pub lock-unique : (dx dy : ℤ) {r s : Result (Option Axis) Refusal} → r ≡ lock_of dx dy → s ≡ lock_of dx dy → r ≡ s
lock-unique dx dy = one_answer

-- a square's contract has a bound besides
pub square-unique : (d : ℤ) {r s : ℕ} → (r ≡ nat_abs d * nat_abs d) × (r ≤ 4611686018427387904) → (s ≡ nat_abs d * nat_abs d) × (s ≤ 4611686018427387904) → r ≡ s
square-unique d p q = one_answer p.0 q.0
