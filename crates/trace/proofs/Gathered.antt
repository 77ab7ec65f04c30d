-- The numbers of a record as the code gathers them. Assumes nothing.
use Prim.Native.Nat.{ℕ, suc, ◌+◌, ◌*◌, ◌<◌}
use mathlib.Core.Path.{◌≡◌, refl, sym, ap, ◌∙◌}
use mathlib.Core.List.{List, [], ◌∷◌, ◌++◌, append_assoc}
use native.Mathlib.Omega.{arith}
use native.Mathlib.Numerals.{add-one}
use lib.ListN.{length, take, get_or, set, replicate, length-set}
use lib.Seq.{take-suc, take-suc-set}
use borrow.Author.Tests.{eq-eqb}
use Rattle.panel.proofs.Follow.{if-true}
use Rattle.panel.specs.Points.{fingers}
use Rattle.panel.specs.Tests.{when◌then◌else◌, ◌=?◌}
use Rattle.panel.specs.declared.points.Point.{Point}
use Rattle.trace.specs.Calls.{coordinates}
use Rattle.trace.specs.Records.{nowhere}
use Rattle.trace.specs.Sizes.{kind_report}
use Rattle.trace.specs.code.Sizes.{most_numbers}

-- The points in use.
one-finger : fingers 1 ≡ 1
unfolding fingers
one-finger = refl

-- of a list with p in front
pub one-used : (count : ℕ) (p : Point) (ps pts : List Point) → count ≡ 1 → take (fingers count) (p ∷ ps) ≡ when◌then◌else◌ (count =? 1) (p ∷ []) (take (fingers count) pts)
one-used count p ps pts one = ap (λ (k : ℕ). take k (p ∷ ps)) (ap fingers one ∙ one-finger) ∙ sym (if-true _ _ _ (eq-eqb count 1 one))

-- The loop: the numbers of the points before the i-th are in place, behind the head.
coordinates-join : (ps qs : List Point) → coordinates (ps ++ qs) ≡ coordinates ps ++ coordinates qs
unfolding coordinates
coordinates-join [] qs = refl
coordinates-join (p ∷ ps) qs = ap (λ (l : List ℕ). p.x ∷ p.y ∷ l) (coordinates-join ps qs)

coordinates-one : (p : Point) → coordinates (p ∷ []) ≡ p.x ∷ p.y ∷ []
unfolding coordinates
coordinates-one p = refl

pub record Gathering (head : List ℕ) (pts : List Point) (v : List ℕ) (i : ℕ) : Type 0 where
  pub all : length v ≡ most_numbers
  pub front : take (4 + 2 * i) v ≡ head ++ coordinates (take i pts)

-- two numbers more, behind those in place
two-more : (v : List ℕ) (n x y : ℕ) → n + 1 < length v → take (n + 2) (set (set v n x) (n + 1) y) ≡ take n v ++ (x ∷ y ∷ [])
two-more v n x y h =
    let w = set v n x in
    let e : n + 2 ≡ suc (n + 1) = omega arith in
    ap (λ (k : ℕ). take k (set w (n + 1) y)) e
    ∙ take-suc-set w (n + 1) y (omega (arith, length-set v n x))
    ∙ ap (λ (k : ℕ). take k w ++ (y ∷ [])) (add-one n)
    ∙ ap (λ (l : List ℕ). l ++ (y ∷ [])) (take-suc-set v n x (omega arith))
    ∙ append_assoc (take n v) (x ∷ []) (y ∷ [])

pub one_more : (head : List ℕ) (pts : List Point) (v : List ℕ) (i x y : ℕ) → i < length pts → 4 + 2 * i + 1 < most_numbers →
    x ≡ (get_or pts i nowhere).x → y ≡ (get_or pts i nowhere).y → Gathering head pts v i → Gathering head pts (set (set v (4 + 2 * i) x) (4 + 2 * i + 1) y) (i + 1)
one_more head pts v i x y h room ex ey g =
    let p = get_or pts i nowhere in
    let n = 4 + 2 * i in
    let next : 4 + 2 * (i + 1) ≡ n + 2 = omega arith in
    let one : take (i + 1) pts ≡ take i pts ++ (p ∷ []) = ap (λ (k : ℕ). take k pts) (add-one i) ∙ take-suc pts i nowhere h in
    let both : x ∷ y ∷ [] ≡ coordinates (p ∷ []) = ap (λ (k : ℕ). k ∷ y ∷ []) ex ∙ ap (λ (k : ℕ). p.x ∷ k ∷ []) ey ∙ sym (coordinates-one p) in
    record {
      all = length-set (set v n x) (n + 1) y ∙ length-set v n x ∙ g.all;
      front =
          ap (λ (k : ℕ). take k (set (set v n x) (n + 1) y)) next
          ∙ two-more v n x y (omega (arith, g.all))
          ∙ ap (λ (l : List ℕ). l ++ (x ∷ y ∷ [])) g.front
          ∙ ap (λ (l : List ℕ). (head ++ coordinates (take i pts)) ++ l) both
          ∙ append_assoc head (coordinates (take i pts)) (coordinates (p ∷ []))
          ∙ ap (λ (l : List ℕ). head ++ l) (sym (ap coordinates one ∙ coordinates-join (take i pts) (p ∷ [])));
    }

-- before the loop
pub none_more : (time keys count k c : ℕ) (pts : List Point) → k ≡ keys → c ≡ count →
    Gathering (kind_report ∷ time ∷ keys ∷ count ∷ []) pts (set (set (set (set (replicate most_numbers 0) 0 kind_report) 1 time) 2 k) 3 c) 0
unfolding coordinates
none_more time keys count k c pts ek ec = record { all = refl; front = ap (λ (n : ℕ). kind_report ∷ time ∷ n ∷ c ∷ []) ek ∙ ap (λ (n : ℕ). kind_report ∷ time ∷ keys ∷ n ∷ []) ec }
