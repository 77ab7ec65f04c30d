-- A number that was written is read back, whatever follows it. Assumes nothing.
use Prim.Native.Nat.{ℕ, zero, suc, ◌+◌, ◌-◌, ◌/◌, ◌%◌, ◌^◌, ◌≤◌, ◌<◌, min}
use mathlib.Core.Path.{◌≡◌, sym, ap, subst, ◌∙◌}
use mathlib.Core.Bool.{false}
use mathlib.Core.List.{List, [], ◌∷◌, ◌++◌, append_assoc}
use native.Mathlib.Omega.{arith}
use native.Mathlib.Nat.{pow-suc, div-lt_iff_lt-mul, le-div_iff_mul-le, mod-add-div, mod-lt}
use lib.Dec.{lit<}
use lib.ListN.{length, drop, length-append}
use lib.Seq.{drop-drop, drop-append_seam}
use borrow.Author.Tests.{lt-ltb, le-ltb}
use Rattle.panel.proofs.Follow.{if-true, if-false}
use Rattle.numbers.specs.Numbers.{whole, after, groups_by, bytes_of, bytes_of_all, groups_in, value_of, needless, read, number_at}
use Rattle.numbers.specs.Sizes.{group, most64}
use Rattle.numbers.proofs.Bytes.{by-lt, groups-one, groups-step, bytes-some}
use Rattle.numbers.proofs.Grouping.{longer, other-ends, one-group, value-more, value-one}

-- what is read of groups that were written: as many of them, their value, and no needless one
pub record Read (k v : ℕ) (rest : List ℕ) : Type 0 where
  pub first : ℕ
  pub others : List ℕ
  pub groups : groups_in (suc k) (groups_by (suc k) v ++ rest) ≡ whole (first ∷ others)
  pub value : value_of (first ∷ others) ≡ v
  pub shortest : needless (first ∷ others) ≡ false
  pub many : length (first ∷ others) ≡ length (groups_by (suc k) v)

pub last-in : (k v : ℕ) (rest : List ℕ) → v < group → groups_in (suc k) (v ∷ rest) ≡ whole (v ∷ [])
unfolding groups_in
last-in k v rest h = if-true _ _ _ (lt-ltb v group h)

pub more-in : (k b : ℕ) (rest : List ℕ) → group ≤ b → groups_in (suc k) (b ∷ rest) ≡ after (b - group) (groups_in k rest)
unfolding groups_in
more-in k b rest h = if-false _ _ _ (le-ltb b group h)

one-back : (k v : ℕ) (rest : List ℕ) → v < group → Read k v rest
one-back k v rest h = record {
  first = v;
  others = [];
  groups = rw (groups-one k v h) (last-in k v rest h);
  value = sym (value-one v);
  shortest = one-group v;
  many = rw (groups-one k v h);
}

pub groups-back : (k v : ℕ) (rest : List ℕ) → v < group ^ suc k → Read k v rest
groups-back zero v rest h = one-back zero v rest h
groups-back (suc k) v rest h =
    let small : v / group < group ^ suc k = (div-lt_iff_lt-mul (lit< tt)).1 (rw pow-suc at h) in
    let ih = groups-back k (v / group) rest small in
    by-lt v group
    (λ p. one-back (suc k) v rest p)
    (λ p.
    let m : v % group < group = mod-lt v (lit< tt) in
    let q : 0 < v / group = (le-div_iff_mul-le (lit< tt)).1 (omega arith) in
    record {
      first = v % group;
      others = ih.first ∷ ih.others;
      groups =
          rw (groups-step (suc k) v p)
          (more-in (suc k) (group + v % group) (groups_by (suc k) (v / group) ++ rest) (omega arith)
          ∙ ap (after (group + v % group - group)) ih.groups
          ∙ ap (λ (g : ℕ). whole (g ∷ ih.first ∷ ih.others)) (omega arith));
      value = value-more (v % group) (ih.first ∷ ih.others) ∙ omega (arith, ih.value, mod-add-div v group);
      shortest = longer (v % group) ih.first ih.others ∙ other-ends ih.first ih.others ih.shortest (λ z. omega (arith, ih.value));
      many = rw (groups-step (suc k) v p) (omega (arith, ih.many));
    })

-- rest stands in s from a place to the end
pub record Holds (s : List ℕ) (at : ℕ) (rest : List ℕ) : Type 0 where
  pub front : drop at s ≡ rest
  pub fill : at + length rest ≡ length s

pub holds_on : (s : List ℕ) (at : ℕ) (xs rest : List ℕ) → Holds s at (xs ++ rest) → Holds s (at + length xs) rest
holds_on s at xs rest h =
    record {
      front = sym (drop-drop (length xs) at s) ∙ ap (drop (length xs)) h.front ∙ drop-append_seam xs rest;
      fill = omega (arith, h.fill, length-append xs rest);
    }

-- a number in its field's range is read back
pub number-back : (s : List ℕ) (at most v : ℕ) (rest : List ℕ) → v ≤ most → most ≤ most64 → Holds s at (bytes_of v ++ rest) →
    (to : ℕ) × (number_at s at most ≡ read v to) × Holds s to rest
unfolding number_at bytes_of
number-back s at most v rest hv hm h =
    let b = groups-back 9 v rest (omega arith) in
    let some : 0 < length (bytes_of v) = bytes-some v in
    let here : min at (length s) ≡ at = omega (arith, h.fill, length-append (groups_by 10 v) rest) in
    let g : groups_in 10 (drop at s) ≡ whole (b.first ∷ b.others) = ap (groups_in 10) h.front ∙ b.groups in
    let within : value_of (b.first ∷ b.others) ≤ most = omega (arith, b.value) in (
      at + length (bytes_of v),
      rw (here, g)
          (if-false _ _ _ b.shortest
          ∙ if-false _ _ _ (le-ltb most (value_of (b.first ∷ b.others)) within)
          ∙ rw (b.value, b.many)),
      holds_on s at (bytes_of v) rest h,
    )

all_cons : (v : ℕ) (vs rest : List ℕ) → bytes_of_all (v ∷ vs) ++ rest ≡ bytes_of v ++ (bytes_of_all vs ++ rest)
all_cons v vs rest = append_assoc (bytes_of v) (bytes_of_all vs) rest

-- the first of several numbers
pub number-next : (s : List ℕ) (at most v : ℕ) (vs rest : List ℕ) → v ≤ most → most ≤ most64 → Holds s at (bytes_of_all (v ∷ vs) ++ rest) →
    (to : ℕ) × (number_at s at most ≡ read v to) × Holds s to (bytes_of_all vs ++ rest)
number-next s at most v vs rest hv hm h = number-back s at most v (bytes_of_all vs ++ rest) hv hm (subst (Holds s at) (all_cons v vs rest) h)
