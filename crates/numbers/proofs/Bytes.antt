-- The bytes of numbers as the code writes them, one number after another. Assumes nothing.
use Prim.Native.Nat.{ℕ, zero, suc, ◌+◌, ◌/◌, ◌%◌, ◌^◌, ◌≤◌, ◌<◌}
use mathlib.Core.Path.{◌≡◌, refl, sym, ap, ◌∙◌}
use mathlib.Core.Bool.{Bool, true, false}
use mathlib.Core.List.{List, [], ◌∷◌, ◌++◌, append-nil}
use native.Mathlib.Omega.{arith}
use native.Mathlib.Nat.{pow-suc, div-lt_iff_lt-mul}
use native.Mathlib.Numerals.{add-one}
use lib.Dec.{ltb, lit<}
use lib.ListN.{length, take, drop, get_or, set, length-append}
use lib.Seq.{sets, length-sets, take-suc}
use borrow.Author.Tests.{ltb-true, ltb-false, lt-ltb, le-ltb}
use Rattle.std.proofs.lemmas.List.Folds.{length-flat_map-take}
use Rattle.std.proofs.lemmas.List.Concat.{flat_map-append}
use Rattle.panel.proofs.Follow.{if-true, if-false}
use Rattle.numbers.specs.Numbers.{groups_by, bytes_of, bytes_of_all}
use Rattle.numbers.specs.Sizes.{group, most_groups, most64}

-- a fact of two numbers, by which of them is smaller
pub by-lt : {P : Type 0} (a b : ℕ) → (a < b → P) → (b ≤ a → P) → P
by-lt {P} a b f g = go (ltb a b) refl
  where
    go : (t : Bool) → ltb a b ≡ t → P
    go true e = f (ltb-true a b e)
    go false e = g (ltb-false a b e)

-- The groups of one number: the last, or one and the rest.

pub groups-one : (k v : ℕ) → v < group → groups_by (suc k) v ≡ v ∷ []
unfolding groups_by
groups-one k v h = if-true _ _ _ (lt-ltb v group h)

pub groups-step : (k v : ℕ) → group ≤ v → groups_by (suc k) v ≡ (group + v % group) ∷ groups_by k (v / group)
unfolding groups_by
groups-step k v h = if-false _ _ _ (le-ltb v group h)

pub groups-most : (k v : ℕ) → length (groups_by k v) ≤ k
unfolding groups_by
groups-most zero v = omega arith
groups-most (suc k) v =
    let ih : length (groups_by k (v / group)) ≤ k = groups-most k (v / group) in
    by-lt v group (λ h. rw (groups-one k v h) (omega arith)) (λ h. rw (groups-step k v h) (omega arith))

-- A number has a byte or more, and at most ten.

pub bytes-some : (v : ℕ) → 0 < length (bytes_of v)
unfolding bytes_of
bytes-some v = by-lt v group (λ h. rw (groups-one 9 v h) (omega arith)) (λ h. rw (groups-step 9 v h) (omega arith))

pub bytes-most : (v : ℕ) → length (bytes_of v) ≤ most_groups
unfolding bytes_of
bytes-most v = groups-most most_groups v

-- more groups than a number fills make no difference
groups-enough : (k v : ℕ) → v < group ^ suc k → groups_by (suc (suc k)) v ≡ groups_by (suc k) v
groups-enough zero v h = groups-one 1 v h ∙ sym (groups-one 0 v h)
groups-enough (suc k) v h =
    let small : v / group < group ^ suc k = (div-lt_iff_lt-mul (lit< tt)).1 (rw pow-suc at h) in
    by-lt v group
    (λ l. groups-one (suc (suc k)) v l ∙ sym (groups-one (suc k) v l))
    (λ l. groups-step (suc (suc k)) v l ∙ ap (λ (bs : List ℕ). (group + v % group) ∷ bs) (groups-enough k (v / group) small) ∙ sym (groups-step (suc k) v l))

-- The bytes of a number of 64 bits: the last group, or one and those of the rest.

pub bytes_last : (v : ℕ) → v < group → bytes_of v ≡ v ∷ []
unfolding bytes_of
bytes_last v h = groups-one 9 v h

pub bytes-more : (v : ℕ) → v ≤ most64 → group ≤ v → bytes_of v ≡ (group + v % group) ∷ bytes_of (v / group)
unfolding bytes_of
bytes-more v m h = groups-step 9 v h ∙ ap (λ (bs : List ℕ). (group + v % group) ∷ bs) (sym (groups-enough 8 (v / group) (omega arith)))

pub ruleset bytes = (bytes_last, bytes-more, bytes-most)

-- Several numbers.

pub sets-append : (xs l ys : List ℕ) (i : ℕ) → sets (sets l i xs) (i + length xs) ys ≡ sets l i (xs ++ ys)
sets-append [] l ys i = let e : i + 0 ≡ i = omega arith in rw e
sets-append (x ∷ xs) l ys i =
    let e : i + suc (length xs) ≡ suc i + length xs = omega arith in
    rw e (sets-append xs (set l i x) ys (suc i))

pub all_one : (x : ℕ) → bytes_of_all (x ∷ []) ≡ bytes_of x
all_one x = append-nil (bytes_of x)

-- one number more
pub all_more : (v : List ℕ) (i : ℕ) → i < length v → bytes_of_all (take (i + 1) v) ≡ bytes_of_all (take i v) ++ bytes_of (get_or v i 0)
all_more v i h =
    ap (λ (n : ℕ). bytes_of_all (take n v)) (add-one i)
    ∙ ap bytes_of_all (take-suc v i 0 h)
    ∙ flat_map-append bytes_of (take i v) (get_or v i 0 ∷ [])
    ∙ ap (λ (l : List ℕ). bytes_of_all (take i v) ++ l) (all_one (get_or v i 0))

-- numbers one after another, in their place
pub ruleset pieces = (length-flat_map-take, length-sets, sets-append, all_more, length-append)
