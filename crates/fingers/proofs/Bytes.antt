-- What one computed test over every byte shows of the lowest bit set. Assumes nothing.
use mathlib.Core.Path.{◌≡◌, sym, subst}
use mathlib.Core.Logic.{⊎_elim}
use mathlib.Core.Bool.{Bool, true, false}
use Prim.Native.Nat.{ℕ, zero, suc, ◌<◌, ◌/◌, ◌%◌, ◌^◌}
use native.Mathlib.Nat.{eq-or-lt_of_le, le_of_suc-le-suc, not-suc-le-zero}
use lib.Dec.{T, ltb, eqb, ltb→lt, eqb→eq}
use lib.Count.{count_trailing_zeros}
use Rattle.fingers.specs.Keys.{key_count}
use Rattle.fingers.specs.Keys.{lowest}

abbrev pub both : Bool → Bool → Bool
both true b = b
both false b = false

pub both_left : (a b : Bool) → T (both a b) → T a
both_left true b t = tt
both_left false b t = t

pub both_right : (a b : Bool) → T (both a b) → T b
both_right true b t = t
both_right false b t = absurd t

-- f holds below n
abbrev pub every : (ℕ → Bool) → ℕ → Bool
every f zero = true
every f (suc n) = both (f n) (every f n)

pub below : (f : ℕ → Bool) (n : ℕ) → T (every f n) → (k : ℕ) → k < n → T (f k)
below f zero t k h = absurd (not-suc-le-zero h)
below f (suc n) t k h =
    ⊎_elim (λ e. subst (λ (m : ℕ). T (f m)) (sym e) (both_left (f n) (every f n) t))
    (λ l. below f n (both_right (f n) (every f n) t) k l) (eq-or-lt_of_le (le_of_suc-le-suc h))

-- The lowest key of a mask that has one: it is one of eight, its bit is set, and none below it.

abbrev in_range : ℕ → Bool
in_range m = ltb (count_trailing_zeros key_count m) key_count

abbrev is_set : ℕ → Bool
is_set m = eqb (m / 2 ^ count_trailing_zeros key_count m % 2) 1

abbrev none_below : ℕ → Bool
none_below m = eqb (m % 2 ^ count_trailing_zeros key_count m) 0

abbrev low_test : ℕ → Bool
low_test zero = true
low_test (suc m) = both (in_range (suc m)) (both (is_set (suc m)) (none_below (suc m)))

low : (m : ℕ) → m < 256 → T (low_test m)
unfolding count_trailing_zeros
low m h = below low_test 256 tt m h

pub lowest-lt : (m : ℕ) → zero < m → m < 256 → lowest m < key_count
unfolding lowest
lowest-lt zero p h = absurd (not-suc-le-zero p)
lowest-lt (suc m) p h =
    let n = suc m in
    ltb→lt (count_trailing_zeros key_count n) key_count (both_left (in_range n) (both (is_set n) (none_below n)) (low n h))

pub lowest-is-set : (m : ℕ) → zero < m → m < 256 → m / 2 ^ lowest m % 2 ≡ 1
unfolding lowest
lowest-is-set zero p h = absurd (not-suc-le-zero p)
lowest-is-set (suc m) p h =
    let n = suc m in
    let rest = both_right (in_range n) (both (is_set n) (none_below n)) (low n h) in
    eqb→eq (n / 2 ^ count_trailing_zeros key_count n % 2) 1 (both_left (is_set n) (none_below n) rest)

pub none-below-lowest : (m : ℕ) → zero < m → m < 256 → m % 2 ^ lowest m ≡ 0
unfolding lowest
none-below-lowest zero p h = absurd (not-suc-le-zero p)
none-below-lowest (suc m) p h =
    let n = suc m in
    let rest = both_right (in_range n) (both (is_set n) (none_below n)) (low n h) in
    eqb→eq (n % 2 ^ count_trailing_zeros key_count n) 0 (both_right (is_set n) (none_below n) rest)
