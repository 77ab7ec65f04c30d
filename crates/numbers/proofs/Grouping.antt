-- Groups as the code reads them end where specs/Numbers.antt says. Assumes nothing.
use Rattle.std.specs.Prelude.{Result, Ok, Err, IfOk}
use Prim.Native.Nat.{ℕ, zero, suc, ◌+◌, ◌-◌, ◌*◌, ◌≤◌, ◌<◌, min}
use mathlib.Core.Path.{◌≡◌, refl, sym, ap, ◌∙◌}
use mathlib.Core.Bool.{Bool, true, false, true≢false}
use mathlib.Core.List.{List, [], ◌∷◌}
use native.Mathlib.Omega.{arith}
use native.Mathlib.Numerals.{add-one}
use lib.Dec.{eqb, leb}
use lib.ListN.{length, drop, get_or, drop_of_length-le}
use lib.Seq.{drop-cons}
use borrow.Author.Tests.{eqb-true, eqb-false, ltb-false, leb-true, leb-false, lt-ltb, le-ltb, eq-eqb, ne_eqb}
use Rattle.panel.proofs.Follow.{follow, and-true, and-false, if-know, if-two}
use Rattle.panel.specs.declared.refusals.Refusal.TheVariants.{Cut}
use Rattle.numbers.specs.code.Groups.{rest_end, with_group, after_group, groups_at, within, judged_as}
use Rattle.numbers.specs.Numbers.{◌>>=◌, Groups, whole, endless, early, after, groups_in, value_of, ends_in_zero, needless, judged, stopped, number_at}
use Rattle.numbers.specs.Sizes.{group, most64, most_groups}
use Rattle.numbers.specs.declared.reading.Fault.{Fault}
use Rattle.numbers.specs.declared.reading.Fault.TheVariants.{Early, Needless, Large}
use Rattle.numbers.specs.declared.reading.Stop.{Stop}

-- Each way that the code's reading goes.

pub none_left : (bytes : List ℕ) (at left : ℕ) → left ≡ 0 → groups_at left bytes at ≡ Err Large
unfolding groups_at
none_left bytes at zero e = refl
none_left bytes at (suc left) e = absurd (omega arith)

pub bytes-end : (s : List ℕ) (at left : ℕ) → (left ≡ 0 → ⊥) → length s ≤ at → groups_at left (drop at s) at ≡ Err Early
unfolding groups_at
bytes-end s at zero some h = absurd (some refl)
bytes-end s at (suc left) some h = rw (drop_of_length-le s {i = at} h)

pub last-group : (s : List ℕ) (at left : ℕ) → (left ≡ 0 → ⊥) → at < length s → get_or s at 0 < group → groups_at left (drop at s) at ≡ Ok (get_or s at 0, at + 1)
unfolding groups_at
last-group s at zero some h l = absurd (some refl)
last-group s at (suc left) some h l = rw (drop-cons s at 0 h) (search follow)

pub more-groups : (s : List ℕ) (at left : ℕ) → (left ≡ 0 → ⊥) → at < length s → group ≤ get_or s at 0 → groups_at left (drop at s) at ≡ after_group (get_or s at 0) (groups_at (left - 1) (drop (at + 1) s) (at + 1))
unfolding groups_at
more-groups s at zero some h l = absurd (some refl)
more-groups s at (suc left) some h l =
    let e : suc left - 1 ≡ left = omega arith in
    let n : at + 1 ≡ suc at = add-one at in
    rw (drop-cons s at 0 h, e, n) (search follow)

-- Groups that end in 0, and the value of those that do not.

pub longer : (g h : ℕ) (gs : List ℕ) → needless (g ∷ h ∷ gs) ≡ ends_in_zero (h ∷ gs)
unfolding needless ends_in_zero
longer g h gs = and-true _ _ (lt-ltb 1 (suc (suc (length gs))) (omega arith))

pub not-zero : (gs : List ℕ) → ends_in_zero gs ≡ false → 0 < value_of gs
unfolding ends_in_zero value_of
not-zero [] e = absurd (true≢false e)
not-zero (g ∷ []) e = let n = eqb-false g 0 e in omega arith
not-zero (g ∷ h ∷ gs) e = let n = not-zero (h ∷ gs) e in omega arith

pub value-more : (g : ℕ) (gs : List ℕ) → value_of (g ∷ gs) ≡ g + group * value_of gs
unfolding value_of
value-more g gs = refl

-- a number in its shortest form is 0 exactly if it ends in 0
zero-ends : (h : ℕ) (gs : List ℕ) → needless (h ∷ gs) ≡ false → value_of (h ∷ gs) ≡ 0 → ends_in_zero (h ∷ gs) ≡ true
unfolding ends_in_zero value_of
zero-ends h [] e z = eq-eqb h 0 (omega arith)
zero-ends h (g ∷ gs) e z = let n = not-zero (h ∷ g ∷ gs) (sym (longer h g gs) ∙ e) in absurd (omega arith)

pub other-ends : (h : ℕ) (gs : List ℕ) → needless (h ∷ gs) ≡ false → (value_of (h ∷ gs) ≡ 0 → ⊥) → ends_in_zero (h ∷ gs) ≡ false
unfolding ends_in_zero value_of
other-ends h [] e z = ne_eqb h 0 (λ k. z (omega arith))
other-ends h (g ∷ gs) e z = sym (longer h g gs) ∙ e

-- What the code has read of a number that begins at a place says the same as the number's groups.
abbrev Same : ℕ → Result (ℕ × ℕ) Fault → Groups → Type 0
Same at (Ok r) (whole []) = ⊥
Same at (Ok r) (whole (g ∷ gs)) = (needless (g ∷ gs) ≡ false) × (r.0 ≡ value_of (g ∷ gs)) × (r.1 ≡ at + length (g ∷ gs))
Same at (Ok r) endless = ⊥
Same at (Ok r) early = ⊥
Same at (Err Early) (whole gs) = ⊥
Same at (Err Early) endless = ⊥
Same at (Err Early) early = Unit
Same at (Err Needless) (whole []) = ⊥
Same at (Err Needless) (whole (g ∷ gs)) = needless (g ∷ gs) ≡ true
Same at (Err Needless) endless = ⊥
Same at (Err Needless) early = ⊥
Same at (Err Large) (whole []) = ⊥
Same at (Err Large) (whole (g ∷ gs)) = (needless (g ∷ gs) ≡ false) × (most64 < value_of (g ∷ gs))
Same at (Err Large) endless = Unit
Same at (Err Large) early = ⊥

-- a number of two groups or more that ends in 0, and one that does not
ends-in-zero : (h : ℕ) (gs : List ℕ) → needless (h ∷ gs) ≡ true → ends_in_zero (h ∷ gs) ≡ true
unfolding needless ends_in_zero
ends-in-zero h [] e = absurd (true≢false (sym e ∙ and-false _ _ (le-ltb 1 1 (omega arith))))
ends-in-zero h (g ∷ gs) e = sym (longer h g gs) ∙ e

not-early : (h : ℕ) (gs : List ℕ) → needless (h ∷ gs) ≡ false → most64 < value_of (h ∷ gs) → ends_in_zero (h ∷ gs) ≡ false
not-early h gs e l = other-ends h gs e (λ z. absurd (omega arith))

-- one group in front
whole-more : (b at v next g : ℕ) (gs : List ℕ) → Same (at + 1) (Ok (v, next)) (whole (g ∷ gs)) → Same at (after_group b (Ok (v, next))) (whole ((b - group) ∷ g ∷ gs))
unfolding with_group
whole-more b at v next g gs s =
    if-know (λ r. Same at (r >>= λ n. Ok (n, next)) (whole ((b - group) ∷ g ∷ gs))) _ _ _
    (λ z. longer (b - group) g gs ∙ zero-ends g gs s.0 (sym s.1 ∙ eqb-true v 0 z))
    (λ z. if-know (λ r. Same at (r >>= λ n. Ok (n, next)) (whole ((b - group) ∷ g ∷ gs))) _ _ _ (λ l. (shortest z, ap (λ (k : ℕ). b - group + group * k) s.1 ∙ sym value, omega (arith, s.2))) (λ l. (shortest z, omega (arith, value, s.1, ltb-false v rest_end l))))
  where
    value : value_of ((b - group) ∷ g ∷ gs) ≡ b - group + group * value_of (g ∷ gs)
    value = value-more (b - group) (g ∷ gs)

    shortest : eqb v 0 ≡ false → needless ((b - group) ∷ g ∷ gs) ≡ false
    shortest z = longer (b - group) g gs ∙ other-ends g gs s.0 (λ k. eqb-false v 0 z (s.1 ∙ k))

pub more : (b at : ℕ) (r : Result (ℕ × ℕ) Fault) (gs : Groups) → Same (at + 1) r gs → Same at (after_group b r) (after (b - group) gs)
more b at (Ok r) (whole (g ∷ gs)) s = whole-more b at r.0 r.1 g gs s
more b at (Ok r) (whole []) s = absurd s
more b at (Ok r) endless s = absurd s
more b at (Ok r) early s = absurd s
more b at (Err Early) (whole gs) s = absurd s
more b at (Err Early) endless s = absurd s
more b at (Err Early) early s = tt
more b at (Err Needless) (whole []) s = absurd s
more b at (Err Needless) (whole (g ∷ gs)) s = longer (b - group) g gs ∙ ends-in-zero g gs s
more b at (Err Needless) endless s = absurd s
more b at (Err Needless) early s = absurd s
more b at (Err Large) (whole []) s = absurd s
more b at (Err Large) (whole (g ∷ gs)) s = (longer (b - group) g gs ∙ not-early g gs s.0 s.1, omega (arith, value-more (b - group) (g ∷ gs), s.1))
more b at (Err Large) endless s = tt
more b at (Err Large) early s = absurd s

-- a group alone
pub one-group : (b : ℕ) → needless (b ∷ []) ≡ false
unfolding needless
one-group b = and-false _ _ (le-ltb 1 1 (omega arith))

pub value-one : (b : ℕ) → b ≡ value_of (b ∷ [])
unfolding value_of
value-one b = omega arith

-- the whole number
same : (left : ℕ) (bytes : List ℕ) (at : ℕ) → Same at (groups_at left bytes at) (groups_in left bytes)
unfolding groups_at groups_in
same zero bytes at = tt
same (suc left) [] at = tt
same (suc left) (b ∷ bytes) at =
    if-two (Same at) _ _ _ _ _ (λ l. (one-group b, value-one b, refl)) (λ l. more b at _ _ (same left bytes (at + 1)))

number-judged : (at most : ℕ) (r : ℕ × ℕ) (g : ℕ) (gs : List ℕ) (b : Bool) → leb r.0 most ≡ b → Same at (Ok r) (whole (g ∷ gs)) → within at most r ≡ judged at most (whole (g ∷ gs))
unfolding within
number-judged at most r g gs true e s =
    let l : value_of (g ∷ gs) ≤ most = omega (arith, leb-true r.0 most e, s.1) in
    search (follow, s.0, s.1, s.2, e)
number-judged at most r g gs false e s =
    let l : most < value_of (g ∷ gs) = omega (arith, leb-false r.0 most e, s.1) in
    search (follow, s.0)

same-judged : (at most : ℕ) (r : Result (ℕ × ℕ) Fault) (gs : Groups) → most ≤ most64 → Same at r gs → judged_as at most r ≡ judged at most gs
same-judged at most (Ok r) (whole (g ∷ gs)) m s = number-judged at most r g gs (leb r.0 most) refl s
same-judged at most (Ok r) (whole []) m s = absurd s
same-judged at most (Ok r) endless m s = absurd s
same-judged at most (Ok r) early m s = absurd s
same-judged at most (Err Early) (whole gs) m s = absurd s
same-judged at most (Err Early) endless m s = absurd s
same-judged at most (Err Early) early m s = refl
same-judged at most (Err Needless) (whole []) m s = absurd s
same-judged at most (Err Needless) (whole (g ∷ gs)) m s = search (follow, s)
same-judged at most (Err Needless) endless m s = absurd s
same-judged at most (Err Needless) early m s = absurd s
same-judged at most (Err Large) (whole []) m s = absurd s
same-judged at most (Err Large) (whole (g ∷ gs)) m s = let l : most < value_of (g ∷ gs) = omega (arith, s.1) in search (follow, s.0)
same-judged at most (Err Large) endless m s = refl
same-judged at most (Err Large) early m s = absurd s

-- a number that begins where there are bytes
pub number-here : (s : List ℕ) (at most : ℕ) → at < length s → most ≤ most64 → judged_as at most (groups_at most_groups (drop at s) at) ≡ number_at s at most
unfolding number_at
number-here s at most h m =
    let e : min at (length s) ≡ at = omega arith in
    rw e (same-judged at most _ _ m (same most_groups (drop at s) at))

pub number-missing : (s : List ℕ) (at most : ℕ) → length s ≤ at → stopped Cut (length s) ≡ number_at s at most
unfolding number_at groups_in
number-missing s at most h =
    let e : min at (length s) ≡ length s = omega arith in
    rw (e, drop_of_length-le s {i = at} h)

-- a number that was read is within its field's maximum
judged-most : (at most : ℕ) (gs : Groups) → IfOk (judged at most gs) (λ r. r.0 ≤ most)
judged-most at most endless = tt
judged-most at most early = tt
judged-most at most (whole gs) =
    if-know (λ r. IfOk r (λ x. x.0 ≤ most)) _ _ _ (λ e. tt)
    (λ e. if-know (λ r. IfOk r (λ x. x.0 ≤ most)) _ _ _ (λ l. tt) (λ l. ltb-false most (value_of gs) l))

pub number-most : (s : List ℕ) (at most : ℕ) (r : Result (ℕ × ℕ) Stop) → r ≡ number_at s at most → IfOk r (λ x. x.0 ≤ most)
unfolding number_at
number-most s at most r e = rw e (judged-most (min at (length s)) most (groups_in most_groups (drop at s)))

-- each way that the code's reading goes
pub ruleset steps = (none_left, bytes-end, last-group, more-groups)
