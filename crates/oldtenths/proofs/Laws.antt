-- The old tenths beside those of request [6]: they are the same or one less, never more; the smallest number at which they
-- differ is 3, and the smallest squared distance of two places is 13; at exact roots they are the same. Assumes nothing.
use Prim.Native.Nat.{ℕ, zero, suc, ◌+◌, ◌*◌, ◌/◌, ◌^◌, ◌≤◌, ◌<◌}
use mathlib.Core.Path.{◌≡◌, refl, sym, ap, ◌∙◌}
use native.Mathlib.Nat.{le_refl, le_trans, lt_of_lt_of_le}
use native.Mathlib.Omega.{arith}
use Rattle.panel.specs.Tests.{when◌then◌else◌}
use Rattle.calmap.specs.code.Checked.{farthest, farthest_tenths}
use Rattle.calmap.specs.Distances.{tenths_of}
use Rattle.calmap.specs.Roots.{digit, root_by, root_of}
use Rattle.calmap.specs.Sizes.{sixteenths_in}
use Rattle.calmap.specs.Units.{tenths}
use Rattle.calmap.proofs.Laws.{square_le, square-next, square-times, root_below, root-above, root-only, root-at-most, tenths-at-least, tenths-at-most, tenths-only}
use Rattle.oldtenths.specs.OldTenths.{tenths_in, old_tenths_of}

-- a tap's distance from its target is at most 1310720 tenths by them too
pub old-of-miss : (d2 : ℕ) → d2 ≤ farthest → (old_tenths_of d2).0 ≤ farthest_tenths
unfolding old_tenths_of
old-of-miss d2 h =
    let l = root-at-most d2 (omega arith) 2097152 h in
    omega arith

-- The same, or one less.

module _ (d2 : ℕ) (h : d2 < 2 ^ 64) where
  pub old-at-most : (old_tenths_of d2).0 ≤ (tenths_of d2).0
  unfolding old_tenths_of
  old-at-most =
      let r = root_of d2 in
      let side : sixteenths_in * (r * tenths_in / sixteenths_in) ≤ tenths_in * r = omega arith in
      tenths-at-least d2 h _ (le_trans (square_le side) (omega (arith, square-times tenths_in r, root_below d2 h)))

  pub one-more-at-most : (tenths_of d2).0 ≤ (old_tenths_of d2).0 + 1
  unfolding old_tenths_of
  one-more-at-most =
      let r = root_of d2 in
      let side : tenths_in * (r + 1) ≤ sixteenths_in * (r * tenths_in / sixteenths_in + 1 + 1) = omega arith in
      tenths-at-most d2 h _ (lt_of_lt_of_le (omega (arith, square-times tenths_in (r + 1), root-above d2 h)) (square_le side))

-- The same where the root is exact, as those of 401 and 402 of document 01's table are.

pub same-at-roots : (r : ℕ) → r * r < 2 ^ 64 → old_tenths_of (r * r) ≡ tenths_of (r * r)
unfolding old_tenths_of
same-at-roots r h =
    let exact : r ≡ root_of (r * r) = root-only (r * r) h r (le_refl (r * r)) (square-next r) in
    let o = r * tenths_in / sixteenths_in in
    let least : sixteenths_in * o ≤ tenths_in * r = omega arith in
    let most : tenths_in * r + 1 ≤ sixteenths_in * (o + 1) = omega arith in
    ap (λ (x : ℕ). tenths (x * tenths_in / sixteenths_in)) (sym exact)
    ∙ tenths-only (r * r) h (tenths o) (le_trans (square_le least) (omega (arith, square-times tenths_in r))) (lt_of_lt_of_le (omega (arith, square-next (tenths_in * r), square-times tenths_in r)) (square_le most))

-- Where they begin to differ.

pub same-below-3 : (n : ℕ) → n < 3 → old_tenths_of n ≡ tenths_of n
unfolding old_tenths_of tenths_of root_of root_by digit when◌then◌else◌
same-below-3 zero h = refl
same-below-3 (suc zero) h = refl
same-below-3 (suc (suc zero)) h = refl
same-below-3 (suc (suc (suc n))) h = absurd (omega arith)

pub apart-at-3 : (old_tenths_of 3 ≡ tenths 0) × (tenths_of 3 ≡ tenths 1)
unfolding old_tenths_of tenths_of root_of root_by digit when◌then◌else◌
apart-at-3 = (refl, refl)

-- 3 is the squared distance of no two places; 13, which is 9 and 4, is the first at which they differ
four-away : {X : Type 0} (n b : ℕ) → n + suc (suc (suc (suc b))) * suc (suc (suc (suc b))) < 13 → X
four-away n b h = absurd (omega (arith, square_le {a = 4} {b = suc (suc (suc (suc b)))} (omega arith)))

pub same-below-13 : (a b : ℕ) → a * a + b * b < 13 → old_tenths_of (a * a + b * b) ≡ tenths_of (a * a + b * b)
unfolding old_tenths_of tenths_of root_of root_by digit when◌then◌else◌
same-below-13 zero zero h = refl
same-below-13 zero (suc zero) h = refl
same-below-13 zero (suc (suc zero)) h = refl
same-below-13 zero (suc (suc (suc zero))) h = refl
same-below-13 zero (suc (suc (suc (suc b)))) h = four-away (0) b h
same-below-13 (suc zero) zero h = refl
same-below-13 (suc zero) (suc zero) h = refl
same-below-13 (suc zero) (suc (suc zero)) h = refl
same-below-13 (suc zero) (suc (suc (suc zero))) h = refl
same-below-13 (suc zero) (suc (suc (suc (suc b)))) h = four-away (1) b h
same-below-13 (suc (suc zero)) zero h = refl
same-below-13 (suc (suc zero)) (suc zero) h = refl
same-below-13 (suc (suc zero)) (suc (suc zero)) h = refl
same-below-13 (suc (suc zero)) (suc (suc (suc zero))) h = absurd (omega arith)
same-below-13 (suc (suc zero)) (suc (suc (suc (suc b)))) h = four-away (4) b h
same-below-13 (suc (suc (suc zero))) zero h = refl
same-below-13 (suc (suc (suc zero))) (suc zero) h = refl
same-below-13 (suc (suc (suc zero))) (suc (suc zero)) h = absurd (omega arith)
same-below-13 (suc (suc (suc zero))) (suc (suc (suc zero))) h = absurd (omega arith)
same-below-13 (suc (suc (suc zero))) (suc (suc (suc (suc b)))) h = four-away (9) b h
same-below-13 (suc (suc (suc (suc a)))) b h = four-away (b * b) a (omega arith)

pub apart-at-13 : (old_tenths_of 13 ≡ tenths 1) × (tenths_of 13 ≡ tenths 2)
unfolding old_tenths_of tenths_of root_of root_by digit when◌then◌else◌
apart-at-13 = (refl, refl)
