-- What is held of a list: what is computed from it is what document 01 says of the lists. Assumes nothing.
use Prim.Native.Nat.{ℕ, zero, suc, ◌≤◌, ◌<◌, min}
use mathlib.Core.Path.{◌≡◌, refl, sym, ap, ◌∙◌}
use mathlib.Core.List.{List, [], ◌∷◌, ◌++◌}
use native.Mathlib.Nat.{not-suc-le-zero, le_of_suc-le-suc, lt_of_not-le, le_refl}
use native.Mathlib.Decide.{dec_le}
use native.Mathlib.Omega.{arith}
use lib.ListN.{length, take, drop, get_or, replicate}
use borrow.Author.Tests.{lt-ltb, le-ltb}
use Rattle.panel.proofs.Follow.{if-true, if-false, and-true, and-false}
use Rattle.panel.specs.Tests.{◌and◌, ◌<?◌}
use Rattle.panel.specs.declared.points.Point.{Point}
use Rattle.calmap.specs.Checks.{check_of, check_first}
use Rattle.calmap.specs.Resids.{pairs_of, resid_of, resid_by, resid_first_by}
use Rattle.calmap.specs.Sizes.{longest}
use Rattle.calmap.specs.code.Arrays.{filled, tap0, point0, held, held_points, held_pairs, pair_up, resid_held, check_held}
use Rattle.calmap.specs.declared.units.Aim.{Aim}
use Rattle.calmap.specs.declared.units.Cal.{Cal}
use Rattle.calmap.specs.declared.units.Tap.{Tap}

-- The array.

module _ {A : Type 0} (none : A) where
  -- as the code fills it
  pub filled-is : (n k : ℕ) (xs : List A) → n ≡ min (length xs) k → take n xs ++ drop n (replicate k none) ≡ filled none k xs
  unfolding filled
  filled-is zero zero xs h = refl
  filled-is (suc n) zero xs h = absurd (omega arith)
  filled-is zero (suc k) [] h = ap (λ (l : List A). none ∷ l) (filled-is zero k [] (omega arith))
  filled-is zero (suc k) (x ∷ xs) h = absurd (omega arith)
  filled-is (suc n) (suc k) [] h = absurd (omega arith)
  filled-is (suc n) (suc k) (x ∷ xs) h = ap (λ (l : List A). x ∷ l) (filled-is n k xs (omega arith))

  filled-take : (k n : ℕ) (xs : List A) → n ≤ k → n ≤ length xs → take n (filled none k xs) ≡ take n xs
  unfolding filled
  filled-take k zero xs h l = refl
  filled-take zero (suc n) xs h l = absurd (not-suc-le-zero h)
  filled-take (suc k) (suc n) [] h l = absurd (not-suc-le-zero l)
  filled-take (suc k) (suc n) (y ∷ xs) h l = ap (λ (t : List A). y ∷ t) (filled-take k n xs (le_of_suc-le-suc h) (le_of_suc-le-suc l))

-- Aims.

pub pairs-length : (a b : List Tap) → length (pairs_of a b) ≡ min (length a) (length b)
unfolding pairs_of
pairs-length [] b = omega arith
pairs-length (x ∷ a) [] = omega arith
pairs-length (x ∷ a) (y ∷ b) = let e = pairs-length a b in omega arith

pub pairs-at : (a b : List Tap) (i : ℕ) (d : Aim) → i < length a → i < length b → get_or (pairs_of a b) i d ≡ record { raw = get_or a i tap0; tgt = get_or b i tap0 }
unfolding pairs_of
pairs-at [] b i d h k = absurd (not-suc-le-zero h)
pairs-at (x ∷ a) [] i d h k = absurd (not-suc-le-zero k)
pairs-at (x ∷ a) (y ∷ b) zero d h k = refl
pairs-at (x ∷ a) (y ∷ b) (suc i) d h k = pairs-at a b i d (le_of_suc-le-suc h) (le_of_suc-le-suc k)

pairs-take : (n : ℕ) (a b : List Tap) → take n (pairs_of a b) ≡ pairs_of (take n a) (take n b)
unfolding pairs_of
pairs-take zero a b = refl
pairs-take (suc n) [] b = refl
pairs-take (suc n) (x ∷ a) [] = refl
pairs-take (suc n) (x ∷ a) (y ∷ b) = ap (λ (l : List Aim). record { raw = x; tgt = y } ∷ l) (pairs-take n a b)

-- What is held of a list, in document 01's terms: whether it is too long; and if not, all of it, under its count.

pub take_all : {A : Type 0} (n : ℕ) (xs : List A) → length xs ≤ n → take n xs ≡ xs
take_all zero [] h = refl
take_all zero (x ∷ xs) h = absurd (not-suc-le-zero h)
take_all (suc n) [] h = refl
take_all {A} (suc n) (x ∷ xs) h = ap (λ (l : List A). x ∷ l) (take_all n xs (le_of_suc-le-suc h))

both-over : (k a b : ℕ) → ◌and◌ (k <? a) (k <? b) ≡ (k <? min a b)
both-over k a b = either (dec_le (suc k) a) (dec_le (suc k) b)
  where
    either : Dec (k < a) → Dec (k < b) → ◌and◌ (k <? a) (k <? b) ≡ (k <? min a b)
    either (yes h) (yes l) = and-true _ _ (lt-ltb k a h) ∙ lt-ltb k b l ∙ sym (lt-ltb k (min a b) (omega arith))
    either (yes h) (no l) = and-true _ _ (lt-ltb k a h) ∙ le-ltb k b (omega (arith, lt_of_not-le l)) ∙ sym (le-ltb k (min a b) (omega (arith, lt_of_not-le l)))
    either (no h) l = and-false _ _ (le-ltb k a (omega (arith, lt_of_not-le h))) ∙ sym (le-ltb k (min a b) (omega (arith, lt_of_not-le h)))

module _ (ps : List Point) where
  pub points-long : (held_points ps).long ≡ (longest <? length ps)
  unfolding held
  points-long = refl

  module _ (h : length ps ≤ longest) where
    pub points-count : (held_points ps).n ≡ length ps
    unfolding held
    points-count = omega arith

    pub points-all : take (held_points ps).n (held_points ps).list ≡ ps
    unfolding held
    points-all =
        let e : min (length ps) longest ≡ length ps = omega arith in
        ap (λ (k : ℕ). take k (filled point0 longest ps)) e ∙ filled-take point0 longest (length ps) ps h (le_refl _) ∙ take_all (length ps) ps (le_refl _)

module _ (raw tgt : List Tap) where
  pub pairs-long : (held_pairs raw tgt).long ≡ (longest <? length (pairs_of raw tgt))
  unfolding pair_up held
  pairs-long = both-over longest (length raw) (length tgt) ∙ ap (λ (k : ℕ). longest <? k) (sym (pairs-length raw tgt))

  module _ (h : length (pairs_of raw tgt) ≤ longest) where
    pub pairs-count : (held_pairs raw tgt).n ≡ length (pairs_of raw tgt)
    unfolding pair_up held
    pairs-count = let e = pairs-length raw tgt in omega arith

    pub pairs-all : take (held_pairs raw tgt).n (held_pairs raw tgt).list ≡ pairs_of raw tgt
    unfolding pair_up held
    pairs-all =
        let n = length (pairs_of raw tgt) in
        let l = pairs-length raw tgt in
        let e : min (min (length raw) longest) (min (length tgt) longest) ≡ n = omega arith in
        ap (λ (k : ℕ). take k (pairs_of (filled tap0 longest raw) (filled tap0 longest tgt))) e
        ∙ pairs-take n (filled tap0 longest raw) (filled tap0 longest tgt)
        ∙ (λ i. pairs_of (filled-take tap0 longest n raw h (omega arith) i) (filled-take tap0 longest n tgt h (omega arith) i))
        ∙ sym (pairs-take n raw tgt) ∙ take_all n (pairs_of raw tgt) (le_refl _)

-- `resid` and `check` of what is held are those of the lists.

module _ (c : Cal) (raw tgt : List Tap) where
  held-long : longest < length (pairs_of raw tgt) → resid_held c (held_pairs raw tgt) ≡ resid_of c (pairs_of raw tgt)
  unfolding resid_held resid_by
  held-long h = if-true _ _ _ (pairs-long raw tgt ∙ lt-ltb _ _ h) ∙ sym (if-true _ _ _ (lt-ltb _ _ h))

  held-short : length (pairs_of raw tgt) ≤ longest → resid_held c (held_pairs raw tgt) ≡ resid_of c (pairs_of raw tgt)
  unfolding resid_held resid_first_by
  held-short h =
      if-false _ _ _ (pairs-long raw tgt ∙ le-ltb _ _ h)
      ∙ if-false _ _ _ (ap (λ (k : ℕ). longest <? k) (pairs-count raw tgt h) ∙ le-ltb _ _ h) ∙ ap (resid_of c) (pairs-all raw tgt h)

module _ (c : Cal) (ps : List Point) where
  points-refused : longest < length ps → check_held c (held_points ps) ≡ check_of c ps
  unfolding check_held check_of
  points-refused h = if-true _ _ _ (points-long ps ∙ lt-ltb _ _ h) ∙ sym (if-true _ _ _ (lt-ltb _ _ h))

  points-judged : length ps ≤ longest → check_held c (held_points ps) ≡ check_of c ps
  unfolding check_held check_first
  points-judged h =
      if-false _ _ _ (points-long ps ∙ le-ltb _ _ h)
      ∙ if-false _ _ _ (ap (λ (k : ℕ). longest <? k) (points-count ps h) ∙ le-ltb _ _ h) ∙ ap (check_of c) (points-all ps h)

pub resid-of-held : (c : Cal) (raw tgt : List Tap) → resid_held c (held_pairs raw tgt) ≡ resid_of c (pairs_of raw tgt)
resid-of-held c raw tgt = either (dec_le (suc longest) (length (pairs_of raw tgt)))
  where
    either : Dec (longest < length (pairs_of raw tgt)) → resid_held c (held_pairs raw tgt) ≡ resid_of c (pairs_of raw tgt)
    either (yes h) = held-long c raw tgt h
    either (no h) = held-short c raw tgt (omega (arith, lt_of_not-le h))

pub check-of-held : (c : Cal) (ps : List Point) → check_held c (held_points ps) ≡ check_of c ps
check-of-held c ps = either (dec_le (suc longest) (length ps))
  where
    either : Dec (longest < length ps) → check_held c (held_points ps) ≡ check_of c ps
    either (yes h) = points-refused c ps h
    either (no h) = points-judged c ps (omega (arith, lt_of_not-le h))
