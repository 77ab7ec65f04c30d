-- Distances added up, by a rule of tenths: a loop's sum and largest so far, and what the list still holds, make the whole.
-- Once for every rule, so that a loop over taps cites four laws. Assumes nothing.
use Rattle.std.specs.Prelude.{Option, Some, None, Result, Ok, Err}
use Prim.Native.Nat.{ℕ, suc, ◌+◌, ◌≤◌, ◌<◌, max}
use mathlib.Core.Path.{◌≡◌, refl, sym, ap, subst, ◌∙◌}
use mathlib.Core.List.{List, [], ◌∷◌, map}
use native.Mathlib.Nat.{add-zero, zero-add, add_assoc, max-zero, zero-max}
use native.Mathlib.Omega.{arith}
use lib.IntN.{pos}
use lib.ListN.{length, take, drop, get_or, length-map, length-take, drop_of_length-le}
use Rattle.calmap.specs.Distances.{Rule}
use Rattle.calmap.specs.Resids.{Misses, known, wide, besides, miss_of, misses_of, sum_of, mean_of, largest, spread, spread_by, resid_first_by}
use Rattle.calmap.specs.Sizes.{longest}
use Rattle.calmap.specs.Units.{tenths, together_of, share_of, farther_of}
use Rattle.calmap.specs.declared.units.Aim.{Aim}
use Rattle.calmap.specs.declared.units.Cal.{Cal}
use Rattle.calmap.specs.declared.units.Tenths.{Tenths}
use Rattle.calmap.proofs.Firsts.{resid-first}
use Rattle.calmap.proofs.Walking.{walk_more}
use Rattle.panel.specs.declared.refusals.Refusal.{Refusal}
use Rattle.calmap.specs.declared.residuals.Spread.{Spread}

misses-cons : (c : Cal) (p : Aim) (ps : List Aim) → misses_of c (p ∷ ps) ≡ besides (miss_of c p) (misses_of c ps)
unfolding misses_of
misses-cons c p ps = refl

-- as many distances as taps
abbrev Counts : Misses → ℕ → Type 0
Counts (known ds) n = length ds ≡ n
Counts wide n = Unit {0}

one_more : (d : Option ℕ) (ms : Misses) (n : ℕ) → Counts ms n → Counts (besides d ms) (suc n)
one_more (Some d2) (known ds) n h = ap suc h
one_more (Some d2) wide n h = tt
one_more None ms n h = tt

counted : (c : Cal) (ps : List Aim) → Counts (misses_of c ps) (length ps)
unfolding misses_of
counted c [] = refl
counted c (p ∷ ps) = one_more (miss_of c p) (misses_of c ps) (length ps) (counted c ps)

-- a largest so far, one more, and those to come
regrouped : (a b c : ℕ) → max a (max b c) ≡ max (max a b) c
regrouped a b c = omega arith

module _ (rule : Rule) where
  -- what n distances come to, with a sum and a largest so far and those still to come
  abbrev pub spread_from : ℕ → Tenths → Tenths → Misses → Result Spread Refusal
  spread_from n s m (known ds) = Ok (spread (share_of (together_of s (sum_of (map rule ds))) n) (farther_of m (largest (map rule ds))))
  spread_from n s m wide = Err Refusal.Wide

  -- one distance more
  from_more : (n : ℕ) (s m : Tenths) (d2 : ℕ) (ms : Misses) → spread_from n s m (besides (Some d2) ms) ≡ spread_from n (together_of s (rule d2)) (farther_of m (rule d2)) ms
  unfolding sum_of largest
  from_more n s m d2 (known ds) =
      let sum = add_assoc s.0 (rule d2).0 (sum_of (map rule ds)).0 in
      let most = regrouped m.0 (rule d2).0 (largest (map rule ds)).0 in
      λ i. Ok (spread (share_of (tenths (sym sum i)) n) (tenths (most i)))
  from_more n s m d2 wide = refl

  -- none left
  from_last : (c : Cal) (n : ℕ) (s m : Tenths) → spread_from n s m (misses_of c []) ≡ Ok (spread (share_of s n) m)
  unfolding misses_of sum_of largest
  from_last c n s m = λ i. Ok (spread (share_of (tenths (add-zero s.0 i)) n) (tenths (max-zero m.0 i)))

  -- none looked at yet
  from_first : (ms : Misses) (n : ℕ) → 0 < n → Counts ms n → spread_by rule ms ≡ spread_from n (tenths 0) (tenths 0) ms
  unfolding mean_of largest
  from_first (known []) n h e = absurd (omega arith)
  from_first (known (d ∷ ds)) n h e =
      let many : suc (length (map rule ds)) ≡ n = ap suc (length-map ds rule) ∙ e in
      rw (zero-add, zero-max, many)
  from_first wide n h e = refl

  spread_none : (c : Cal) → spread_by rule (misses_of c []) ≡ Ok (spread (tenths 0) (tenths 0))
  unfolding misses_of mean_of largest
  spread_none c = refl

  -- no tap at all
  pub resid-none : (c : Cal) (n : ℕ) (ps : List Aim) → n ≡ 0 → resid_first_by rule c n ps ≡ Ok (spread (tenths 0) (tenths 0))
  resid-none c n ps e = resid-first rule c n ps (omega (arith, e)) ∙ ap (λ (k : ℕ). spread_by rule (misses_of c (take k ps))) e ∙ spread_none c

-- A loop over taps: the distances from the one at place i on.

abbrev pub misses_from : Cal → List Aim → ℕ → Misses
misses_from c ps i = misses_of c (drop i ps)

abbrev pair0 : Aim
pair0 = record { raw = record { x = pos 0; y = pos 0 }; tgt = record { x = pos 0; y = pos 0 } }

-- before the first turn, over the first n of an array
pub loop-first : (rule : Rule) (c : Cal) (n : ℕ) (ps : List Aim) → n ≤ length ps → 0 < n → n ≤ longest
    → resid_first_by rule c n ps ≡ spread_from rule n (tenths 0) (tenths 0) (misses_from c (take n ps) 0)
loop-first rule c n ps held some short =
    let many : length (take n ps) ≡ n = rw length-take (omega (arith, held)) in
    resid-first rule c n ps short ∙ from_first rule (misses_of c (take n ps)) n some (subst (Counts (misses_of c (take n ps))) many (counted c (take n ps)))

module _ (rule : Rule) (c : Cal) (n : ℕ) (ps : List Aim) where
  -- a turn: the miss at hand, and those after it
  module _ (i : ℕ) (s m : Tenths) (g : Option ℕ) (more : i < length ps) (is : g ≡ miss_of c (get_or ps i pair0)) where
    turn : spread_from rule n s m (misses_from c ps i) ≡ spread_from rule n s m (besides g (misses_from c ps (i + 1)))
    turn = ap (spread_from rule n s m) (walk_more (misses_of c) (λ p r. besides (miss_of c p) r) (misses-cons c) ps i pair0 more ∙ ap (λ (x : Option ℕ). besides x (misses_from c ps (i + 1))) (sym is))

    pub loop-next : (d2 : ℕ) (t : Tenths) → g ≡ Some d2 → t ≡ rule d2 → spread_from rule n s m (misses_from c ps i) ≡ spread_from rule n (together_of s t) (farther_of m t) (misses_from c ps (i + 1))
    loop-next d2 t e told =
        turn ∙ ap (λ (x : Option ℕ). spread_from rule n s m (besides x (misses_from c ps (i + 1)))) e ∙ from_more rule n s m d2 (misses_from c ps (i + 1))
        ∙ ap (λ (x : Tenths). spread_from rule n (together_of s x) (farther_of m x) (misses_from c ps (i + 1))) (sym told)

    pub loop-stops : g ≡ None → spread_from rule n s m (misses_from c ps i) ≡ Err Refusal.Wide
    loop-stops e = turn ∙ ap (λ (x : Option ℕ). spread_from rule n s m (besides x (misses_from c ps (i + 1)))) e

  -- behind the last
  pub loop-ends : (i : ℕ) (s m : Tenths) → length ps ≤ i → spread_from rule n s m (misses_from c ps i) ≡ Ok (spread (share_of s n) m)
  loop-ends i s m h = ap (λ (qs : List Aim). spread_from rule n s m (misses_of c qs)) (drop_of_length-le ps {i = i} h) ∙ from_last rule c n s m
