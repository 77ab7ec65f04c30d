-- Where the Rust's `fit` says `None`, and what is said there in its place: exactly one of FEW, LINE and STEEP, and none of
-- them anywhere else. Assumes nothing.
use Rattle.std.specs.Prelude.{Result, Ok, Err}
use Rattle.std.proofs.Common.{◌≡◌, ℕ, ◌<◌, Bool, true, false, not, List, length, sym, refl, ap, ◌∙◌, arith}
use lib.Ieee.{Float, nan, inf, fin, lt}
use Rattle.panel.specs.Tests.{when◌then◌else◌, ◌and◌, ◌or◌, ◌<?◌}
use Rattle.panel.specs.Points.{all_on_panel}
use Rattle.panel.specs.declared.points.Point.{Point}
use Rattle.panel.specs.declared.refusals.Refusal.TheVariants as Refusal
use Rattle.panel.proofs.Follow.{if-true, if-false}
use Rattle.calmap.specs.Sizes.{longest}
use Rattle.calmap.specs.Distances.{tenths_of}
use Rattle.calmap.specs.Resids.{Misses, known, wide, misses_of}
use Rattle.calmap.specs.declared.units.Cal.{Cal}
use Rattle.calmap.specs.declared.units.Aim.{Aim}
use Rattle.touchcal.specs.Binary32.{◌⊗◌, ◌⊲◌}
use Rattle.touchcal.specs.Sizes.{thin32}
use Rattle.touchcal.specs.Floats.{identity}
use Rattle.touchcal.specs.Moments.{moments_of}
use Rattle.touchcal.specs.Solutions.{det_of, spreads, in_order}
use Rattle.touchcal.specs.Fits.{fit_of, told_fit}
use Rattle.touchcal.specs.Nones.{rust_line, rust_none, asked, said, how_many, First}
use Rattle.touchcal.specs.declared.floats.CoefPlace.{CoefPlace}
use Rattle.touchcal.specs.declared.moments.Sums.{Sums}
use Rattle.touchcal.specs.declared.solving.Unsolved.TheVariants as Unsolved
use Rattle.touchcal.specs.declared.fitting.Fit.{Fit}
use Rattle.touchcal.specs.declared.fitting.Unfit.{Unfit}
use Rattle.touchcal.specs.declared.fitting.Unfit.TheVariants.{Refused, Steep}
use Rattle.touchcal.proofs.Reach.{nearest_cal, steep-is, steep-first, first_below}
use Rattle.touchcal.proofs.Fitted.{deltas, few, spread, near, first, solved-are, unfit-exactly, fit_is, tells, zeros, by_solution, by_misses}
use Rattle.touchcal.proofs.Promises.{fit-tells}
use Rattle.touchcal.proofs.Choices.{neither_left, neither_right}

-- ---- a NaN on either side of the spread test is LINE

under-nan : (x : Float) → x ⊲ nan ≡ false
unfolding lt
under-nan nan = refl
under-nan (inf s) = refl
under-nan (fin s m e) = refl

pub nan-det : (s : Sums) → det_of s ≡ nan → spreads s ≡ false
unfolding spreads ◌and◌
nan-det s e = rw (e, under-nan (thin32 ⊗ s.sxx ⊗ s.syy))

pub nan-thin : (s : Sums) → thin32 ⊗ s.sxx ⊗ s.syy ≡ nan → spreads s ≡ false
unfolding spreads ◌and◌ lt
nan-thin s e = rw e

-- the spread test turned over, as the Rust has it

turned : (a b c : Bool) → not (a and not b and not c) ≡ not a or b or c
unfolding ◌and◌ ◌or◌
turned false b c = refl
turned true true c = refl
turned true false true = refl
turned true false false = refl

pub line-is : (s : Sums) → not (spreads s) ≡ rust_line s
unfolding spreads
line-is s = turned _ _ _

-- ---- which number comes where

-- WIDE, or none
abbrev measured : Misses → Misses → ℕ
measured (known ds) (known before) = 0
measured (known ds) wide = 3
measured wide before = 3

abbrev number_by : Bool → Bool → Bool → Bool → Bool → ℕ → ℕ
number_by long on f s n m = when long then 4 else when on then (when f then 6 else when s then (when n then m else 17) else 16) else 5

measured-tells : (c : Cal) (ts : List Point) (ms before : Misses) → (by_misses c ts ms before).number ≡ measured ms before
measured-tells c ts (known ds) (known before) = refl
measured-tells c ts (known ds) wide = refl
measured-tells c ts wide before = refl

say : (long on f s n : Bool) (ms before : Misses)
    → said (number_by long on f s n (measured ms before))
    ≡ record { few = (not long and on) and f; line = (not long and on) and not f and not s; steep = (not long and on) and not f and s and not n }
unfolding when◌then◌else◌ ◌and◌
say true on f s n ms before = refl
say false false f s n ms before = refl
say false true true s n ms before = refl
say false true false false n ms before = refl
say false true false true false ms before = refl
say false true false true true (known ds) (known d0) = refl
say false true false true true (known ds) wide = refl
say false true false true true wide before = refl

-- the Rust's `None` is exactly one of the three
counted : (a f s n : Bool) → how_many (record { few = a and f; line = a and not f and not s; steep = a and not f and s and not n }) ≡ (when a and (f or not s or not n) then 1 else 0)
unfolding when◌then◌else◌ ◌and◌ ◌or◌
counted false f s n = refl
counted true true s n = refl
counted true false false n = refl
counted true false true true = refl
counted true false true false = refl

-- only a coefficient out of reach is 17
seventeen : {X : Type 0} (long on f s n : Bool) (ms before : Misses) → number_by long on f s n (measured ms before) ≡ 17
    → (long ≡ false → on ≡ true → f ≡ false → s ≡ true → n ≡ false → X) → X
unfolding when◌then◌else◌
seventeen true on f s n ms before e go = absurd (omega arith)
seventeen false false f s n ms before e go = absurd (omega arith)
seventeen false true true s n ms before e go = absurd (omega arith)
seventeen false true false false n ms before e go = absurd (omega arith)
seventeen false true false true false ms before e go = go refl refl refl refl refl
seventeen false true false true true (known ds) (known d0) e go = absurd (omega arith)
seventeen false true false true true (known ds) wide e go = absurd (omega arith)
seventeen false true false true true wide before e go = absurd (omega arith)

module _ (ps : List Aim) (ts : List Point) where
  abbrev long : Bool
  long = longest <? length ps or longest <? length ts

  abbrev taps : Misses
  taps = misses_of (nearest_cal (deltas ps)) ps

  number_by-measured : (l on f s n : Bool) (p : CoefPlace)
      → (when l then tells 4 zeros else when on then by_solution (when f then Err Unsolved.Few else when s then (when n then Ok (nearest_cal (deltas ps)) else Err (Unsolved.Steep p)) else Err Unsolved.Line) ps ts else tells 5 zeros).number
      ≡ number_by l on f s n (measured taps (misses_of identity ps))
  unfolding when◌then◌else◌
  number_by-measured true on f s n p = refl
  number_by-measured false false f s n p = refl
  number_by-measured false true true s n p = refl
  number_by-measured false true false false n p = refl
  number_by-measured false true false true false p = refl
  number_by-measured false true false true true p = measured-tells (nearest_cal (deltas ps)) ts taps (misses_of identity ps)

  -- LONG, TARGET, FEW, LINE, STEEP and WIDE in this order
  fit-number : (told_fit (fit_of ps ts)).number ≡ number_by long (all_on_panel ts) (few ps) (spread ps) (near ps) (measured taps (misses_of identity ps))
  fit-number = rw (fit-tells ps ts, solved-are ps) (number_by-measured long (all_on_panel ts) (few ps) (spread ps) (near ps) (first ps))

  -- each of the three exactly where its test is the first to fail
  pub why-exactly : said (told_fit (fit_of ps ts)).number
      ≡ record { few = asked ps ts and few ps; line = asked ps ts and not (few ps) and not (spread ps); steep = asked ps ts and not (few ps) and spread ps and not (near ps) }
  why-exactly = rw fit-number (say long (all_on_panel ts) (few ps) (spread ps) (near ps) taps (misses_of identity ps))

  -- "Where the Rust says `None`, exactly one of these is said", and nowhere else is any
  pub none-exactly : how_many (said (told_fit (fit_of ps ts)).number) ≡ (when asked ps ts and rust_none ps then 1 else 0)
  none-exactly =
      ap how_many why-exactly
      ∙ counted (asked ps ts) (few ps) (spread ps) (near ps)
      ∙ ap (λ (b : Bool). when asked ps ts and (few ps or b) then 1 else 0)
      (ap (λ (l : Bool). l or not (near ps)) (line-is (moments_of ps).sums) ∙ ap (λ (n : Bool). rust_line (moments_of ps).sums or n) (sym (steep-is (deltas ps))))

  -- STEEP always carries a place, that of the first coefficient out of reach
  pub steep-told : (told_fit (fit_of ps ts)).number ≡ 17 → (fit_of ps ts ≡ Err (Steep (first ps))) × First (first ps).0 (in_order (deltas ps))
  steep-told e =
      seventeen long (all_on_panel ts) (few ps) (spread ps) (near ps) taps (misses_of identity ps) (sym fit-number ∙ e) (λ l on f s n.
      (fit_is ps ts (neither_left _ _ l) (neither_right _ _ l) on tenths_of ∙ unfit-exactly tenths_of ps ts ∙ if-false _ _ _ f ∙ if-true _ _ _ s ∙ if-false _ _ _ n, steep-first (deltas ps) n))

  -- a refusal without a place is never STEEP
  pub never-alone : fit_of ps ts ≡ Err (Refused Refusal.Steep) → ⊥
  never-alone e =
      let p = (steep-told (ap (λ (a : Result Fit Unfit). (told_fit a).number) e)).0 in
      cc

  -- one of six
  pub steep-below : (told_fit (fit_of ps ts)).number ≡ 17 → (first ps).0 < 6
  steep-below e = first_below (steep-told e).1
