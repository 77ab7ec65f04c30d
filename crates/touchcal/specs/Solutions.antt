-- The solution of `fit`, or why there is none.
--
-- "`fit`: the Rust's operations in its order, each rounded once .. 1e-3 is bits 3A83126F." Document 02, [2]: "NOFIT divides:
-- fewer than three pairs, the spread test failing (line, or either sum under 1), a coefficient beyond `q16`, and for that one,
-- which of the six came first in order a to f. Where the Rust says `None`, exactly one of these is said."
use Rattle.std.specs.Prelude.{ℕ, suc, Bool, not, List, [], ◌∷◌, length, Float, Result, Ok, Err}
use Rattle.panel.specs.Tests.{when◌then◌else◌, ◌and◌, ◌<?◌}
use Rattle.calmap.specs.declared.units.Aim.{Aim}
use Rattle.touchcal.specs.Binary32.{◌⊖◌, ◌⊗◌, ◌⊘◌, ◌⊲◌}
use Rattle.touchcal.specs.Sizes.{one32, thin32, least_sum32, fewest}
use Rattle.touchcal.specs.Floats.{q16_of, steps_of}
use Rattle.touchcal.specs.Moments.{moments_of}
use Rattle.touchcal.specs.declared.floats.Coefs.{Coefs}
use Rattle.touchcal.specs.declared.floats.CoefPlace.{CoefPlace}
use Rattle.touchcal.specs.declared.moments.Sums.{Sums}
use Rattle.touchcal.specs.declared.moments.Moments.{Moments}
use Rattle.touchcal.specs.declared.solving.Unsolved.{Unsolved}
use Rattle.touchcal.specs.declared.solving.Unsolved.TheVariants.{Few, Line, Steep}
use Rattle.calmap.specs.declared.units.Cal.{Cal}
use Rattle.panel.specs.declared.refusals.Refusal.{Refusal}
use Rattle.calmap.specs.declared.units.Q16.{Q16}

unfoldable pub det_of : Sums → Float
det_of s = s.sxx ⊗ s.syy ⊖ s.sxy ⊗ s.sxy

-- the raw taps are not on one line, and not all in one place along x or along y. A NaN on either side of the determinant's
-- test fails it, as the Rust's `!(det > ..)` has it: LINE
unfoldable pub spreads : Sums → Bool
spreads s = (thin32 ⊗ s.sxx ⊗ s.syy ⊲ det_of s) and not (s.sxx ⊲ least_sum32) and not (s.syy ⊲ least_sum32)

-- x' = a x + b y + c, y' = d x + e y + f
unfoldable pub coefs_of : Moments → Coefs
coefs_of w =
    let m = w.means in
    let s = w.sums in
    let det = det_of s in
    let a = (s.sxu ⊗ s.syy ⊖ s.syu ⊗ s.sxy) ⊘ det in
    let b = (s.syu ⊗ s.sxx ⊖ s.sxu ⊗ s.sxy) ⊘ det in
    let d = (s.sxv ⊗ s.syy ⊖ s.syv ⊗ s.sxy) ⊘ det in
    let e = (s.syv ⊗ s.sxx ⊖ s.sxv ⊗ s.sxy) ⊘ det in
    record {
      a = a;
      b = b;
      c = m.mu ⊖ a ⊗ m.mx ⊖ b ⊗ m.my;
      d = d;
      e = e;
      f = m.mv ⊖ d ⊗ m.mx ⊖ e ⊗ m.my;
    }

-- the differences from the identity
unfoldable pub deltas_of : Coefs → Coefs
deltas_of v = record { a = v.a ⊖ one32; b = v.b; c = v.c; d = v.d; e = v.e ⊖ one32; f = v.f }

-- "which of the six came first in order a to f": how many `q16` takes before the first that it refuses
abbrev pub passing : Result Q16 Refusal → ℕ → ℕ
passing (Ok q) n = suc n
passing (Err r) n = 0

unfoldable pub first_refused : List Float → ℕ
first_refused [] = 0
first_refused (v ∷ vs) = passing (q16_of v) (first_refused vs)

abbrev pub in_order : Coefs → List Float
in_order v = v.a ∷ v.b ∷ v.c ∷ v.d ∷ v.e ∷ v.f ∷ []

-- a place: 0 for a to 5 for f, as c0 to c5 are counted
abbrev pub place : ℕ → CoefPlace
place k = record { 0 = k }

abbrev pub or_place : {A : Type 0} → Result A Refusal → CoefPlace → Result A CoefPlace
or_place (Ok c) p = Ok c
or_place (Err r) p = Err p

-- differences from the identity in steps, or the place of the first that has none
unfoldable pub stepped_of : Coefs → Result Cal CoefPlace
stepped_of v = or_place (steps_of v) (place (first_refused (in_order v)))

abbrev pub of_steps : Result Cal CoefPlace → Result Cal Unsolved
of_steps (Ok c) = Ok c
of_steps (Err p) = Err (Steep p)

unfoldable pub solved_of : List Aim → Result Cal Unsolved
solved_of ps =
    let w = moments_of ps in
    when length ps <? fewest then Err Few
    else when spreads w.sums then of_steps (stepped_of (deltas_of (coefs_of w)))
    else Err Line
