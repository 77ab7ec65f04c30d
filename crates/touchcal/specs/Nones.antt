-- Where the Rust's `fit` says `None`, and what is said in its place.
--
-- Document 02, [2]: "Where the Rust says `None`, exactly one of these is said." Its three ways, in its order: `if n < 3`;
-- `if !(det > 1e-3 * sxx * syy) || sxx < 1.0 || syy < 1.0`; and one of the six `q16(..)?`, "which of the six came first in order
-- a to f". Nothing here says what our `fit` does: proofs/Nones.antt holds it to this.
use Rattle.std.specs.Prelude.{◌≡◌, ℕ, suc, ◌+◌, Bool, true, false, not, List, [], ◌∷◌, length, Float, Result, Ok, Err}
use Rattle.panel.specs.Tests.{◌and◌, ◌or◌, ◌<?◌, ◌=?◌}
use Rattle.panel.specs.Points.{all_on_panel}
use Rattle.panel.specs.declared.points.Point.{Point}
use Rattle.calmap.specs.Sizes.{longest}
use Rattle.calmap.specs.declared.units.Aim.{Aim}
use Rattle.touchcal.specs.Binary32.{◌⊗◌, ◌⊲◌}
use Rattle.touchcal.specs.Sizes.{thin32, least_sum32, fewest}
use Rattle.touchcal.specs.Floats.{in_reach, q16_of}
use Rattle.touchcal.specs.Moments.{moments_of}
use Rattle.touchcal.specs.Solutions.{det_of, coefs_of, deltas_of, in_order}
use Rattle.touchcal.specs.declared.moments.Sums.{Sums}
use Rattle.panel.specs.declared.refusals.Refusal.{Refusal}
use Rattle.calmap.specs.declared.units.Q16.{Q16}

-- `!(det > 1e-3 * sxx * syy) || sxx < 1.0 || syy < 1.0`: a NaN in the first test is true here
abbrev pub rust_line : Sums → Bool
rust_line s = not (thin32 ⊗ s.sxx ⊗ s.syy ⊲ det_of s) or s.sxx ⊲ least_sum32 or s.syy ⊲ least_sum32

-- `q16(..)?` ends the call
abbrev pub ends : Result Q16 Refusal → Bool
ends (Ok q) = false
ends (Err r) = true

abbrev pub rust_steep : List Float → Bool
rust_steep [] = false
rust_steep (v ∷ vs) = ends (q16_of v) or rust_steep vs

abbrev pub rust_none : List Aim → Bool
rust_none ps =
    let w = moments_of ps in
    length ps <? fewest or rust_line w.sums or rust_steep (in_order (deltas_of (coefs_of w)))

-- neither LONG nor TARGET, which come before
abbrev pub asked : List Aim → List Point → Bool
asked ps ts = not (longest <? length ps or longest <? length ts) and all_on_panel ts

-- which of the three a number says, and how many of them
pub record Said : Type 0 where
  pub few : Bool
  pub line : Bool
  pub steep : Bool

abbrev pub said : ℕ → Said
said n = record { few = n =? 6; line = n =? 16; steep = n =? 17 }

abbrev pub one : Bool → ℕ
one true = 1
one false = 0

abbrev pub how_many : Said → ℕ
how_many w = one w.few + one w.line + one w.steep

-- "which of the six came first": it is out of reach, and all before it are in reach
pub data First : ℕ → List Float → Type 0 where
  here : {v : Float} {vs : List Float} → in_reach v ≡ false → First 0 (v ∷ vs)
  behind : {k : ℕ} {v : Float} {vs : List Float} → in_reach v ≡ true → First k vs → First (suc k) (v ∷ vs)
