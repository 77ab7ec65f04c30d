-- The first n of an array, n within what it holds: `check` and `resid` of them are not LONG. Assumes nothing.
use Rattle.std.specs.Prelude.{Ok, Err}
use Prim.Native.Nat.{ℕ, ◌≤◌, ◌<◌}
use mathlib.Core.Path.{◌≡◌, ◌∙◌}
use mathlib.Core.Bool.{false}
use mathlib.Core.List.{List}
use native.Mathlib.Omega.{arith}
use lib.ListN.{length, take, length-take}
use borrow.Author.Tests.{le-ltb, lt-ltb}
use Rattle.panel.proofs.Follow.{if-true, if-false}
use Rattle.panel.specs.Points.{all_on_panel}
use Rattle.panel.specs.Tests.{when◌then◌else◌, ◌<?◌}
use Rattle.panel.specs.declared.points.Point.{Point}
use Rattle.panel.specs.declared.refusals.Refusal.TheVariants as Refusal
use Rattle.calmap.specs.Checks.{verdict_of, check_of, check_first}
use Rattle.calmap.specs.Distances.{Rule}
use Rattle.calmap.specs.Resids.{misses_of, spread_by, resid_by, resid_first_by}
use Rattle.calmap.specs.Sizes.{longest}
use Rattle.calmap.specs.declared.units.Aim.{Aim}
use Rattle.calmap.specs.declared.units.Cal.{Cal}

not-long : {A : Type 0} (n : ℕ) (xs : List A) → n ≤ longest → (longest <? length (take n xs)) ≡ false
not-long n xs h = le-ltb longest (length (take n xs)) (rw length-take (omega arith))

module _ (rule : Rule) (c : Cal) (n : ℕ) (ps : List Aim) where
  pub resid-long : longest < n → resid_first_by rule c n ps ≡ Err Refusal.Long
  unfolding resid_first_by
  resid-long h = if-true _ _ _ (lt-ltb _ _ h)

  pub resid-first : n ≤ longest → resid_first_by rule c n ps ≡ spread_by rule (misses_of c (take n ps))
  unfolding resid_first_by resid_by
  resid-first h = if-false _ _ _ (le-ltb _ _ h) ∙ if-false _ _ _ (not-long n ps h)

module _ (c : Cal) (n : ℕ) (ps : List Point) where
  pub check-long : longest < n → check_first c n ps ≡ Err Refusal.Long
  unfolding check_first
  check-long h = if-true _ _ _ (lt-ltb _ _ h)

  pub check-first : n ≤ longest → check_first c n ps ≡ when◌then◌else◌ (all_on_panel (take n ps)) (Ok (verdict_of c (take n ps))) (Err Refusal.Target)
  unfolding check_first check_of
  check-first h = if-false _ _ _ (le-ltb _ _ h) ∙ if-false _ _ _ (not-long n ps h)
