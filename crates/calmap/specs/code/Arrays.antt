-- Lent lists, as the code holds them: an array of 64, a count, and whether the list goes on. proofs/Holding.antt has that
-- `resid` and `check` of what is held are those of the lists.
use Rattle.std.specs.Prelude.{ℕ, zero, suc, min, List, [], ◌∷◌, pos, length, Result, Err}
use Rattle.panel.specs.Tests.{when◌then◌else◌, ◌and◌, ◌<?◌}
use Rattle.panel.specs.declared.points.Point.{Point}
use Rattle.panel.specs.declared.refusals.Refusal.TheVariants.{Long}
use Rattle.calmap.specs.Checks.{check_first}
use Rattle.calmap.specs.Resids.{pairs_of, resid_first}
use Rattle.calmap.specs.Sizes.{longest}
use Rattle.calmap.specs.declared.arrays.Held.{Held}
use Rattle.calmap.specs.declared.units.Aim.{Aim}
use Rattle.calmap.specs.declared.units.Cal.{Cal}
use Rattle.calmap.specs.declared.units.Tap.{Tap}
use Rattle.calmap.specs.declared.limits.Verdict.{Verdict}
use Rattle.panel.specs.declared.refusals.Refusal.{Refusal}
use Rattle.calmap.specs.declared.residuals.Spread.{Spread}

-- the first k of a list, and zeros where it has no more
unfoldable pub filled : {A : Type 0} → A → ℕ → List A → List A
filled none zero xs = []
filled none (suc k) [] = none ∷ filled none k []
filled none (suc k) (x ∷ xs) = x ∷ filled none k xs

abbrev pub tap0 : Tap
tap0 = record { x = pos 0; y = pos 0 }

abbrev pub point0 : Point
point0 = record { x = 0; y = 0 }

unfoldable pub held : {A : Type 0} → A → List A → Held A
held none xs = record { list = filled none longest xs; n = min (length xs) longest; long = longest <? length xs }

abbrev pub held_taps : List Tap → Held Tap
held_taps = held tap0

abbrev pub held_points : List Point → Held Point
held_points = held point0

-- two lists side by side: the shorter counts
unfoldable pub pair_up : Held Tap → Held Tap → Held Aim
pair_up a b = record { list = pairs_of a.list b.list; n = min a.n b.n; long = a.long and b.long }

abbrev pub held_pairs : List Tap → List Tap → Held Aim
held_pairs raw tgt = pair_up (held_taps raw) (held_taps tgt)

unfoldable pub resid_held : Cal → Held Aim → Result Spread Refusal
resid_held c a = when a.long then Err Long else resid_first c a.n a.list

unfoldable pub check_held : Cal → Held Point → Result Verdict Refusal
check_held c a = when a.long then Err Long else check_first c a.n a.list
