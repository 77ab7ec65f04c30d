-- `touchcal::solving::is_spread` meets its contract. Assumes nothing.
use Rattle.std.proofs.Common.{◌≡◌, true, false, not, sym, ◌∙◌, true≢false}
use Rattle.panel.proofs.Follow.{follow}
use lib.Ieee.{of_bits}
use Rattle.touchcal.specs.Binary32.{◌⊲◌}
use Rattle.touchcal.specs.Sizes.{least_sum32}
use Rattle.touchcal.specs.Solutions.{spreads}
use Rattle.touchcal.proofs.solving.is_spread.Goals as goal
use Rattle.touchcal.proofs.solving.is_spread.Goals.{then-det-thin, else-det-thin}

pub returns-then-not-s : goal.returns-then-not-s
unfolding of_bits spreads
returns-then-not-s c =
    elim c.if-det-thin.branch [
      | then-det-thin w ↦ let wide : not (c.args.s.sxx ⊲ least_sum32) ≡ true = sym w.value-is ∙ c.if-not-s.true in search (follow, ← c.det.ensures)
      | else-det-thin w ↦ absurd (true≢false (sym c.if-not-s.true ∙ w.value-is ∙ w.if-det-thin.false))
    ]

pub returns-else-not-s : goal.returns-else-not-s
unfolding of_bits spreads
returns-else-not-s c =
    elim c.if-det-thin.branch [
      | then-det-thin w ↦ let close : not (c.args.s.sxx ⊲ least_sum32) ≡ false = sym w.value-is ∙ c.if-not-s.false in search (follow, ← c.det.ensures, c.if-not-s.false)
      | else-det-thin w ↦ search (follow, ← c.det.ensures, c.if-not-s.false)
    ]
