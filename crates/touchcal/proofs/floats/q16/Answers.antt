-- `touchcal::floats::q16` meets its contract. Assumes nothing.
use Rattle.std.proofs.Common.{◌≡◌, T, sym, ◌∙◌, subst, w32, SFits, to_z, of_z, rules}
use lib.Ieee.{of_bits, neg}
use mir.ValLaws.{to_z-of_z}
use Rattle.panel.proofs.Follow.{follow}
use Rattle.touchcal.specs.Binary32.{◌⊗◌, cut}
use Rattle.touchcal.specs.Sizes.{scale32}
use Rattle.touchcal.specs.Floats.{q16_of, in_reach, nearest_step, half_away}
use Rattle.touchcal.proofs.floats.q16.Goals as goal
use Rattle.touchcal.proofs.floats.q16.Goals.{else-s-via-then-s+else-s-2, else-s-via-else-s}

pub nearest-requires : goal.nearest-requires
unfolding of_bits neg
nearest-requires c = (subst T (sym c.if-s.true) tt, subst T (sym c.if-s-2.true) tt)

pub returns-then-s-2 : goal.returns-then-s-2
unfolding of_bits neg q16_of in_reach nearest_step
returns-then-s-2 c =
    let f : SFits w32 c.nearest.result = search rules in
    let z : to_z w32 (of_z w32 c.nearest.result) ≡ cut (half_away (c.args.v ⊗ scale32)) = to_z-of_z w32 c.nearest.result f ∙ c.nearest.ensures in
    search (follow, z)

pub returns : goal.returns
unfolding of_bits neg q16_of in_reach nearest_step
returns c =
    elim c.else-s.branch [ else-s-via-then-s+else-s-2 w ↦ search follow | else-s-via-else-s w ↦ search follow ]
