-- `touchcal::floats::out` meets its contract. Assumes nothing.
use Rattle.std.proofs.Common.{ap, ◌∙◌, w32, rules}
use lib.Ieee.{Float, of_bits}
use Rattle.touchcal.specs.Binary32.{◌⊕◌, ◌⊘◌, float}
use Rattle.touchcal.specs.Sizes.{scale32}
use Rattle.touchcal.specs.Floats.{out_of}
use mir.Val.{SFits}
use mir.Facts.{to_z-of_z}
use Rattle.touchcal.proofs.floats.out.Goals as goal

pub returns : goal.returns
unfolding of_bits out_of
returns c =
    let f : SFits w32 c.args.c.0 = search rules in
    ap (λ (x : Float). x ⊘ scale32 ⊕ c.args.base) (c.nearest_i32_to_f32.ensures ∙ ap float (to_z-of_z f))
