-- `calmap::mapping::spot_at` meets its contract. Assumes nothing.
use mathlib.Core.Path.{ap, ◌∙◌}
use Rattle.calmap.specs.Maps.{line, line_fits, spot}
use Rattle.calmap.specs.Units.{down_twelve}
use Rattle.calmap.specs.code.Checked.{spot_of}
use Rattle.calmap.specs.declared.units.Q16.{Q16}
use Rattle.calmap.proofs.Signed.{plain}
use Rattle.calmap.proofs.Slight.{line-of-x, line-of-y}
use Rattle.calmap.proofs.mapping.spot_at.Goals as goal

pub line_at-u-requires : goal.line_at-u-requires
line_at-u-requires c =
    let k = c.args.c in
    let px = plain c.ranges.x in
    (λ i. line_fits (px i) k.c0 k.c1 k.c2 (px i) (plain c.ranges.y i)) ∙ line-of-x _ _ _ c.requires

pub line_at-v-requires : goal.line_at-v-requires
line_at-v-requires c =
    let k = c.args.c in
    let py = plain c.ranges.y in
    (λ i. line_fits (py i) k.c3 k.c4 k.c5 (plain c.ranges.x i) (py i)) ∙ line-of-y _ _ _ c.requires

pub returns : goal.returns
unfolding spot_of
returns c =
    let k = c.args.c in
    let px = plain c.ranges.x in
    let py = plain c.ranges.y in
    let line_x = c.line_at-u.ensures ∙ (λ i. line (px i) k.c0 k.c1 k.c2 (px i) (py i)) in
    let line-y = c.line_at-v.ensures ∙ (λ i. line (py i) k.c3 k.c4 k.c5 (px i) (py i)) in
    let eu = c.down_twelve.ensures ∙ ap (λ (q : Q16). down_twelve q) line_x in
    let ev = c.down_twelve-2.ensures ∙ ap (λ (q : Q16). down_twelve q) line-y in
    λ i. spot (eu i) (ev i)
