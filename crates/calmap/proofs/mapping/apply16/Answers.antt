-- `calmap::mapping::apply16` meets its contract. Assumes nothing.
use Rattle.std.specs.Prelude.{Ok}
use mathlib.Core.Path.{sym, ap, ◌∙◌}
use Rattle.calmap.proofs.Chains.{applied, not-applied}
use Rattle.calmap.proofs.Signed.{plain}
use Rattle.calmap.proofs.mapping.apply16.Goals as goal

pub spot_at-requires : goal.spot_at-requires
spot_at-requires c = sym c.fits.ensures ∙ c.if-fits.true

pub returns-then-fits : goal.returns-then-fits
returns-then-fits c =
    let asked = simp (plain c.ranges.x, plain c.ranges.y) at c.fits.ensures in
    let there = simp (plain c.ranges.x, plain c.ranges.y) at c.spot_at.ensures in
    ap Ok there ∙ applied _ _ _ (sym asked ∙ c.if-fits.true)

pub returns : goal.returns
returns c =
    let asked = simp (plain c.ranges.x, plain c.ranges.y) at c.fits.ensures in
    not-applied _ _ _ (sym asked ∙ c.if-fits.false)
