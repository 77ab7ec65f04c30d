-- `fit` of what is held is that of the lists (`fit-of-held` of proofs/Firsts.antt). Assumes nothing.
use Rattle.std.proofs.Common.{◌∙◌}
use Rattle.touchcal.specs.code.Arrays.{fit_held}
use Rattle.touchcal.proofs.Firsts.{fit-of-held}
use Rattle.touchcal.proofs.lists.fit.Goals as goal

pub returns : goal.returns
returns c =
    c.fit_held.ensures ∙ (λ i. fit_held (c.pairs_of.ensures i) (c.points_of.ensures i)) ∙ fit-of-held c.args.raw.now c.args.tgt.now c.args.targets.now
