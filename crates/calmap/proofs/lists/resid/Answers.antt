-- `resid` of what is held is that of the lists (`resid-of-held` of proofs/Holding.antt). Assumes nothing.
use mathlib.Core.Path.{ap, ◌∙◌}
use Rattle.calmap.specs.code.Arrays.{resid_held}
use Rattle.calmap.proofs.Holding.{resid-of-held}
use Rattle.calmap.proofs.lists.resid.Goals as goal

pub returns : goal.returns
returns c = c.resid_held.ensures ∙ ap (resid_held c.args.c) c.pairs_of.ensures ∙ resid-of-held c.args.c c.args.raw.now c.args.tgt.now
