-- `touchcal::moments::place_of` meets its contract. Assumes nothing.
use Rattle.std.proofs.Common.{rules}
use Rattle.touchcal.specs.Moments.{place_of}
use Rattle.touchcal.proofs.moments.place_of.Goals as goal

pub returns : goal.returns
unfolding place_of
returns c = search rules
