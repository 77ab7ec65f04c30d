-- `calmap::mapping::fits` meets its contract: what is slight fits (proofs/Slight.antt). Assumes nothing.
use native.Mathlib.Omega.{arith}
use Rattle.std.proofs.lemmas.Grind.{common_steps}
use Rattle.calmap.proofs.Signed.{plain}
use Rattle.calmap.proofs.Slight.{slight-fits}
use Rattle.calmap.proofs.mapping.fits.Goals as goal

pub returns-then-few_pixels-2 : goal.returns-then-few_pixels-2
returns-then-few_pixels-2 c = grind (arith, common_steps, slight-fits, plain c.ranges.x, plain c.ranges.y)
