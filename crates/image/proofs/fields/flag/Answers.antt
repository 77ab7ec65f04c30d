-- `image::fields::flag` meets its contract. Assumes nothing.
use Rattle.image.proofs.Flags.{not-none}
use Rattle.image.proofs.fields.flag.Goals as goal

pub returns : goal.returns
returns c = not-none c.args.n
