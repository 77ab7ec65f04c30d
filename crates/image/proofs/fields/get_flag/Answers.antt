-- `image::fields::get_flag` meets its contract. Assumes nothing.
use mathlib.Core.Path.{◌∙◌, ap}
use Rattle.image.specs.code.Numbers.{flag_from}
use Rattle.image.proofs.fields.get_flag.Goals as goal

pub returns : goal.returns
returns c = c.flag.ensures ∙ ap flag_from c.get1.ensures
