-- `image::fields::put8` meets its contract. Assumes nothing.
use mathlib.Core.Path.{refl}
use Rattle.image.proofs.Shifts.{stored-8}
use Rattle.image.proofs.fields.put8.Goals as goal

pub returns : goal.returns
returns c = stored-8 _ _ _ _ _ _ _ _ _ _ refl refl refl refl refl refl refl
