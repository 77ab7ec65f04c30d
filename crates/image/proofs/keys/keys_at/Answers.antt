-- `image::keys::keys_at` meets its contract. Assumes nothing.
use Rattle.image.proofs.keys.keys_at.Goals as goal

pub returns : goal.returns
returns c = λ i. record { told = c.get1.ensures i; wanted = c.get1-2.ensures i }
