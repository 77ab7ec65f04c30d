-- `image::keys::put_keys` meets its contract. Assumes nothing.
use Rattle.image.proofs.Written.{keys-put}
use Rattle.image.proofs.keys.put_keys.Goals as goal

pub returns : goal.returns
returns c =
    keys-put _ _ _ _ c.put1.ensures c.put1-2.ensures
