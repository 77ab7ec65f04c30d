-- `image::finger::put_finger` meets its contract. Assumes nothing.
use Rattle.image.proofs.Written.{finger-put}
use Rattle.image.proofs.finger.put_finger.Goals as goal

pub returns : goal.returns
returns c =
    finger-put _ _ _ _ _ c.put_one.ensures c.put_taken.ensures
