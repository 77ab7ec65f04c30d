-- `image::finger::put_taken` meets its contract. Assumes nothing.
use Rattle.image.proofs.Written.{taken-put}
use Rattle.image.proofs.finger.put_taken.Goals as goal

pub returns : goal.returns
returns c =
    taken-put _ _ _ _ _ _ _ c.put_flag.ensures c.put_flag-2.ensures c.put_flag-3.ensures c.put_flag-4.ensures
