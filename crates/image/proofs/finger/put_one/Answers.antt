-- `image::finger::put_one` meets its contract. Assumes nothing.
use Rattle.image.proofs.Written.{one-put}
use Rattle.image.proofs.finger.put_one.Goals as goal

pub returns : goal.returns
returns c =
    one-put _ _ _ _ _ _ _ _ _ c.put_point.ensures c.put_flag.ensures c.put2.ensures c.put_flag-2.ensures c.lock_number.ensures c.put1.ensures c.put_flag-3.ensures
