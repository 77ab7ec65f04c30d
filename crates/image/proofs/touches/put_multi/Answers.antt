-- `image::touches::put_multi` meets its contract. Assumes nothing.
use Rattle.image.proofs.Written.{multi-put}
use Rattle.image.proofs.touches.put_multi.Goals as goal

pub returns : goal.returns
returns c =
    multi-put _ _ _ _ _ _ _
    c.put1.ensures
    c.put_point.ensures
    c.put8.ensures
    c.put_point-2.ensures
    c.put8-2.ensures
