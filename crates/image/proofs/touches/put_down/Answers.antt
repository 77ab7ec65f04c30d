-- `image::touches::put_down` meets its contract. Assumes nothing.
use Rattle.image.proofs.Written.{down-put}
use Rattle.image.proofs.touches.put_down.Goals as goal

pub returns : goal.returns
returns c =
    down-put _ _ _ _ _
    c.put_point.ensures
    c.put8.ensures
