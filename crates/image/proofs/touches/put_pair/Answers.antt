-- `image::touches::put_pair` meets its contract. Assumes nothing.
use Rattle.image.proofs.Written.{pair_put}
use Rattle.image.proofs.touches.put_pair.Goals as goal

pub returns : goal.returns
returns c =
    pair_put _ _ _ _ _ _ _ _ _
    c.put_point.ensures
    c.put_point-2.ensures
    c.from.ensures
    c.put1.ensures
    c.put2.ensures
    c.put_point-3.ensures
    c.put1-2.ensures
