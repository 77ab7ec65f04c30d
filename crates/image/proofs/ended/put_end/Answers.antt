-- `image::ended::put_end` meets its contract. Assumes nothing.
use Rattle.image.proofs.Written.{end-put}
use Rattle.image.proofs.ended.put_end.Goals as goal

pub returns : goal.returns
returns c =
    end-put _ _ _ _ _ _
    c.end_number.ensures
    c.put1.ensures
    c.end_time.ensures
    c.put8.ensures
