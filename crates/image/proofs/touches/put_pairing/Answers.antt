-- `image::touches::put_pairing` meets its contract. Assumes nothing.
use Rattle.image.proofs.Absent.{unpaired-put, paired-put}
use Rattle.image.proofs.touches.put_pairing.Goals as goal

pub returns-in-None : goal.returns-in-None
returns-in-None c = unpaired-put _ _ c.requires c.in-None.is

pub returns-in-Some : goal.returns-in-Some
returns-in-Some c =
    paired-put _ _ _ _ _ c.in-Some.is c.put1.ensures c.put_pair.ensures
