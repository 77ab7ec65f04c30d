-- `image::finger::lock_from` meets its contract. Assumes nothing.
use Rattle.panel.proofs.Follow.{follow}
use Rattle.image.specs.code.Finger.{lock_from}
use Rattle.image.proofs.finger.lock_from.Goals as goal

pub returns-then-n-eq0 : goal.returns-then-n-eq0
unfolding lock_from
returns-then-n-eq0 c = search follow

pub returns-then-n-eq1 : goal.returns-then-n-eq1
unfolding lock_from
returns-then-n-eq1 c = search follow

pub returns : goal.returns
unfolding lock_from
returns c = search follow
