-- `image::whole::tracker_at` meets its contract. Assumes nothing.
use Rattle.image.specs.code.Whole.{tracker_at}
use Rattle.image.proofs.SettingLaws.{settings-are}
use Rattle.image.proofs.whole.tracker_at.Goals as goal

pub returns : goal.returns
unfolding tracker_at
returns c =
    λ i. record { touch = c.touch_at.ensures i; one = c.one_at.ensures i; app = c.app_at.ensures i; multi_end = c.end_at.ensures i; keys = c.keys_at.ensures i; settings = settings-are _ _ c.settings_at.ensures i }
