-- `image::settings::put_settings` meets its contract. Assumes nothing.
use Rattle.image.proofs.SettingLaws.{settings-put}
use Rattle.image.proofs.settings.put_settings.Goals as goal

pub returns : goal.returns
returns c =
    settings-put _ _ _ _ c.put2.ensures c.put_flag.ensures
