-- The tracker that an area of bytes stands for if it is an image; of any other area, some tracker. And what is looked at to tell
-- an image.
use Rattle.std.specs.Prelude.{Bool, List, ℕ}
use Rattle.panel.specs.Tests.{◌and◌}
use Rattle.gesture.specs.declared.record.Tracker.{Tracker}
use Rattle.image.specs.code.Touches.{touch_at, touch_checked}
use Rattle.image.specs.code.Finger.{one_at, app_at, one_checked, app_checked}
use Rattle.image.specs.code.Ended.{end_at, end_checked}
use Rattle.image.specs.code.Keys.{keys_at}
use Rattle.image.specs.code.Settings.{settings_at, settings_checked}

unfoldable pub tracker_at : List ℕ → Tracker
tracker_at area =
    record {
      touch = touch_at area;
      one = one_at area;
      app = app_at area;
      multi_end = end_at area;
      keys = keys_at area;
      settings = settings_at area;
    }

unfoldable pub rest_checked : List ℕ → Bool
rest_checked area = one_checked area and app_checked area and end_checked area and settings_checked area

unfoldable pub image_checked : List ℕ → Bool
image_checked area = touch_checked area and rest_checked area
