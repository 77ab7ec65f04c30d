-- The captures and the settings.
--
-- "`capture`: takes and clears the raw wish always; if active and not captured sets captured and raw. `capture_direct`:
-- clears the wish; if active sets captured and direct." "grab time (0 at the start, set to at most 5000)".
use Rattle.std.specs.Prelude.{ℕ, min, Bool, false, not}
use Rattle.panel.specs.Tests.{when◌then◌else◌, ◌and◌}
use Rattle.fingers.specs.Thresholds.{grab_most}
use Rattle.fingers.specs.Settings.{set_raw, set_grab}
use Rattle.fingers.specs.Fields.{set_captured, set_direct}
use Rattle.fingers.specs.declared.one.App.{App}
use Rattle.fingers.specs.declared.settings.Settings.{Settings}
use Rattle.gesture.specs.Trackers.{whole, is_active}
use Rattle.gesture.specs.declared.record.Tracker.{Tracker}

-- the touch is the app's, and the wish is cleared
unfoldable pub owned : Tracker → App → Tracker
owned t app = whole (set_raw t.settings false) t.keys t.touch t.one app t.multi_end

-- the settings alone
unfoldable pub settled : Tracker → Settings → Tracker
settled t set = whole set t.keys t.touch t.one t.app t.multi_end

-- whether a `capture` takes the touch
unfoldable pub takes : Tracker → Bool
takes t = is_active t.touch and not t.app.captured

-- the touch is captured, raw as wished
unfoldable pub taken : Tracker → Tracker
taken t = owned t (set_captured t.app t.settings.raw_next)

-- the raw wish alone
unfoldable pub wished : Tracker → Bool → Tracker
wished t on = settled t (set_raw t.settings on)

unfoldable pub after_capture_direct : Tracker → Tracker
after_capture_direct t = when is_active t.touch then owned t (set_direct t.app) else wished t false

unfoldable pub after_set_grab : Tracker → ℕ → Tracker
after_set_grab t ms = settled t (set_grab t.settings (min ms grab_most))
