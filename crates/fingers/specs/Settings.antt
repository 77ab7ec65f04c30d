-- The settings: "grab time (0 at the start, set to at most 5000) and the raw wish (off)".
use Rattle.std.specs.Prelude.{ℕ, Bool, false}
use Rattle.fingers.specs.declared.settings.Settings.{Settings}

unfoldable pub unset : Settings
unset = record { grab_ms = 0; raw_next = false }

-- One setting, the others as they are.

unfoldable pub set_raw : Settings → Bool → Settings
set_raw set on = record { grab_ms = set.grab_ms; raw_next = on }

unfoldable pub set_grab : Settings → ℕ → Settings
set_grab set ms = record { grab_ms = ms; raw_next = set.raw_next }
