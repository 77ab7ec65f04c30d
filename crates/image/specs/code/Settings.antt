-- The settings, which stand last: their places, what is read there, and what is looked at.
use Rattle.std.specs.Prelude.{ℕ, ◌+◌, ◌≡◌, Bool, List}
use Rattle.fingers.specs.declared.settings.Settings.{Settings}
use Rattle.image.specs.code.Numbers.{number_at, flag_at, is_flag}
use Rattle.image.specs.code.Keys.{keys_end}

abbrev pub at_grab : ℕ
at_grab = keys_end

abbrev pub at_raw_next : ℕ
at_raw_next = at_grab + 2

-- the image ends here
abbrev pub at_end : ℕ
at_end = at_raw_next + 1

unfoldable pub settings_at : List ℕ → Settings
settings_at area = record { grab_ms = number_at area at_grab 2; raw_next = flag_at area at_raw_next }

-- the same, setting by setting, as the code finds it
abbrev pub SettingsRead : List ℕ → Settings → Type 0
SettingsRead area s = (s.grab_ms ≡ number_at area at_grab 2) × (s.raw_next ≡ flag_at area at_raw_next)

abbrev pub settings_checked : List ℕ → Bool
settings_checked area = is_flag area at_raw_next
