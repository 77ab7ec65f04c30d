-- The settings in an image: written number by number they are their rows put; read back they are what was written; what passes
-- the looking are the rows of what is read. Assumes nothing.
use Prim.Native.Nat.{ℕ}
use mathlib.Core.Path.{◌≡◌, ◌∙◌, ap}
use mathlib.Core.Bool.{true}
use mathlib.Core.List.{List, [], ◌∷◌}
use lib.ListN.{get_or}
use lib.Seq.{sets}
use Rattle.panel.specs.Tests.{bit}
use Rattle.fingers.specs.declared.settings.Settings.{Settings}
use Rattle.gesture.specs.declared.record.Tracker.{Tracker}
use Rattle.image.specs.Rows.{row, bytes_of, laid, Fits}
use Rattle.image.specs.Image.{point_rows, down_rows, multi_rows, pair_rows, pairing_rows, touch_rows, finger_rows, one_rows, taken_rows, end_rows, key_rows, setting_rows, table, image_of}
use Rattle.image.specs.Typed.{Bytes, TypedSettings}
use Rattle.image.specs.code.Numbers.{number_at, flag_from, is_flag}
use Rattle.image.specs.code.Puts.{puts}
use Rattle.image.specs.code.Settings.{at_grab, at_raw_next, settings_at, SettingsRead, settings_checked}
use Rattle.image.proofs.Flags.{bit-fits, bit-back, flag-passes, flag-stands}
use Rattle.image.proofs.Layouts.{numbers_at, numbers_in, number_fits, read, widths_of}

pub settings-put : (s : Settings) (a0 a1 a2 : List ℕ)
    → a1 ≡ sets a0 at_grab (bytes_of 2 s.grab_ms)
    → a2 ≡ sets a1 at_raw_next (bytes_of 1 (bit s.raw_next))
    → a2 ≡ puts a0 at_grab (setting_rows s)
unfolding puts setting_rows
settings-put s a0 a1 a2 h1 h2 = h2 ∙ (λ i. sets (h1 i) at_raw_next (bytes_of 1 (bit s.raw_next)))

pub settings-are : (area : List ℕ) (s : Settings) → SettingsRead area s → s ≡ settings_at area
unfolding settings_at
settings-are area s h = λ i. record { grab_ms = h.0 i; raw_next = h.1 i }

pub settings-fit : (s : Settings) → TypedSettings s → Fits (setting_rows s)
settings-fit s h = h

pub settings-same : (s : Settings) (area : List ℕ) → numbers_at (setting_rows s) area at_grab ≡ numbers_in (setting_rows s) → settings_at area ≡ s
unfolding settings_at setting_rows numbers_at numbers_in
settings-same s area e =
    let grab = ap (λ (l : List ℕ). get_or l 0 0) e in
    let raw = ap (λ (l : List ℕ). get_or l 1 0) e in
    λ i. record { grab_ms = grab i; raw_next = (ap flag_from raw ∙ bit-back _) i }

pub settings-typed : (area : List ℕ) → Bytes area → TypedSettings (settings_at area)
unfolding settings_at setting_rows
settings-typed area bytes = (number_fits area bytes _ 2, (bit-fits _, tt))

pub settings-pass : (t : Tracker) → settings_checked (image_of t) ≡ true
unfolding is_flag number_at laid bytes_of image_of table touch_rows down_rows multi_rows pairing_rows pair_rows point_rows finger_rows one_rows taken_rows end_rows key_rows setting_rows
settings-pass t = flag-passes t.settings.raw_next

pub setting-rows : (area : List ℕ) → settings_checked area ≡ true → setting_rows (settings_at area) ≡ read area (widths_of (setting_rows (settings_at area))) at_grab
unfolding setting_rows settings_at widths_of
setting-rows area passes = λ i. row 2 (number_at area at_grab 2) ∷ row 1 (flag-stands area at_raw_next passes i) ∷ []
