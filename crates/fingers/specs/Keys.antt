-- "A report": the keys.
--
-- "Store its mask as wanted. If reported keys differ: the lowest reported key not wanted gives KeyUp, else the lowest
-- wanted one KeyDown; that bit flips and the call ends, fingers unread." "Keys: any of eight bits."
use Rattle.std.specs.Prelude.{ℕ, ◌-◌, ◌^◌, Option, Some, None}
use Rattle.std.specs.Int.Bits.{bit_and, bit_xor}
use Rattle.std.specs.Int.Count.{count_trailing_zeros}
use Rattle.panel.specs.Tests.{when◌then◌else◌, ◌<?◌}
use Rattle.fingers.specs.declared.gestures.Gesture.{Gesture}
use Rattle.fingers.specs.declared.gestures.Gesture.TheVariants.{KeyUp, KeyDown}

-- "Keys: any of eight bits."
abbrev pub key_count : ℕ
key_count = 8

abbrev pub all_keys : ℕ
all_keys = 255

-- the keys of one mask that are not in another
unfoldable pub without : ℕ → ℕ → ℕ
without mask other = bit_and mask (all_keys - other)

-- the lowest key of a mask that has one
unfoldable pub lowest : ℕ → ℕ
lowest mask = count_trailing_zeros key_count mask

unfoldable pub flipped : ℕ → ℕ → ℕ
flipped mask key = bit_xor mask (2 ^ key)

-- of the mask that gestures told of so far, towards the mask that is wanted: the gesture, and the mask with that bit
-- flipped
unfoldable pub key_step : ℕ → ℕ → Option (Gesture × ℕ)
key_step keys want =
    when 0 <? without keys want then Some (KeyUp (lowest (without keys want)), flipped keys (lowest (without keys want)))
    else when 0 <? without want keys then Some (KeyDown (lowest (without want keys)), flipped keys (lowest (without want keys)))
    else None
