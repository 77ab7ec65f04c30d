-- What an answer gives, by the table of gestures: a one-finger gesture, a key change.
use Rattle.std.specs.Prelude.{Bool, true, false, Option, Some, None}
use Rattle.fingers.specs.Gestures.{is_one_finger, is_key_change}
use Rattle.fingers.specs.declared.gestures.Gesture.{Gesture}

abbrev pub gives_one_finger : Option Gesture → Bool
gives_one_finger None = false
gives_one_finger (Some g) = is_one_finger g

abbrev pub tells_key : Option Gesture → Bool
tells_key None = false
tells_key (Some g) = is_key_change g

abbrev pub tells_keys_only : Option Gesture → Bool
tells_keys_only None = true
tells_keys_only (Some g) = is_key_change g
