-- The keys told so far, and the changes to a mask.
--
-- "If a report's mask differs in d keys, at least one, from those told, .. each change once, releases first, low codes
-- first".
use Rattle.std.specs.Prelude.{ℕ, ◌+◌, ◌-◌, ◌/◌, ◌%◌, ◌^◌, Bool, true, false, not, List, [], ◌∷◌, ◌++◌, map, Option, Some, None}
use Rattle.fingers.specs.declared.gestures.Gesture.{Gesture}
use Rattle.fingers.specs.declared.gestures.Gesture.TheVariants.{Down, Tap, LongPress, Drag, Grab, Up, SwipeLeft, SwipeRight, SwipeUp, SwipeDown, Cancel, MultiSwipeDown, KeyDown, KeyUp, Move, Pinch, PinchEnd}
use Rattle.panel.specs.Tests.{when◌then◌else◌, ◌and◌, ◌or◌, ◌=?◌}

-- whether a key is in a mask
unfoldable pub has : ℕ → ℕ → Bool
has mask key = mask / 2 ^ key % 2 =? 1

abbrev pub put_if : Bool → ℕ → List ℕ → List ℕ
put_if true key keys = key ∷ keys
put_if false key keys = keys

unfoldable pub filter : (ℕ → Bool) → List ℕ → List ℕ
filter test [] = []
filter test (key ∷ keys) = put_if (test key) key (filter test keys)

abbrev pub all_keys : List ℕ
all_keys = 0 ∷ 1 ∷ 2 ∷ 3 ∷ 4 ∷ 5 ∷ 6 ∷ 7 ∷ []

-- the keys of one mask that another lacks, low codes first
unfoldable pub lacking : ℕ → ℕ → List ℕ
lacking mask other = filter (λ key. has mask key and not (has other key)) all_keys

-- the keys in which two masks differ; d is how many there are
unfoldable pub differing : ℕ → ℕ → List ℕ
differing told mask = filter (λ key. (has told key and not (has mask key)) or (has mask key and not (has told key))) all_keys

-- the changes from the keys told to a mask: releases first, low codes first
unfoldable pub changes : ℕ → ℕ → List Gesture
changes told mask = map KeyUp (lacking told mask) ++ map KeyDown (lacking mask told)

-- the keys told, after one more gesture; only key changes tell of keys
abbrev pub told_by : ℕ → Gesture → ℕ
told_by mask (KeyDown k) = when has mask k then mask else mask + 2 ^ k
told_by mask (KeyUp k) = when has mask k then mask - 2 ^ k else mask
told_by mask (Down p) = mask
told_by mask (Tap p) = mask
told_by mask (LongPress p) = mask
told_by mask (Drag start p a) = mask
told_by mask (Grab p) = mask
told_by mask (Up p) = mask
told_by mask SwipeLeft = mask
told_by mask SwipeRight = mask
told_by mask SwipeUp = mask
told_by mask SwipeDown = mask
told_by mask Cancel = mask
told_by mask (MultiSwipeDown n) = mask
told_by mask (Move prev p) = mask
told_by mask (Pinch a span0 span) = mask
told_by mask (PinchEnd released) = mask

abbrev pub told : ℕ → Option Gesture → ℕ
told mask None = mask
told mask (Some g) = told_by mask g
