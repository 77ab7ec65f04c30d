-- A gesture's code number, its small number and its point: all that the log wants of it, so that the code makes no more.
-- proofs/Table.antt shows that the lines by them are `gesture_line`, which is the one to hold against document 01.
use Rattle.std.specs.Prelude.{ℕ, Bool, Option, None}
use Rattle.panel.specs.Axes.{axis_number}
use Rattle.panel.specs.Tests.{when◌then◌else◌, ◌and◌, ◌=?◌, bit}
use Rattle.panel.specs.declared.points.Point.{Point}
use Rattle.fingers.specs.Gestures.{drag}
use Rattle.fingers.specs.declared.gestures.Gesture.{Gesture}
use Rattle.fingers.specs.declared.gestures.Gesture.TheVariants.{Down, Tap, LongPress, Drag, Grab, Up, SwipeLeft, SwipeRight, SwipeUp, SwipeDown, Cancel, MultiSwipeDown, KeyDown, KeyUp, Move, Pinch, PinchEnd}
use Rattle.gesture.specs.Letters.{ascii_D, ascii_T, ascii_L, ascii_M, ascii_G, ascii_U, ascii_less, ascii_greater, ascii_caret, ascii_v, ascii_C, ascii_W, ascii_K, ascii_k, ascii_E}
use Rattle.gesture.specs.Trackers.{origin}
use Rattle.gesture.specs.Lines.{line}
use Rattle.gesture.specs.declared.lines.Coded.{Coded}
use Rattle.gesture.specs.declared.lines.Line.{Line}

unfoldable pub coded_as : ℕ → ℕ → Point → Coded
coded_as code number p = record { code = code; number = number; p = p }

-- a gesture's code number, its small number and its point, 0 and (0, 0) where it has none
unfoldable pub code_of : Gesture → Coded
code_of (Down p) = coded_as 0 0 p
code_of (Tap p) = coded_as 1 0 p
code_of (LongPress p) = coded_as 2 0 p
code_of (Drag start p a) = coded_as drag (axis_number a) p
code_of (Grab p) = coded_as 4 0 p
code_of (Up p) = coded_as 5 0 p
code_of SwipeLeft = coded_as 6 0 origin
code_of SwipeRight = coded_as 7 0 origin
code_of SwipeUp = coded_as 8 0 origin
code_of SwipeDown = coded_as 9 0 origin
code_of Cancel = coded_as 10 0 origin
code_of (MultiSwipeDown n) = coded_as 11 n origin
code_of (KeyDown key) = coded_as 12 key origin
code_of (KeyUp key) = coded_as 13 key origin
code_of (Move prev p) = coded_as 14 0 p
code_of (Pinch a span0 span) = coded_as 15 (axis_number a) origin
code_of (PinchEnd released) = coded_as 16 (bit released) origin

unfoldable pub line_by_code : ℕ → ℕ → Point → ℕ → Option Line
line_by_code code number p now =
    when code =? 0 then line ascii_D 0 p now
    else when code =? 1 then line ascii_T 0 p now
    else when code =? 2 then line ascii_L 0 p now
    else when code =? drag then line ascii_M number p now
    else when code =? 4 then line ascii_G 0 p now
    else when code =? 5 then line ascii_U 0 p now
    else when code =? 6 then line ascii_less 0 origin now
    else when code =? 7 then line ascii_greater 0 origin now
    else when code =? 8 then line ascii_caret 0 origin now
    else when code =? 9 then line ascii_v 0 origin now
    else when code =? 10 then line ascii_C 0 origin now
    else when code =? 11 then line ascii_W number origin now
    else when code =? 12 then line ascii_K number origin now
    else when code =? 13 then line ascii_k number origin now
    else when code =? 16 then line ascii_E number origin now
    else None

-- a later Drag of a touch whose axis is locked
unfoldable pub is_later_drag : ℕ → Bool → Bool
is_later_drag code locked = (code =? drag) and locked
