-- "Log line".
--
-- "At most one a call; each gesture's letter, argument and point follow this table: Down D, Tap T, LongPress L, Drag M (0
-- H, 1 V; current point), Grab G, Up U, swipes < > ^ v, Cancel C, MultiSwipeDown W (n), KeyDown K, KeyUp k (code), PinchEnd
-- E (1, 0), else argument 0. No point means (0,0); the time is the call's. `event` logs no Move or Pinch, and a Drag only if
-- no axis was locked before. Nothing at a one-finger release: N, its note, p1; a new residual: N, 250, its point. A
-- `capture` that takes: c, argument raw, time 0, last point."
use Rattle.std.specs.Prelude.{ℕ, Bool, true, false, Option, Some, None}
use Rattle.panel.specs.Tests.{when◌then◌else◌, ◌and◌, ◌=?◌, bit}
use Rattle.panel.specs.declared.points.Point.{Point}
use Rattle.fingers.specs.Gestures.{place_of, field_at, is_drag}
use Rattle.fingers.specs.declared.gestures.Gesture.{Gesture}
use Rattle.fingers.specs.declared.gestures.Note.{Note}
use Rattle.fingers.specs.declared.gestures.Outcome.{Outcome}
use Rattle.fingers.specs.declared.gestures.Outcome.TheVariants.{Quiet, Noted, Gives}
use Rattle.gesture.specs.Letters.{ascii_D, ascii_T, ascii_L, ascii_M, ascii_G, ascii_U, ascii_less, ascii_greater, ascii_caret, ascii_v, ascii_C, ascii_W, ascii_K, ascii_k, ascii_E, ascii_N, ascii_c}
use Rattle.gesture.specs.Trackers.{origin}
use Rattle.panel.specs.declared.axes.Axis.{Axis}
use Rattle.gesture.specs.declared.lines.Line.{Line}

abbrev pub line : ℕ → ℕ → Point → ℕ → Option Line
line letter argument p now = Some (record { letter = letter; argument = argument; p = p; time = now })

abbrev at : ℕ → ℕ → Point
at x y = record { x = x; y = y }

-- by the gesture's place in the table of gestures and its numbers a to e; Move and Pinch are not logged
unfoldable pub line_at : ℕ → ℕ → ℕ → ℕ → ℕ → ℕ → ℕ → Option Line
line_at place a b c d e now =
    -- Down, Tap, LongPress
    when place =? 0 then line ascii_D 0 (at a b) now
    else when place =? 1 then line ascii_T 0 (at a b) now
    else when place =? 2 then line ascii_L 0 (at a b) now
    -- Drag, Grab, Up
    else when place =? 3 then line ascii_M e (at c d) now
    else when place =? 4 then line ascii_G 0 (at a b) now
    else when place =? 5 then line ascii_U 0 (at a b) now
    -- the swipes left, right, up, down
    else when place =? 6 then line ascii_less 0 origin now
    else when place =? 7 then line ascii_greater 0 origin now
    else when place =? 8 then line ascii_caret 0 origin now
    else when place =? 9 then line ascii_v 0 origin now
    -- Cancel, MultiSwipeDown, KeyDown, KeyUp
    else when place =? 10 then line ascii_C 0 origin now
    else when place =? 11 then line ascii_W a origin now
    else when place =? 12 then line ascii_K a origin now
    else when place =? 13 then line ascii_k a origin now
    -- PinchEnd
    else when place =? 16 then line ascii_E a origin now
    else None

unfoldable pub gesture_line : Gesture → ℕ → Option Line
gesture_line g now = line_at (place_of g) (field_at 0 g) (field_at 1 g) (field_at 2 g) (field_at 3 g) (field_at 4 g) now

unfoldable pub is_locked : Option Axis → Bool
is_locked None = false
is_locked (Some a) = true

-- "a Drag only if no axis was locked before": locked is whether one was before the call
unfoldable pub report_gesture_line : Gesture → Bool → ℕ → Option Line
report_gesture_line g locked now = when is_drag g and locked then None else gesture_line g now

-- "N, its note", and its point
unfoldable pub note_line : Note → ℕ → Option Line
note_line note now = line ascii_N note.number note.p now

unfoldable pub report_line : Outcome → Bool → ℕ → Option Line
report_line Quiet locked now = None
report_line (Noted note) locked now = note_line note now
report_line (Gives g) locked now = report_gesture_line g locked now

unfoldable pub tick_line : Outcome → ℕ → Option Line
tick_line Quiet now = None
tick_line (Noted note) now = note_line note now
tick_line (Gives g) now = gesture_line g now

unfoldable pub capture_line : Bool → Point → Option Line
capture_line raw last = line ascii_c (bit raw) last 0
