-- "On both sides of the line (★ proved)": document 01's starred cases, one table. A case is a call, or calls on a fresh
-- tracker, and what the last of them answers by the definitions that the contracts name. Where the document says how the
-- tracker stands ("told mask 1", "after a multi release"), calls from a fresh tracker bring it there.
use Rattle.std.specs.Prelude.{ℕ, ◌≡◌, List, [], ◌∷◌, ℤ, pos, negsuc, Some, None, Ok}
use Rattle.calmap.specs.Checks.{check_of}
use Rattle.calmap.specs.Maps.{spot, apply_of}
use Rattle.calmap.specs.Units.{sixteenths}
use Rattle.calmap.specs.declared.limits.Verdict.{Verdict}
use Rattle.calmap.specs.declared.limits.Verdict.TheVariants.{Pass, Shift}
use Rattle.calmap.specs.declared.units.Cal.{Cal}
use Rattle.calmap.specs.declared.units.Q16.{Q16}
use Rattle.fingers.specs.declared.gestures.Gesture.{Gesture}
use Rattle.fingers.specs.declared.gestures.Gesture.TheVariants.{Down, Tap, Drag, SwipeRight, KeyDown, KeyUp}
use Rattle.gesture.specs.Answers.{refusal_of, given, logged_by}
use Rattle.gesture.specs.Calls.{Call, report, tick, answer_of}
use Rattle.gesture.specs.Letters.{ascii_N}
use Rattle.gesture.specs.Lines.{line}
use Rattle.gesture.specs.Runs.{after}
use Rattle.gesture.specs.Trackers.{fresh_tracker}
use Rattle.panel.specs.declared.axes.Axis.TheVariants.{H}
use Rattle.panel.specs.declared.points.Point.{Point}

pub data Case : Type 0 where
  -- after these calls, this one gives the gesture
  gives : List Call → Call → Gesture → Case
  -- after these calls, this one is answered and gives nothing
  silent : List Call → Call → Case
  -- after these calls, this one, at this point and time, gives nothing but the note
  notes : List Call → Call → ℕ → Point → ℕ → Case
  -- apply16 of the calibration at a place
  applies : Cal → ℕ → ℕ → ℤ → ℤ → Case
  -- check of the calibration with these targets
  checks : Cal → List Point → Verdict → Case

unfoldable pub Holds : Case → Type 0
Holds (gives before c g) = given (answer_of (after fresh_tracker before) c) ≡ Some g
Holds (silent before c) =
    (refusal_of (answer_of (after fresh_tracker before) c) ≡ 0) × (given (answer_of (after fresh_tracker before) c) ≡ None)
Holds (notes before c n p now) =
    (given (answer_of (after fresh_tracker before) c) ≡ None) × (logged_by (answer_of (after fresh_tracker before) c) ≡ line ascii_N n p now)
Holds (applies c x y ax ay) = apply_of c (pos x) (pos y) ≡ Ok (spot (sixteenths ax) (sixteenths ay))
Holds (checks c targets v) = check_of c targets ≡ Ok v

unfoldable pub AllHold : List Case → Type 0
AllHold [] = Unit {0}
AllHold (c ∷ cs) = Holds c × AllHold cs

abbrev at : ℕ → ℕ → Point
at x y = record { x = x; y = y }

-- reports at a time: a mask and no finger, one finger, two
abbrev keys : ℕ → ℕ → Call
keys mask now = report now (record { points = 0; p = at 0 0; pts = at 0 0 ∷ at 0 0 ∷ at 0 0 ∷ at 0 0 ∷ at 0 0 ∷ []; keys = mask })

abbrev none : ℕ → Call
none now = keys 0 now

abbrev one : Point → ℕ → Call
one p now = report now (record { points = 1; p = p; pts = at 0 0 ∷ at 0 0 ∷ at 0 0 ∷ at 0 0 ∷ at 0 0 ∷ []; keys = 0 })

abbrev two : Point → Point → ℕ → Call
two p q now = report now (record { points = 2; p = p; pts = p ∷ q ∷ at 0 0 ∷ at 0 0 ∷ at 0 0 ∷ []; keys = 0 })

-- a touch down at (100, 50); one that went to p, and one that has been there and is back
abbrev down : List Call
down = one (at 100 50) 0 ∷ []

abbrev gone : Point → List Call
gone p = one (at 100 50) 0 ∷ one p 10 ∷ []

abbrev back : Point → List Call
back p = one (at 100 50) 0 ∷ one p 10 ∷ one (at 100 50) 20 ∷ []

-- two fingers, released at 1000
abbrev released : List Call
released = two (at 100 100) (at 200 100) 0 ∷ none 1000 ∷ []

abbrev q : ℤ → Q16
q z = record { 0 = z }

-- a calibration with c2 alone set
abbrev only_c2 : ℤ → Cal
only_c2 c = record { c0 = q (pos 0); c1 = q (pos 0); c2 = q c; c3 = q (pos 0); c4 = q (pos 0); c5 = q (pos 0) }

abbrev pub table : List Case
table =
    -- "Told mask 1, report mask 2: KeyUp 0; next tick KeyDown 1."
    gives (keys 1 0 ∷ []) (keys 2 5) (KeyUp 0)
    ∷ gives (keys 1 0 ∷ keys 2 5 ∷ []) (tick 6) (KeyDown 1)
    -- "299 ms after a multi release: residual; 300: Down; clock behind: residual." Note 250 is a residual touch's.
    ∷ notes released (one (at 100 50) 1299) 250 (at 100 50) 1299
    ∷ gives released (one (at 100 50) 1300) (Down (at 100 50))
    ∷ notes released (one (at 100 50) 999) 250 (at 100 50) 999
    -- "15 px: no move; 16: Drag. (16,16) no axis; (31,31) H."
    ∷ silent down (one (at 115 50) 10)
    ∷ gives down (one (at 116 50) 10) (Drag (at 100 50) (at 116 50) H)
    ∷ silent down (one (at 116 66) 10)
    ∷ gives down (one (at 131 81) 10) (Drag (at 100 50) (at 131 81) H)
    -- "Far 30 is a Tap, 31 note 131. Swipe at 800 ms, none at 801." Too late for a swipe, 60 px are too far for a tap: note
    -- 160.
    ∷ gives (back (at 130 50)) (none 30) (Tap (at 100 50))
    ∷ notes (back (at 131 50)) (none 30) 131 (at 100 50) 30
    ∷ gives (gone (at 160 50)) (none 800) SwipeRight
    ∷ notes (gone (at 160 50)) (none 801) 160 (at 160 50) 801
    -- "apply16 zero at (3,5): (48,80); c2 = -1 at (0,0): (-1,0)."
    ∷ applies (only_c2 (pos 0)) 3 5 (pos 48) (pos 80)
    ∷ applies (only_c2 (negsuc 0)) 0 0 (negsuc 0) (pos 0)
    -- "Only c2 set: 2,625,535 passes, 2,625,536 Shift; -2,621,440 passes, -2,621,441 Shift."
    ∷ checks (only_c2 (pos 2625535)) (at 0 0 ∷ []) Pass
    ∷ checks (only_c2 (pos 2625536)) (at 0 0 ∷ []) Shift
    ∷ checks (only_c2 (negsuc 2621439)) (at 0 0 ∷ []) Pass
    ∷ checks (only_c2 (negsuc 2621440)) (at 0 0 ∷ []) Shift
    ∷ []
