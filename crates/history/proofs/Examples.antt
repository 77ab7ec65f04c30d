-- Worked histories: calls on a fresh tracker, and what is heard at each. Computed by the definitions that the contracts
-- of the shipped functions name. Assumes nothing.
use Rattle.std.specs.Prelude.{Option, Some, None}
use Prim.Native.Nat.{ℕ}
use mathlib.Core.Path.{◌≡◌, refl, sym, ◌∙◌}
use mathlib.Core.Bool.{true, false}
use mathlib.Core.List.{List, [], ◌∷◌}
use lib.Count.{count_trailing_zeros}
use Rattle.fingers.specs.Fields.{reset, set_grabbed, set_long_sent, set_axis, untaken, set_captured, set_direct}
use Rattle.fingers.specs.Holds.{hold_of, grab_due, long_from, long_due, held_still}
use Rattle.fingers.specs.Keys.{without, lowest, flipped, key_step}
use Rattle.fingers.specs.Settings.{unset, set_raw, set_grab}
use Rattle.fingers.specs.OneFinger.{early_now, tracked, same_point, move_from, axis_at, drag_along, may_drag, moving, grab_or_moving, later_report}
use Rattle.fingers.specs.Pairs.{span_along, pair_axis, new_pair, keeps_order, state_next, pair_at, pair_next, span_told, pinch_of}
use Rattle.fingers.specs.Releases.{tap_or_note, is_swipe, swipe_or_note, release_by, release_of}
use Rattle.fingers.specs.Several.{multi_from, multi_grown, multi_seen, pinch_or_seen, two_fingers, pinch_end_or_seen, three_fingers, far_down, swiped_down, multi_rule, is_pinch, multi_end}
use Rattle.fingers.specs.declared.gestures.Gesture.TheVariants.{Down, Tap, LongPress, Drag, Grab, Up, Move, Cancel, MultiSwipeDown, KeyDown, KeyUp, Pinch, PinchEnd}
use Rattle.fingers.specs.declared.one.App.{App}
use Rattle.fingers.specs.declared.one.One.{One}
use Rattle.fingers.specs.declared.gestures.Gesture.{Gesture}
use Rattle.gesture.specs.Answers.{answered, given_by, points_in_use, reported, event_of, ticked, tick_of, captured, capture_of, capture_direct_of, raw_next_of, set_grab_of}
use Rattle.gesture.specs.Runs.{run, after}
use Rattle.gesture.specs.Calls.{Call, report, tick, capture, capture_direct, raw_next, set_grab_ms}
use Rattle.gesture.specs.Captures.{owned, settled, takes, taken, wished, after_capture_direct, after_set_grab}
use Rattle.gesture.specs.Reports.{up_outcome, end_stored, all_up, is_last_finger, residual_touch, new_touch, touch_down, goes_on, one_finger, two_start, two, more_start, more, several, two_of, more_of, fingers_of, keys_then_fingers, report_step}
use Rattle.gesture.specs.States.{held_points, centroids, span_rule, pair_rule, most_rule, raw_rule, state_rule}
use Rattle.gesture.specs.Ticks.{still_down, keys_then_hold, tick_step}
use Rattle.gesture.specs.Trackers.{whole, keys_at, fresh_tracker, is_active, touched, keyed}
use Rattle.gesture.specs.declared.record.Touch.TheVariants as touch
use Rattle.gesture.specs.declared.record.Tracker.{Tracker}
use Rattle.panel.specs.Axes.{axis_of, lock_of}
use Rattle.panel.specs.Centroids.{total, mean, middle}
use Rattle.panel.specs.Distances.{difference, distance, distance2}
use Rattle.panel.specs.Points.{on_panel, all_on_panel, fingers}
use Rattle.panel.specs.Tests.{when◌then◌else◌, ◌and◌, ◌or◌, ◌=?◌}
use Rattle.panel.specs.declared.axes.Axis.TheVariants.{H}
use Rattle.panel.specs.declared.points.Point.{Point}
use Rattle.history.specs.Orders.{Commute, wish_meets_touch, CaptureTwice, LaterWish, CaptureTick}
use Rattle.history.specs.Runs.{history}
use Rattle.history.specs.Spent.{heard}
use Rattle.history.proofs.Held.{differ}

-- what is heard of calls on a fresh tracker
abbrev pub Hears : List Call → List (Option Gesture) → Type 0
Hears cs gs = heard (history cs) ≡ gs

abbrev pub at : ℕ → ℕ → Point
at x y = record { x = x; y = y }

abbrev pub nowhere : Point
nowhere = at 0 0

-- reports of a mask, at a time, with no finger, one or two
abbrev pub no_finger : ℕ → ℕ → Call
no_finger keys now = report now (record { points = 0; p = nowhere; pts = nowhere ∷ nowhere ∷ nowhere ∷ nowhere ∷ nowhere ∷ []; keys = keys })

abbrev pub one_at : ℕ → Point → ℕ → Call
one_at keys p now = report now (record { points = 1; p = p; pts = nowhere ∷ nowhere ∷ nowhere ∷ nowhere ∷ nowhere ∷ []; keys = keys })

abbrev pub two_at : ℕ → Point → Point → ℕ → Call
two_at keys p q now = report now (record { points = 2; p = p; pts = p ∷ q ∷ nowhere ∷ nowhere ∷ nowhere ∷ []; keys = keys })

pub record Worked : Type 0 where
  -- A pinch whose last finger lingers: it gives nothing, not even a LongPress, until it is up; and when it comes back at
  -- once it gives nothing either, up to its release. The next touch gives Down and Tap.
  pub lingering-finger :
      Hears
      (two_at 0 (at 100 100) (at 200 100) 0 ∷ two_at 0 (at 80 100) (at 220 100) 50 ∷ one_at 0 (at 80 100) 100 ∷ tick 2000 ∷ no_finger 0 2100
      ∷ one_at 0 (at 80 100) 2150 ∷ tick 5000 ∷ one_at 0 (at 200 100) 5100 ∷ no_finger 0 5200 ∷ one_at 0 (at 80 100) 5300 ∷ no_finger 0 5400 ∷ [])
      (None ∷ Some (Pinch H 100 140) ∷ None ∷ None ∷ Some (PinchEnd true)
      ∷ None ∷ None ∷ None ∷ None ∷ Some (Down (at 80 100)) ∷ Some (Tap (at 80 100)) ∷ [])
  -- 299 ms after the release of several fingers, and 300
  pub at-299 :
      Hears (two_at 0 (at 100 100) (at 200 100) 0 ∷ no_finger 0 1000 ∷ one_at 0 (at 5 5) 1299 ∷ no_finger 0 1350 ∷ [])
      (None ∷ None ∷ None ∷ None ∷ [])
  pub at-300 :
      Hears (two_at 0 (at 100 100) (at 200 100) 0 ∷ no_finger 0 1000 ∷ one_at 0 (at 5 5) 1300 ∷ no_finger 0 1350 ∷ [])
      (None ∷ None ∷ Some (Down (at 5 5)) ∷ Some (Tap (at 5 5)) ∷ [])
  -- a clock that runs back: the release is ahead of it; the exception is used up by the touch it meets
  pub clock-back :
      Hears (two_at 0 (at 100 100) (at 200 100) 0 ∷ no_finger 0 1000 ∷ one_at 0 (at 5 5) 500 ∷ no_finger 0 510 ∷ one_at 0 (at 5 5) 520 ∷ [])
      (None ∷ None ∷ None ∷ None ∷ Some (Down (at 5 5)) ∷ [])
  -- a spent report with two fingers: they are no second finger, and the touch ends in a Tap
  pub spent-two :
      Hears (one_at 0 (at 5 5) 0 ∷ two_at 1 (at 5 5) (at 90 5) 10 ∷ no_finger 1 20 ∷ [])
      (Some (Down (at 5 5)) ∷ Some (KeyDown 0) ∷ Some (Tap (at 5 5)) ∷ [])
  -- a spent report of none does not end a touch: the next finger is no new one
  pub spent-none :
      Hears (one_at 0 (at 5 5) 0 ∷ no_finger 1 10 ∷ one_at 1 (at 5 5) 20 ∷ no_finger 1 30 ∷ [])
      (Some (Down (at 5 5)) ∷ Some (KeyDown 0) ∷ None ∷ Some (Tap (at 5 5)) ∷ [])
  -- a residual finger that gains a second: no Cancel; down to one again, still nothing; its release tells what several did
  pub residual-gains :
      Hears
      (two_at 0 (at 100 100) (at 200 100) 0 ∷ no_finger 0 100 ∷ one_at 0 (at 100 100) 200 ∷ two_at 0 (at 100 100) (at 200 100) 300
      ∷ two_at 0 (at 100 170) (at 200 170) 400 ∷ one_at 0 (at 100 170) 500 ∷ tick 3000 ∷ no_finger 0 3100 ∷ one_at 0 (at 9 9) 3400 ∷ [])
      (None ∷ None ∷ None ∷ None ∷ None ∷ None ∷ None ∷ Some (MultiSwipeDown 2) ∷ Some (Down (at 9 9)) ∷ [])
  -- a second finger cancels a touch; down to one again it drags nothing, and its release is silent
  pub second-finger :
      Hears
      (one_at 0 (at 100 100) 0 ∷ two_at 0 (at 100 100) (at 200 100) 10 ∷ one_at 0 (at 160 100) 20 ∷ no_finger 0 30 ∷ one_at 0 (at 9 9) 330 ∷ [])
      (Some (Down (at 100 100)) ∷ Some Cancel ∷ None ∷ None ∷ Some (Down (at 9 9)) ∷ [])
  -- two keys at once and one let go, with a finger: three changes, each told once, the finger unread until they are told;
  -- captures and settings stand between
  pub keys-at-once :
      Hears
      (no_finger 1 0 ∷ one_at 6 (at 5 5) 1 ∷ capture ∷ tick 2 ∷ set_grab_ms 100 ∷ raw_next true ∷ one_at 6 (at 5 5) 3 ∷ one_at 6 (at 5 5) 4 ∷ capture_direct ∷ no_finger 6 5 ∷ [])
      (Some (KeyDown 0) ∷ Some (KeyUp 0) ∷ None ∷ Some (KeyDown 1) ∷ None ∷ None ∷ Some (KeyDown 2) ∷ Some (Down (at 5 5)) ∷ None ∷ Some (Up (at 5 5)) ∷ [])
  -- a later report does not repeat the mask: the change that was left is never told
  pub mask-not-repeated :
      Hears (no_finger 6 0 ∷ no_finger 0 1 ∷ tick 2 ∷ no_finger 0 3 ∷ [])
      (Some (KeyDown 1) ∷ Some (KeyUp 1) ∷ None ∷ None ∷ [])
  -- a second report of none is no release: 300 ms are counted from the first
  pub none-again :
      Hears (two_at 0 (at 100 100) (at 200 100) 0 ∷ no_finger 0 100 ∷ no_finger 0 350 ∷ one_at 0 (at 5 5) 400 ∷ [])
      (None ∷ None ∷ None ∷ Some (Down (at 5 5)) ∷ [])
  -- the trace of document 01
  pub document-trace :
      Hears
      (one_at 0 (at 100 50) 0 ∷ one_at 0 (at 115 50) 10 ∷ one_at 0 (at 116 50) 20 ∷ two_at 0 (at 116 50) (at 176 50) 30 ∷ tick 1000 ∷ no_finger 0 1010
      ∷ one_at 0 (at 100 50) 1309 ∷ no_finger 0 1310 ∷ one_at 0 (at 100 50) 1310 ∷ no_finger 0 1400 ∷ [])
      (Some (Down (at 100 50)) ∷ None ∷ Some (Drag (at 100 50) (at 116 50) H) ∷ Some Cancel ∷ None ∷ None
      ∷ None ∷ None ∷ Some (Down (at 100 50)) ∷ Some (Tap (at 100 50)) ∷ [])

-- Calls in one order and in the other: where they do not commute, and what is heard then.

-- behind these calls on a fresh tracker the two do not leave the same tracker in either order
abbrev pub Apart : List Call → Call → Call → Type 0
Apart cs c d = Commute (after fresh_tracker cs) c d → ⊥

-- a finger, and the finger a pixel further
abbrev down : Call
down = one_at 0 (at 5 5) 0

abbrev moved : Call
moved = one_at 0 (at 6 5) 10

abbrev Down5 : Option Gesture
Down5 = Some (Down (at 5 5))

abbrev Moved6 : Option Gesture
Moved6 = Some (Move (at 5 5) (at 6 5))

pub record Turned : Type 0 where
  -- an uncaptured touch and the raw wish: behind `capture` its moves come raw, behind `capture_direct` they do not
  pub capture-direct : Apart (down ∷ raw_next true ∷ []) capture capture_direct
  pub capture-then-direct : Hears (down ∷ raw_next true ∷ capture ∷ capture_direct ∷ moved ∷ []) (Down5 ∷ None ∷ None ∷ None ∷ Moved6 ∷ [])
  pub direct-then-capture : Hears (down ∷ raw_next true ∷ capture_direct ∷ capture ∷ moved ∷ []) (Down5 ∷ None ∷ None ∷ None ∷ None ∷ [])
  -- a wish behind the capture is for the next one
  pub capture-raw : Apart (down ∷ []) capture (raw_next true)
  pub capture-then-raw : Hears (down ∷ capture ∷ raw_next true ∷ moved ∷ []) (Down5 ∷ None ∷ None ∷ None ∷ [])
  pub raw-then-capture : Hears (down ∷ raw_next true ∷ capture ∷ moved ∷ []) (Down5 ∷ None ∷ None ∷ Moved6 ∷ [])
  -- a wish withdrawn behind the capture is withdrawn too late
  pub capture-off : Apart (down ∷ raw_next true ∷ []) capture (raw_next false)
  pub capture-then-off : Hears (down ∷ raw_next true ∷ capture ∷ raw_next false ∷ moved ∷ []) (Down5 ∷ None ∷ None ∷ None ∷ Moved6 ∷ [])
  pub off-then-capture : Hears (down ∷ raw_next true ∷ raw_next false ∷ capture ∷ moved ∷ []) (Down5 ∷ None ∷ None ∷ None ∷ None ∷ [])
  -- `capture_direct` clears a wish, where nothing is touched too
  pub direct-raw : Apart [] capture_direct (raw_next true)
  pub direct-then-raw : Hears (capture_direct ∷ raw_next true ∷ down ∷ capture ∷ moved ∷ []) (None ∷ None ∷ Down5 ∷ None ∷ Moved6 ∷ [])
  pub raw-then-direct : Hears (raw_next true ∷ capture_direct ∷ down ∷ capture ∷ moved ∷ []) (None ∷ None ∷ Down5 ∷ None ∷ None ∷ [])
  -- a direct touch has no hold, and no Grab
  pub direct-tick : Apart (set_grab_ms 100 ∷ down ∷ []) capture_direct (tick 100)
  pub direct-then-tick : Hears (set_grab_ms 100 ∷ down ∷ capture_direct ∷ tick 100 ∷ []) (None ∷ Down5 ∷ None ∷ None ∷ [])
  pub tick-then-direct : Hears (set_grab_ms 100 ∷ down ∷ tick 100 ∷ capture_direct ∷ []) (None ∷ Down5 ∷ Some (Grab (at 5 5)) ∷ None ∷ [])
  pub raw-raw : Apart [] (raw_next true) (raw_next false)
  pub grab-grab : Apart [] (set_grab_ms 0) (set_grab_ms 100)
  -- with a grab time a long press takes longer
  pub grab-tick : Apart (down ∷ []) (set_grab_ms 5000) (tick 700)
  pub grab-then-tick : Hears (down ∷ set_grab_ms 5000 ∷ tick 700 ∷ []) (Down5 ∷ None ∷ None ∷ [])
  pub tick-then-grab : Hears (down ∷ tick 700 ∷ set_grab_ms 5000 ∷ []) (Down5 ∷ Some (LongPress (at 5 5)) ∷ None ∷ [])
  -- a tick gives one gesture: the second is told only if it is due then
  pub tick-tick : Apart (set_grab_ms 100 ∷ down ∷ []) (tick 100) (tick 1200)
  pub tick-then-later : Hears (set_grab_ms 100 ∷ down ∷ tick 100 ∷ tick 1200 ∷ []) (None ∷ Down5 ∷ Some (Grab (at 5 5)) ∷ Some (LongPress (at 5 5)) ∷ [])
  pub later-then-tick : Hears (set_grab_ms 100 ∷ down ∷ tick 1200 ∷ tick 100 ∷ []) (None ∷ Down5 ∷ Some (Grab (at 5 5)) ∷ None ∷ [])
  -- Where the order does not count, or the later stands.
  pub capture-again : CaptureTwice (after fresh_tracker (down ∷ raw_next true ∷ []))
  pub captured-still-raw : Hears (down ∷ raw_next true ∷ capture ∷ capture ∷ moved ∷ []) (Down5 ∷ None ∷ None ∷ None ∷ Moved6 ∷ [])
  pub wish-withdrawn : LaterWish fresh_tracker true false
  pub capture-tick : CaptureTick (after fresh_tracker (set_grab_ms 100 ∷ down ∷ raw_next true ∷ [])) 100
  pub captured-grab : Hears (set_grab_ms 100 ∷ down ∷ capture ∷ tick 100 ∷ tick 1200 ∷ []) (None ∷ Down5 ∷ None ∷ Some (Grab (at 5 5)) ∷ Some (LongPress (at 5 5)) ∷ [])
  -- the wish meets an uncaptured touch alone
  pub wish-meets : wish_meets_touch (after fresh_tracker (down ∷ raw_next true ∷ [])) ≡ true
  pub wish-alone : wish_meets_touch (after fresh_tracker (raw_next true ∷ [])) ≡ false
  pub wish-late : wish_meets_touch (after fresh_tracker (down ∷ capture ∷ raw_next true ∷ [])) ≡ false
  pub no_touch : Commute (after fresh_tracker (raw_next true ∷ [])) capture capture_direct
  pub captured-before : Commute (after fresh_tracker (down ∷ capture ∷ raw_next true ∷ [])) capture capture_direct
  pub most-is-most : Commute fresh_tracker (set_grab_ms 5000) (set_grab_ms 6000)
  pub grab-at-either : Commute (after fresh_tracker (set_grab_ms 100 ∷ down ∷ [])) (tick 50) (tick 100)

-- Two trackers by what both come to. (The checker computes each to it in no time; to compare them with each other as they
-- go takes it seconds.)
meet : {A : Type 0} {x y : A} (z : A) → x ≡ z → y ≡ z → x ≡ y
meet z p q = p ∙ sym q

-- a finger at (5, 5) since 0 ms
abbrev down_with : ℕ → One → App → Tracker
down_with grab one app = whole (set_grab unset grab) (keys_at 0 0) (touch.Down (at 5 5) 0) one app None

-- All of them by computing.
computed : Worked × Turned
unfolding heard history run after wish_meets_touch event_of tick_of capture_of capture_direct_of raw_next_of set_grab_of answered given_by points_in_use reported ticked captured takes taken wished after_capture_direct after_set_grab up_outcome end_stored all_up is_last_finger residual_touch new_touch touch_down goes_on one_finger two_start two more_start more several two_of more_of fingers_of keys_then_fingers report_step held_points centroids span_rule pair_rule most_rule raw_rule state_rule still_down keys_then_hold tick_step fresh_tracker is_active whole touched keyed owned settled unset set_raw set_grab reset set_grabbed set_long_sent set_axis untaken set_captured set_direct hold_of grab_due long_from long_due held_still without lowest flipped key_step count_trailing_zeros early_now tracked same_point move_from axis_at drag_along may_drag moving grab_or_moving later_report span_along pair_axis new_pair keeps_order state_next pair_at pair_next span_told pinch_of tap_or_note is_swipe swipe_or_note release_by release_of multi_from multi_grown multi_seen pinch_or_seen two_fingers pinch_end_or_seen three_fingers far_down swiped_down multi_rule is_pinch multi_end axis_of lock_of total mean middle difference distance distance2 on_panel all_on_panel fingers when◌then◌else◌ ◌and◌ ◌or◌
computed = (
  record {
    lingering-finger = refl;
    at-299 = refl;
    at-300 = refl;
    clock-back = refl;
    spent-two = refl;
    spent-none = refl;
    residual-gains = refl;
    second-finger = refl;
    keys-at-once = refl;
    mask-not-repeated = refl;
    none-again = refl;
    document-trace = refl;
  },
  record {
    capture-direct = differ (λ (t : Tracker). t.app.raw) refl refl;
    capture-then-direct = refl;
    direct-then-capture = refl;
    capture-raw = λ e. differ (λ (t : Tracker). t.app.raw) refl refl (sym e);
    capture-then-raw = refl;
    raw-then-capture = refl;
    capture-off = differ (λ (t : Tracker). t.app.raw) refl refl;
    capture-then-off = refl;
    off-then-capture = refl;
    direct-raw = differ (λ (t : Tracker). t.settings.raw_next) refl refl;
    direct-then-raw = refl;
    raw-then-direct = refl;
    direct-tick = λ e. differ (λ (t : Tracker). t.one.grabbed) refl refl (sym e);
    direct-then-tick = refl;
    tick-then-direct = refl;
    raw-raw = λ e. differ (λ (t : Tracker). t.settings.raw_next) refl refl (sym e);
    grab-grab = differ (λ (t : Tracker). t.settings.grab_ms =? 100) refl refl;
    grab-tick = λ e. differ (λ (t : Tracker). t.one.long_sent) refl refl (sym e);
    grab-then-tick = refl;
    tick-then-grab = refl;
    tick-tick = differ (λ (t : Tracker). t.one.long_sent) refl refl;
    tick-then-later = refl;
    later-then-tick = refl;
    capture-again = refl;
    captured-still-raw = refl;
    wish-withdrawn = refl;
    capture-tick = (meet (down_with 100 (set_grabbed (reset (at 5 5))) (set_captured untaken true)) refl refl, refl);
    captured-grab = refl;
    wish-meets = refl;
    wish-alone = refl;
    wish-late = refl;
    no_touch = refl;
    captured-before = meet (down_with 0 (reset (at 5 5)) (set_direct (set_captured untaken false))) refl refl;
    most-is-most = refl;
    grab-at-either = refl;
  },
)

pub worked-histories : Worked
worked-histories = computed.0

pub turned-histories : Turned
turned-histories = computed.1
