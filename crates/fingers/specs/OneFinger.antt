-- "A report": later reports of one finger.
--
-- "Later reports: far is the largest max(|dx|,|dy|); moved once over 15; early once over 8 with hold on, not direct, not
-- grabbed. Then Grab if due; then, if raw, Move when the point changed, else nothing. If moved, and grabbed where hold is
-- on: Drag(start, point, axis) at each report. Axis, kept once found, no Drag before: H if 2|dx| >= 3|dy|; V if 2|dy| >=
-- 3|dx|; else, over 30, the larger, a tie H."
use Rattle.std.specs.Prelude.{ℕ, ◌-◌, max, Bool, not, Option, Some, None}
use Rattle.panel.specs.Tests.{when◌then◌else◌, ◌and◌, ◌or◌, ◌<?◌, ◌=?◌}
use Rattle.panel.specs.Distances.{difference, distance}
use Rattle.panel.specs.Axes.{axis_of}
use Rattle.panel.specs.declared.points.Point.{Point}
use Rattle.fingers.specs.Thresholds.{slop, grab_slop}
use Rattle.fingers.specs.Fields.{set_grabbed, set_axis}
use Rattle.fingers.specs.Holds.{step, hold_of, is_on, grab_due}
use Rattle.fingers.specs.declared.gestures.Gesture.TheVariants.{Drag, Grab, Move}
use Rattle.fingers.specs.declared.gestures.Outcome.{Outcome}
use Rattle.fingers.specs.declared.gestures.Outcome.TheVariants.{Quiet, Gives}
use Rattle.fingers.specs.declared.one.One.{One}
use Rattle.fingers.specs.declared.one.App.{App}
use Rattle.fingers.specs.declared.one.OneStep.{OneStep}
use Rattle.fingers.specs.declared.settings.Settings.{Settings}
use Rattle.panel.specs.declared.axes.Axis.{Axis}

-- "early once over 8 with hold on, not direct, not grabbed": hold is 0, not on, for a direct touch
unfoldable pub early_now : One → ℕ → ℕ → Bool
early_now o hold away = o.early or (is_on hold and not o.grabbed and (grab_slop <? away))

-- the finger is at p, that far away from where it went down
unfoldable pub tracked : One → ℕ → ℕ → Point → One
tracked o hold away p =
    record {
      last = p;
      moved = o.moved or (slop <? away);
      far = max o.far away;
      long_sent = o.long_sent;
      axis = o.axis;
      grabbed = o.grabbed;
      early = early_now o hold away;
    }

unfoldable pub same_point : Point → Point → Bool
same_point p q = (p.x =? q.x) and (p.y =? q.y)

unfoldable pub move_from : Point → Point → Outcome
move_from prev p = when same_point prev p then Quiet else Gives (Move prev p)

-- kept once found
unfoldable pub axis_at : Option Axis → Point → Point → Option Axis
axis_at (Some a) start p = Some a
axis_at None start p = axis_of (difference start.x p.x) (difference start.y p.y)

-- no Drag before it is found
unfoldable pub drag_along : Option Axis → One → Point → Point → OneStep
drag_along (Some a) o start p = step (Gives (Drag start p a)) (set_axis o (Some a))
drag_along None o start p = step Quiet o

unfoldable pub may_drag : One → ℕ → Bool
may_drag o hold = o.moved and (o.grabbed or (hold =? 0))

unfoldable pub moving : One → Bool → ℕ → Point → Point → Point → OneStep
moving o raw hold prev start p =
    when raw then step (move_from prev p) o
    else when may_drag o hold then drag_along (axis_at o.axis start p) o start p
    else step Quiet o

unfoldable pub grab_or_moving : One → Bool → ℕ → ℕ → Point → Point → Point → OneStep
grab_or_moving o raw hold held prev start p =
    when grab_due o hold held then step (Gives (Grab start)) (set_grabbed o)
    else moving o raw hold prev start p

-- a report of one finger at p, down at start since a time
unfoldable pub later_report : One → App → Point → ℕ → Point → ℕ → Settings → OneStep
later_report o app start since p now set =
    let hold = hold_of app.direct set.grab_ms in
    grab_or_moving (tracked o hold (distance start p) p) app.raw hold (now - since) o.last start p
