-- Document 01's starred cases hold: the whole table, computed through the definitions. Assumes nothing.
use mathlib.Core.Path.{refl}
use lib.Count.{count_trailing_zeros}
use Rattle.calmap.specs.Checks.{mild, scale_holds, near, stays, all_stay, verdict_of, check_of}
use Rattle.calmap.specs.Maps.{line, line_fits, apply_of}
use Rattle.calmap.specs.Wide.{in32, in16, down}
use Rattle.fingers.specs.Fields.{reset, set_axis, untaken}
use Rattle.fingers.specs.Holds.{hold_of, grab_due, long_from, long_due, held_still}
use Rattle.fingers.specs.Keys.{without, lowest, flipped, key_step}
use Rattle.fingers.specs.OneFinger.{early_now, tracked, axis_at, drag_along, may_drag, moving, grab_or_moving, later_report}
use Rattle.fingers.specs.Pairs.{span_along, pair_axis, new_pair}
use Rattle.fingers.specs.Releases.{tap_or_note, is_swipe, swipe_or_note, release_by, release_of}
use Rattle.fingers.specs.Settings.{unset}
use Rattle.fingers.specs.Several.{multi_from, far_down, swiped_down, multi_rule, is_pinch, multi_end}
use Rattle.gesture.specs.Answers.{answered, given_by, points_in_use, reported, event_of, ticked, tick_of}
use Rattle.gesture.specs.Lines.{is_locked, line_at, gesture_line, report_gesture_line, note_line, report_line, tick_line}
use Rattle.gesture.specs.Reports.{up_outcome, end_stored, all_up, is_last_finger, residual_touch, new_touch, touch_down, goes_on, one_finger, two_start, two, several, two_of, fingers_of, keys_then_fingers, report_step}
use Rattle.gesture.specs.Runs.{after}
use Rattle.gesture.specs.States.{held_points, centroids, span_rule, pair_rule, most_rule, raw_rule, state_rule}
use Rattle.gesture.specs.Ticks.{still_down, keys_then_hold, tick_step}
use Rattle.gesture.specs.Trackers.{whole, fresh_tracker, touched, keyed}
use Rattle.panel.specs.Axes.{axis_of}
use Rattle.panel.specs.Centroids.{total, mean, middle}
use Rattle.panel.specs.Distances.{difference, distance}
use Rattle.panel.specs.Points.{on_panel, all_on_panel, fingers}
use Rattle.panel.specs.Tests.{when◌then◌else◌, ◌and◌, ◌or◌}
use Rattle.cases.specs.Starred.{Holds, AllHold, table}

pub starred : AllHold table
unfolding after Holds AllHold event_of tick_of answered given_by points_in_use reported ticked up_outcome end_stored all_up is_last_finger residual_touch new_touch touch_down goes_on one_finger two_start two several two_of fingers_of keys_then_fingers report_step held_points centroids span_rule pair_rule most_rule raw_rule state_rule still_down keys_then_hold tick_step fresh_tracker whole touched keyed unset untaken reset set_axis hold_of grab_due long_from long_due held_still without lowest flipped key_step count_trailing_zeros early_now tracked axis_at drag_along may_drag moving grab_or_moving later_report span_along pair_axis new_pair tap_or_note is_swipe swipe_or_note release_by release_of multi_from far_down swiped_down multi_rule is_pinch multi_end axis_of total mean middle difference distance on_panel all_on_panel fingers when◌then◌else◌ ◌and◌ ◌or◌ line_at gesture_line is_locked report_gesture_line note_line report_line tick_line apply_of line_fits line in16 in32 down check_of verdict_of scale_holds mild all_stay stays near
starred = (refl, (refl, ((refl, refl), (refl, ((refl, refl), ((refl, refl), (refl, ((refl, refl), (refl, (refl, ((refl, refl), (refl, ((refl, refl), (refl, (refl, (refl, (refl, (refl, (refl, tt)))))))))))))))))))
