-- Document 01's trace, played: its text by the definitions alone, as the document prints it. Assumes nothing.
use Prim.Native.Nat.{ℕ}
use mathlib.Core.List.{List, [], ◌∷◌}
use mathlib.Core.Path.{◌≡◌, refl, ap, ◌∙◌}
use lib.Count.{count_trailing_zeros}
use Rattle.fingers.specs.Fields.{reset, set_axis, untaken}
use Rattle.fingers.specs.Holds.{hold_of, grab_due, long_from, long_due, held_still}
use Rattle.fingers.specs.Keys.{without, lowest, flipped, key_step}
use Rattle.fingers.specs.OneFinger.{early_now, tracked, axis_at, drag_along, may_drag, moving, grab_or_moving, later_report}
use Rattle.fingers.specs.Pairs.{span_along, pair_axis, new_pair}
use Rattle.fingers.specs.Releases.{tap_or_note, is_swipe, swipe_or_note, release_by, release_of}
use Rattle.fingers.specs.Settings.{unset}
use Rattle.fingers.specs.Several.{multi_from, far_down, swiped_down, multi_rule, is_pinch, multi_end}
use Rattle.gesture.specs.Answers.{answered, given_by, points_in_use, reported, event_of, ticked, tick_of}
use Rattle.gesture.specs.Lines.{is_locked, line_at, gesture_line, report_gesture_line, report_line, tick_line}
use Rattle.gesture.specs.Reports.{up_outcome, end_stored, all_up, is_last_finger, residual_touch, new_touch, touch_down, goes_on, one_finger, two_start, two, several, two_of, fingers_of, keys_then_fingers, report_step}
use Rattle.gesture.specs.Runs.{run}
use Rattle.gesture.specs.States.{held_points, centroids, span_rule, pair_rule, most_rule, raw_rule, state_rule}
use Rattle.gesture.specs.Ticks.{still_down, keys_then_hold, tick_step}
use Rattle.gesture.specs.Trackers.{whole, fresh_tracker, touched, keyed}
use Rattle.panel.specs.Axes.{axis_of}
use Rattle.panel.specs.Centroids.{total, mean, middle}
use Rattle.panel.specs.Distances.{difference, distance}
use Rattle.panel.specs.Points.{on_panel, all_on_panel, fingers}
use Rattle.panel.specs.Tests.{when◌then◌else◌, ◌and◌, ◌or◌}
use Rattle.text.specs.Gestures.{words_of}
use Rattle.text.specs.Texts.{given_line, answer_line, lines_from, end_line, last_line, printed, text_of}
use Rattle.text.specs.Words.{ascii, digits_by, decimal, letter_of, spaced, line}
use Rattle.trace.proofs.Cases.{document-trace}

abbrev bytes : List ℕ
bytes =
    1 ∷ 1 ∷ 0 ∷ 0 ∷ 1 ∷ 100 ∷ 50 ∷ 1 ∷ 10 ∷ 0 ∷ 1 ∷ 115 ∷ 50 ∷ 1 ∷ 20 ∷ 0 ∷ 1 ∷ 116 ∷ 50
    ∷ 1 ∷ 30 ∷ 0 ∷ 2 ∷ 116 ∷ 50 ∷ 176 ∷ 1 ∷ 50 ∷ 2 ∷ 232 ∷ 7 ∷ 1 ∷ 242 ∷ 7 ∷ 0 ∷ 0
    ∷ 1 ∷ 157 ∷ 10 ∷ 0 ∷ 1 ∷ 100 ∷ 50 ∷ 1 ∷ 158 ∷ 10 ∷ 0 ∷ 0 ∷ 1 ∷ 158 ∷ 10 ∷ 0 ∷ 1 ∷ 100 ∷ 50
    ∷ 1 ∷ 248 ∷ 10 ∷ 0 ∷ 0 ∷ []

pub document-text : text_of bytes ≡ ascii "1 Down 100 50\n3 Drag 100 50 116 50 H\n4 Cancel\n9 Down 100 50\n10 Tap 100 50\nend 10\n"
unfolding text_of printed lines_from run given_line answer_line end_line last_line words_of ascii digits_by decimal letter_of spaced line event_of tick_of answered given_by points_in_use reported ticked up_outcome end_stored all_up is_last_finger residual_touch new_touch touch_down goes_on one_finger two_start two several two_of fingers_of keys_then_fingers report_step held_points centroids span_rule pair_rule most_rule raw_rule state_rule still_down keys_then_hold tick_step fresh_tracker whole touched keyed unset untaken reset set_axis hold_of grab_due long_from long_due held_still without lowest flipped key_step count_trailing_zeros early_now tracked axis_at drag_along may_drag moving grab_or_moving later_report span_along pair_axis new_pair tap_or_note is_swipe swipe_or_note release_by release_of multi_from far_down swiped_down multi_rule is_pinch multi_end axis_of total mean middle difference distance on_panel all_on_panel fingers when◌then◌else◌ ◌and◌ ◌or◌ line_at gesture_line is_locked report_gesture_line report_line tick_line
document-text = ap printed document-trace ∙ refl
