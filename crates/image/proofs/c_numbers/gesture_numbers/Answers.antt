-- `image::c_numbers::gesture_numbers` meets its contract. Assumes nothing.
use mathlib.Core.Path.{sym, ◌∙◌, ap}
use Rattle.image.specs.Numbers.{gesture_numbers}
use Rattle.image.proofs.Coding.{drag-numbers, pinch-numbers, pinch-end-numbers}
use Rattle.image.proofs.c_numbers.gesture_numbers.Goals as goal

pub returns-in-Down : goal.returns-in-Down
unfolding gesture_numbers
returns-in-Down c = c.at.ensures ∙ sym (ap gesture_numbers c.in-Down.is)

pub returns-in-Tap : goal.returns-in-Tap
unfolding gesture_numbers
returns-in-Tap c = c.at-in-Tap.ensures ∙ sym (ap gesture_numbers c.in-Tap.is)

pub returns-in-LongPress : goal.returns-in-LongPress
unfolding gesture_numbers
returns-in-LongPress c = c.at-in-LongPress.ensures ∙ sym (ap gesture_numbers c.in-LongPress.is)

pub returns-in-Drag : goal.returns-in-Drag
returns-in-Drag c = drag-numbers _ _ _ _ _ _ c.in-Drag.is c.from.ensures c.between.ensures

pub returns-in-Grab : goal.returns-in-Grab
unfolding gesture_numbers
returns-in-Grab c = c.at-in-Grab.ensures ∙ sym (ap gesture_numbers c.in-Grab.is)

pub returns-in-Up : goal.returns-in-Up
unfolding gesture_numbers
returns-in-Up c = c.at-in-Up.ensures ∙ sym (ap gesture_numbers c.in-Up.is)

pub returns-in-SwipeLeft : goal.returns-in-SwipeLeft
unfolding gesture_numbers
returns-in-SwipeLeft c = c.alone.ensures ∙ sym (ap gesture_numbers c.in-SwipeLeft.is)

pub returns-in-SwipeRight : goal.returns-in-SwipeRight
unfolding gesture_numbers
returns-in-SwipeRight c = c.alone-in-SwipeRight.ensures ∙ sym (ap gesture_numbers c.in-SwipeRight.is)

pub returns-in-SwipeUp : goal.returns-in-SwipeUp
unfolding gesture_numbers
returns-in-SwipeUp c = c.alone-in-SwipeUp.ensures ∙ sym (ap gesture_numbers c.in-SwipeUp.is)

pub returns-in-SwipeDown : goal.returns-in-SwipeDown
unfolding gesture_numbers
returns-in-SwipeDown c = c.alone-in-SwipeDown.ensures ∙ sym (ap gesture_numbers c.in-SwipeDown.is)

pub returns-in-Cancel : goal.returns-in-Cancel
unfolding gesture_numbers
returns-in-Cancel c = c.alone-in-Cancel.ensures ∙ sym (ap gesture_numbers c.in-Cancel.is)

pub returns-in-MultiSwipeDown : goal.returns-in-MultiSwipeDown
unfolding gesture_numbers
returns-in-MultiSwipeDown c = c.counted.ensures ∙ sym (ap gesture_numbers c.in-MultiSwipeDown.is)

pub returns-in-KeyDown : goal.returns-in-KeyDown
unfolding gesture_numbers
returns-in-KeyDown c = c.counted-in-KeyDown.ensures ∙ sym (ap gesture_numbers c.in-KeyDown.is)

pub returns-in-KeyUp : goal.returns-in-KeyUp
unfolding gesture_numbers
returns-in-KeyUp c = c.counted-in-KeyUp.ensures ∙ sym (ap gesture_numbers c.in-KeyUp.is)

pub returns-in-Move : goal.returns-in-Move
unfolding gesture_numbers
returns-in-Move c = c.between-in-Move.ensures ∙ sym (ap gesture_numbers c.in-Move.is)

pub returns-in-Pinch : goal.returns-in-Pinch
returns-in-Pinch c = pinch-numbers _ _ _ _ _ _ c.in-Pinch.is c.from-in-Pinch.ensures c.spans.ensures

pub returns-in-PinchEnd : goal.returns-in-PinchEnd
returns-in-PinchEnd c = pinch-end-numbers _ _ _ _ c.in-PinchEnd.is c.bit.ensures c.counted-in-PinchEnd.ensures
