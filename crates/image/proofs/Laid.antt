-- The parts of a tracker, put one after another into a blank area, are its image; how long that is; the number of an axis;
-- the time of a stored end; and a copy of a whole area. Assumes nothing.
use Rattle.std.specs.Prelude.{Option, Some, None, unwrap_or}
use Prim.Native.Nat.{ℕ, ◌≤◌}
use mathlib.Core.Path.{◌≡◌, refl, ◌∙◌, ap}
use mathlib.Core.List.{List, ◌++◌, append-nil}
use native.Mathlib.Omega.{arith}
use lib.ListN.{length, take, drop}
use lib.Seq.{take-length, drop-length}
use Rattle.panel.specs.declared.axes.Axis.{Axis}
use Rattle.panel.specs.declared.axes.Axis.TheVariants.{H, «V»}
use Rattle.panel.specs.Axes.{axis_number}
use Rattle.gesture.specs.Trackers.{fresh_tracker}
use Rattle.gesture.specs.declared.record.Tracker.{Tracker}
use Rattle.image.specs.Rows.{total}
use Rattle.image.specs.Image.{image_bytes, end_time, point_rows, down_rows, multi_rows, pair_rows, pairing_rows, touch_rows, finger_rows, one_rows, taken_rows, end_rows, key_rows, setting_rows, table, image_of}
use Rattle.image.specs.code.Puts.{puts}
use Rattle.image.specs.code.Touches.{at_touch}
use Rattle.image.specs.code.Finger.{at_last}
use Rattle.image.specs.code.Ended.{at_ended}
use Rattle.image.specs.code.Keys.{at_told}
use Rattle.image.specs.code.Settings.{at_grab, at_end}
use Rattle.image.proofs.Absent.{blank}
use Rattle.image.proofs.Layouts.{put-laid, length-laid}

table-bytes : (t : Tracker) → total (table t) ≡ at_end
unfolding total point_rows down_rows multi_rows pair_rows pairing_rows touch_rows finger_rows one_rows taken_rows end_rows key_rows setting_rows table
table-bytes t = refl

-- the places come to the number of the table's bytes
pub bytes-end : image_bytes ≡ at_end
unfolding image_bytes
bytes-end = table-bytes fresh_tracker

pub length-image : (t : Tracker) → length (image_of t) ≡ at_end
unfolding image_of
length-image t = length-laid (table t) ∙ table-bytes t

pub image-put : (t : Tracker) (a1 a2 a3 a4 a5 : List ℕ)
    → a1 ≡ puts blank at_touch (touch_rows t.touch)
    → a2 ≡ puts a1 at_last (finger_rows t.one t.app)
    → a3 ≡ puts a2 at_ended (end_rows t.multi_end)
    → a4 ≡ puts a3 at_told (key_rows t.keys)
    → a5 ≡ puts a4 at_grab (setting_rows t.settings)
    → a5 ≡ image_of t
unfolding total puts point_rows down_rows multi_rows pair_rows pairing_rows touch_rows finger_rows one_rows taken_rows end_rows key_rows setting_rows table image_of
image-put t a1 a2 a3 a4 a5 h1 h2 h3 h4 h5 =
    let e2 = h2 ∙ ap (λ (l : List ℕ). puts l at_last (finger_rows t.one t.app)) h1 in
    let e3 = h3 ∙ ap (λ (l : List ℕ). puts l at_ended (end_rows t.multi_end)) e2 in
    let e4 = h4 ∙ ap (λ (l : List ℕ). puts l at_told (key_rows t.keys)) e3 in
    h5 ∙ ap (λ (l : List ℕ). puts l at_grab (setting_rows t.settings)) e4 ∙ put-laid (table t) blank 0 (table-bytes t)

pub axis-small : (a : Axis) → axis_number a ≤ 1
unfolding axis_number
axis-small H = omega arith
axis-small «V» = omega arith

-- the time of a stored end, 0 where there is none
pub end-is : (end : Option ℕ) → unwrap_or end 0 ≡ end_time end
unfolding end_time
end-is None = refl
end-is (Some time) = refl

-- A copy of the whole.

pub copied : (l m : List ℕ) → length l ≡ length m → take (length l) l ++ drop (length l) m ≡ l
copied l m e = (λ i. take-length l i ++ (ap (λ (n : ℕ). drop n m) e ∙ drop-length m) i) ∙ append-nil l
