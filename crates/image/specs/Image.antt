-- The byte image of a tracker. These rows are the layout, and the one place that says it: what the code does is proved
-- against them, and tools/header holds the table of docs/IMAGE.md and the header's number to them.
--
-- "one lent byte area that holds the tracker. One tracker has one image (layout fixed in docs/, absent parts zero)". "grab
-- time (0 at the start, set to at most 5000) and the raw wish (off) live in it."
use Rattle.std.specs.Prelude.{ℕ, ◌+◌, Bool, List, [], ◌∷◌, ◌++◌, Option, Some, None}
use Rattle.panel.specs.Axes.{axis_number}
use Rattle.panel.specs.Tests.{bit}
use Rattle.panel.specs.declared.points.Point.{Point}
use Rattle.panel.specs.declared.axes.Axis.TheVariants.{H}
use Rattle.fingers.specs.declared.one.One.{One}
use Rattle.fingers.specs.declared.one.App.{App}
use Rattle.fingers.specs.declared.keys.Keys.{Keys}
use Rattle.fingers.specs.declared.settings.Settings.{Settings}
use Rattle.fingers.specs.declared.several.Multi.{Multi}
use Rattle.fingers.specs.declared.pair.Pair.{Pair}
use Rattle.gesture.specs.Trackers.{origin, fresh_tracker}
use Rattle.gesture.specs.declared.record.Touch.{Touch}
use Rattle.gesture.specs.declared.record.Touch.TheVariants as touch
use Rattle.gesture.specs.declared.record.Tracker.{Tracker}
use Rattle.image.specs.Rows.{Row, row, laid, total}
use Rattle.panel.specs.declared.axes.Axis.{Axis}

-- Which parts are there, and the parts, zero where they are absent.

unfoldable pub touch_number : Touch → ℕ
touch_number touch.Idle = 0
touch_number (touch.Down start since) = 1
touch_number (touch.Multi m pair) = 2
touch_number touch.Residual = 3

unfoldable pub start_of : Touch → Point
start_of touch.Idle = origin
start_of (touch.Down start since) = start
start_of (touch.Multi m pair) = origin
start_of touch.Residual = origin

unfoldable pub since_of : Touch → ℕ
since_of touch.Idle = 0
since_of (touch.Down start since) = since
since_of (touch.Multi m pair) = 0
since_of touch.Residual = 0

abbrev pub zero_multi : Multi
zero_multi = record { n = 0; c0 = origin; t0 = 0; c1 = origin; t1 = 0 }

unfoldable pub multi_of : Touch → Multi
multi_of touch.Idle = zero_multi
multi_of (touch.Down start since) = zero_multi
multi_of (touch.Multi m pair) = m
multi_of touch.Residual = zero_multi

abbrev pub zero_pair : Pair
zero_pair = record { a = origin; b = origin; axis = H; span0 = 0; c0 = origin; state = 0 }

unfoldable pub pairing_of : Touch → Option Pair
pairing_of touch.Idle = None
pairing_of (touch.Down start since) = None
pairing_of (touch.Multi m pair) = pair
pairing_of touch.Residual = None

unfoldable pub pair_number : Option Pair → ℕ
pair_number None = 0
pair_number (Some r) = 1

unfoldable pub pair_of : Option Pair → Pair
pair_of None = zero_pair
pair_of (Some r) = r

unfoldable pub end_number : Option ℕ → ℕ
end_number None = 0
end_number (Some end) = 1

unfoldable pub end_time : Option ℕ → ℕ
end_time None = 0
end_time (Some end) = end

-- 0 while no axis is locked
unfoldable pub lock_number : Option Axis → ℕ
lock_number None = 0
lock_number (Some a) = 1 + axis_number a

-- The table, part by part, in the order of the bytes.

unfoldable pub point_rows : Point → List Row
point_rows p = row 2 p.x ∷ row 2 p.y ∷ []

unfoldable pub down_rows : Point → ℕ → List Row
down_rows start since = point_rows start ++ row 8 since ∷ []

unfoldable pub multi_rows : Multi → List Row
multi_rows multi =
    row 1 multi.n ∷ point_rows multi.c0 ++ row 8 multi.t0 ∷ point_rows multi.c1 ++ row 8 multi.t1 ∷ []

unfoldable pub pair_rows : Pair → List Row
pair_rows pair =
    point_rows pair.a ++ point_rows pair.b ++ row 1 (axis_number pair.axis) ∷ row 2 pair.span0 ∷ point_rows pair.c0 ++ row 1 pair.state ∷ []

unfoldable pub pairing_rows : Option Pair → List Row
pairing_rows pairing = row 1 (pair_number pairing) ∷ pair_rows (pair_of pairing)

unfoldable pub touch_rows : Touch → List Row
touch_rows x = row 1 (touch_number x) ∷ down_rows (start_of x) (since_of x) ++ multi_rows (multi_of x) ++ pairing_rows (pairing_of x)

-- what the one finger did
unfoldable pub one_rows : One → List Row
one_rows one =
    point_rows one.last ++ row 1 (bit one.moved)
    ∷ row 2 one.far
    ∷ row 1 (bit one.long_sent)
    ∷ row 1 (lock_number one.axis)
    ∷ row 1 (bit one.grabbed)
    ∷ []

-- what the app made of the touch; the last of what the finger did, whether it was early, stands among it
unfoldable pub taken_rows : Bool → App → List Row
taken_rows early app = row 1 (bit app.direct) ∷ row 1 (bit early) ∷ row 1 (bit app.captured) ∷ row 1 (bit app.raw) ∷ []

unfoldable pub finger_rows : One → App → List Row
finger_rows one app = one_rows one ++ taken_rows one.early app

unfoldable pub end_rows : Option ℕ → List Row
end_rows end = row 1 (end_number end) ∷ row 8 (end_time end) ∷ []

unfoldable pub key_rows : Keys → List Row
key_rows keys = row 1 keys.told ∷ row 1 keys.wanted ∷ []

unfoldable pub setting_rows : Settings → List Row
setting_rows settings = row 2 settings.grab_ms ∷ row 1 (bit settings.raw_next) ∷ []

unfoldable pub table : Tracker → List Row
table t =
    touch_rows t.touch ++ finger_rows t.one t.app ++ end_rows t.multi_end ++ key_rows t.keys ++ setting_rows t.settings

unfoldable pub image_of : Tracker → List ℕ
image_of t = laid (table t)

-- how many bytes that is, for the fresh tracker as for any
unfoldable pub image_bytes : ℕ
image_bytes = total (table fresh_tracker)
