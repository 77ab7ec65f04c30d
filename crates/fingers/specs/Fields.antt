-- What is known of a one-finger touch, and what the app made of it. "all touch fields reset" at touch-down; else a rule sets
-- one or two of them and the others stay.
use Rattle.std.specs.Prelude.{Bool, true, false, Option, None}
use Rattle.panel.specs.declared.points.Point.{Point}
use Rattle.fingers.specs.declared.one.One.{One}
use Rattle.fingers.specs.declared.one.App.{App}
use Rattle.panel.specs.declared.axes.Axis.{Axis}

-- What the finger did.

unfoldable pub reset : Point → One
reset p = record { last = p; moved = false; far = 0; long_sent = false; axis = None; grabbed = false; early = false }

unfoldable pub set_grabbed : One → One
set_grabbed o =
    record { last = o.last; moved = o.moved; far = o.far; long_sent = o.long_sent; axis = o.axis; grabbed = true; early = o.early }

unfoldable pub set_long_sent : One → One
set_long_sent o =
    record { last = o.last; moved = o.moved; far = o.far; long_sent = true; axis = o.axis; grabbed = o.grabbed; early = o.early }

unfoldable pub set_axis : One → Option Axis → One
set_axis o a =
    record { last = o.last; moved = o.moved; far = o.far; long_sent = o.long_sent; axis = a; grabbed = o.grabbed; early = o.early }

-- What the app made of the touch.

unfoldable pub untaken : App
untaken = record { captured = false; raw = false; direct = false }

-- the app takes the touch, for raw moves or not
unfoldable pub set_captured : App → Bool → App
set_captured app raw = record { captured = true; raw = raw; direct = app.direct }

-- the app takes the touch, with no hold before a drag
unfoldable pub set_direct : App → App
set_direct app = record { captured = true; raw = app.raw; direct = true }
