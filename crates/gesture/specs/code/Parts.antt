-- The state rule part by part, as the code goes through the record: proofs/Rule.antt shows that the parts together are
-- `state_rule`, which is the one to hold against document 01.
use Rattle.std.specs.Prelude.{Bool, true, Option, Some, None}
use Rattle.panel.specs.Tests.{◌and◌, ◌≤?◌, ◌<?◌}
use Rattle.panel.specs.Sizes.{width, max_points}
use Rattle.panel.specs.Points.{on_panel}
use Rattle.fingers.specs.Thresholds.{grab_most, fewest}
use Rattle.fingers.specs.Pairs.{no_pinch}
use Rattle.fingers.specs.declared.one.One.{One}
use Rattle.fingers.specs.declared.pair.Pair.{Pair}
use Rattle.fingers.specs.declared.several.Multi as several
use Rattle.gesture.specs.States.{raw_rule}
use Rattle.gesture.specs.declared.record.Touch.{Touch}
use Rattle.gesture.specs.declared.record.Touch.TheVariants.{Idle, Down, Multi, Residual}
use Rattle.gesture.specs.declared.record.Tracker.{Tracker}

unfoldable pub one_part : One → Bool
one_part o = on_panel o.last and (o.far <? width)

unfoldable pub pair_places : Pair → Bool
pair_places r = on_panel r.a and on_panel r.b and on_panel r.c0

unfoldable pub pair_part : Pair → Bool
pair_part r = pair_places r and (r.span0 <? width) and (r.state ≤? no_pinch)

unfoldable pub pairing_part : Option Pair → Bool
pairing_part None = true
pairing_part (Some r) = pair_part r

unfoldable pub multi_places : several.Multi → Bool
multi_places m = on_panel m.c0 and on_panel m.c1

unfoldable pub multi_part : several.Multi → Bool
multi_part m = (fewest ≤? m.n) and (m.n ≤? max_points) and multi_places m

unfoldable pub several_part : several.Multi → Option Pair → Bool
several_part m pair = multi_part m and pairing_part pair

unfoldable pub touch_part : Touch → Bool
touch_part Idle = true
touch_part (Down start since) = on_panel start
touch_part (Multi m pair) = several_part m pair
touch_part Residual = true

unfoldable pub all_parts : Tracker → Bool
all_parts t = touch_part t.touch and one_part t.one and raw_rule t.app and (t.settings.grab_ms ≤? grab_most)
