-- The calls that a trace brings back.
--
-- "Reading sets `p` to the first point and what is unused to zero (for count 1 all of `pts`); the round trip is over such
-- calls in at most 65,536 bytes."
use Rattle.std.specs.Prelude.{◌≤◌, ◌≡◌, List, [], ◌∷◌}
use Rattle.panel.specs.declared.points.Point.{Point}
use Rattle.gesture.specs.Answers.{points_in_use}
use Rattle.gesture.specs.Calls.{Call, report, tick, capture, capture_direct, raw_next, set_grab_ms}
use Rattle.trace.specs.Records.{event_of}
use Rattle.numbers.specs.Sizes.{most64}
use Rattle.trace.specs.Sizes.{most16, most8}

abbrev pub Small : List Point → Type 0
Small [] = Unit {0}
Small (p ∷ ps) = (p.x ≤ most16) × (p.y ≤ most16) × Small ps

-- a report whose `p` is its first point, and what is unused zero; the numbers are those that its types hold
abbrev pub Normal : Call → Type 0
Normal (report time e) =
    (e ≡ event_of e.keys e.points (points_in_use e)) × (time ≤ most64) × (e.keys ≤ most8) × (e.points ≤ most8) × Small (points_in_use e)
Normal (tick time) = time ≤ most64
Normal capture = Unit {0}
Normal capture_direct = Unit {0}
Normal (raw_next on) = Unit {0}
Normal (set_grab_ms ms) = ms ≤ most16

abbrev pub AllNormal : List Call → Type 0
AllNormal [] = Unit {0}
AllNormal (c ∷ cs) = Normal c × AllNormal cs
