-- A report is read point by point into an array of zeros: one point, the points filled up already, and the report made of
-- those.
use Rattle.std.specs.Prelude.{ℕ, List, get_or, Result, Ok}
use Rattle.panel.specs.Tests.{when◌then◌else◌, ◌=?◌}
use Rattle.panel.specs.declared.points.Event.{Event}
use Rattle.panel.specs.declared.points.Point.{Point}
use Rattle.gesture.specs.declared.making.Call as value
use Rattle.gesture.specs.declared.making.Call.TheVariants.{Report}
use Rattle.panel.specs.Points.{fingers}
use Rattle.numbers.specs.Numbers.{◌>>=◌, number_at}
use Rattle.numbers.specs.Sizes.{most64}
use Rattle.numbers.specs.declared.reading.Stop.{Stop}
use Rattle.trace.specs.Records.{nowhere, no_points, points_from, filled}
use Rattle.trace.specs.Sizes.{most16, most8}

unfoldable pub point_from : List ℕ → ℕ → Result (Point × ℕ) Stop
point_from bytes at = do
  x ← number_at bytes at most16
  y ← number_at bytes x.1 most16
  Ok (record { x = x.0; y = y.0 }, y.1)

unfoldable pub filled_from : List ℕ → ℕ → ℕ → Result (List Point × ℕ) Stop
filled_from bytes at n = do
  ps ← points_from bytes at n
  Ok (filled ps.0, ps.1)

unfoldable pub event_with : ℕ → ℕ → List Point → Event
event_with keys count pts =
    record { points = count; p = get_or pts 0 nowhere; pts = when count =? 1 then no_points else pts; keys = keys }

abbrev pub report_end : ℕ → ℕ → ℕ → Result (List Point × ℕ) Stop → Result (value.Call × ℕ) Stop
report_end time keys count read = do
  pts ← read
  Ok (Report (event_with keys count pts.0) time, pts.1)

unfoldable pub report_filled : List ℕ → ℕ → Result (value.Call × ℕ) Stop
report_filled bytes at = do
  time ← number_at bytes at most64
  keys ← number_at bytes time.1 most8
  count ← number_at bytes keys.1 most8
  report_end time.0 keys.0 count.0 (filled_from bytes count.1 (fingers count.0))
