-- The bytes of calls.
--
-- "records: 1 report (time, keys, count to 255, the points in use, x and y to 65535); 2 tick (time); 3 capture; 4
-- capture_direct; 5 raw_next (0, 1); 6 grab (to 65535)". "Points in use: `p` for count 1; the first n of `pts` for 2 to 5.
-- A count over 5 means 5. For count 0 none."
use Rattle.std.specs.Prelude.{ℕ, List, [], ◌∷◌, ◌++◌}
use Rattle.gesture.specs.Answers.{points_in_use}
use Rattle.gesture.specs.Calls.{Call, report, tick, capture, capture_direct, raw_next, set_grab_ms}
use Rattle.panel.specs.Tests.{when◌then◌else◌}
use Rattle.panel.specs.declared.points.Point.{Point}
use Rattle.numbers.specs.Numbers.{bytes_of, bytes_of_all}
use Rattle.trace.specs.Sizes.{version, kind_report, kind_tick, kind_capture, kind_direct, kind_raw, kind_grab}

unfoldable pub coordinates : List Point → List ℕ
coordinates [] = []
coordinates (p ∷ ps) = p.x ∷ p.y ∷ coordinates ps

-- the numbers of its record
unfoldable pub numbers_of : Call → List ℕ
numbers_of (report time e) = kind_report ∷ time ∷ e.keys ∷ e.points ∷ coordinates (points_in_use e)
numbers_of (tick time) = kind_tick ∷ time ∷ []
numbers_of capture = kind_capture ∷ []
numbers_of capture_direct = kind_direct ∷ []
numbers_of (raw_next on) = kind_raw ∷ (when on then 1 else 0) ∷ []
numbers_of (set_grab_ms ms) = kind_grab ∷ ms ∷ []

unfoldable pub record_of : Call → List ℕ
record_of c = bytes_of_all (numbers_of c)

unfoldable pub records_of : List Call → List ℕ
records_of [] = []
records_of (c ∷ cs) = record_of c ++ records_of cs

-- "Version, then records"
unfoldable pub trace_of : List Call → List ℕ
trace_of cs = bytes_of version ++ records_of cs
