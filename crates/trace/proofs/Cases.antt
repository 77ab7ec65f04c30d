-- Document 01's trace, read: the calls of its ten records, by the definitions alone. The round trip holds of any reader and
-- writer that agree; this holds the reader to the document's bytes. Assumes nothing.
use Prim.Native.Nat.{ℕ}
use mathlib.Core.Path.{◌≡◌, refl}
use mathlib.Core.List.{List, [], ◌∷◌}
use Rattle.panel.specs.Points.{fingers}
use Rattle.panel.specs.Tests.{when◌then◌else◌, ◌and◌}
use Rattle.panel.specs.declared.points.Point.{Point}
use Rattle.gesture.specs.Calls.{Call, report, tick}
use Rattle.numbers.specs.Numbers.{groups_in, value_of, ends_in_zero, needless, number_at}
use Rattle.trace.specs.Records.{nowhere, points_from, event_of, report_from, tick_from, of_kind, record_at}
use Rattle.trace.specs.Traces.{ends, records_from, head_of, trace_in}

abbrev bytes : List ℕ
bytes =
    1 ∷ 1 ∷ 0 ∷ 0 ∷ 1 ∷ 100 ∷ 50 ∷ 1 ∷ 10 ∷ 0 ∷ 1 ∷ 115 ∷ 50 ∷ 1 ∷ 20 ∷ 0 ∷ 1 ∷ 116 ∷ 50
    ∷ 1 ∷ 30 ∷ 0 ∷ 2 ∷ 116 ∷ 50 ∷ 176 ∷ 1 ∷ 50 ∷ 2 ∷ 232 ∷ 7 ∷ 1 ∷ 242 ∷ 7 ∷ 0 ∷ 0
    ∷ 1 ∷ 157 ∷ 10 ∷ 0 ∷ 1 ∷ 100 ∷ 50 ∷ 1 ∷ 158 ∷ 10 ∷ 0 ∷ 0 ∷ 1 ∷ 158 ∷ 10 ∷ 0 ∷ 1 ∷ 100 ∷ 50
    ∷ 1 ∷ 248 ∷ 10 ∷ 0 ∷ 0 ∷ []

abbrev at : ℕ → ℕ → Point
at x y = record { x = x; y = y }

abbrev none : ℕ → Call
none now = report now (record { points = 0; p = nowhere; pts = nowhere ∷ nowhere ∷ nowhere ∷ nowhere ∷ nowhere ∷ []; keys = 0 })

abbrev one : ℕ → Point → Call
one now p = report now (record { points = 1; p = p; pts = nowhere ∷ nowhere ∷ nowhere ∷ nowhere ∷ nowhere ∷ []; keys = 0 })

abbrev two : ℕ → Point → Point → Call
two now p q = report now (record { points = 2; p = p; pts = p ∷ q ∷ nowhere ∷ nowhere ∷ nowhere ∷ []; keys = 0 })

pub document-trace : trace_in bytes ≡ record { calls = one 0 (at 100 50) ∷ one 10 (at 115 50) ∷ one 20 (at 116 50) ∷ two 30 (at 116 50) (at 176 50) ∷ tick 1000 ∷ none 1010 ∷ one 1309 (at 100 50) ∷ none 1310 ∷ one 1310 (at 100 50) ∷ none 1400 ∷ []; ending = ends }
unfolding trace_in head_of records_from record_at of_kind report_from tick_from points_from event_of number_at groups_in value_of ends_in_zero needless when◌then◌else◌ ◌and◌ fingers
document-trace = refl
