-- Reading a record.
--
-- "1 report (time, keys, count to 255, the points in use, x and y to 65535); 2 tick (time); 3 capture; 4 capture_direct; 5
-- raw_next (0, 1); 6 grab (to 65535); the rest to u64." "Reading sets `p` to the first point and what is unused to zero
-- (for count 1 all of `pts`)". "12 KIND: unknown record kind".
use Rattle.std.specs.Prelude.{ℕ, zero, suc, List, [], ◌∷◌, ◌++◌, ◌≡◌, take, replicate, Result, Ok, Err}
use Rattle.gesture.specs.Calls.{Call, call_of}
use Rattle.gesture.specs.declared.making.Call as value
use Rattle.gesture.specs.declared.making.Call.TheVariants.{Report, Tick, Capture, CaptureDirect, RawNext, SetGrabMs}
use Rattle.panel.specs.Points.{fingers}
use Rattle.panel.specs.Refusals.{Told, answered, refused}
use Rattle.panel.specs.Sizes.{max_points}
use Rattle.panel.specs.Tests.{when◌then◌else◌, ◌=?◌}
use Rattle.panel.specs.declared.points.Event.{Event}
use Rattle.panel.specs.declared.points.Point.{Point}
use Rattle.panel.specs.declared.refusals.Refusal.TheVariants.{Kind}
use Rattle.numbers.specs.Numbers.{◌>>=◌, stopped, number_at}
use Rattle.numbers.specs.Sizes.{most64}
use Rattle.numbers.specs.declared.reading.Stop.{Stop}
use Rattle.trace.specs.Sizes.{most16, most8, most1, kind_report, kind_tick, kind_capture, kind_direct, kind_raw, kind_grab}

abbrev pub nowhere : Point
nowhere = record { x = 0; y = 0 }

abbrev pub no_points : List Point
no_points = replicate max_points nowhere

-- so many points in a row, and where they end
unfoldable pub points_from : List ℕ → ℕ → ℕ → Result (List Point × ℕ) Stop
points_from bytes at zero = Ok ([], at)
points_from bytes at (suc n) = do
  x ← number_at bytes at most16
  y ← number_at bytes x.1 most16
  rest ← points_from bytes y.1 n
  Ok (record { x = x.0; y = y.0 } ∷ rest.0, rest.1)

abbrev pub first_of : List Point → Point
first_of [] = nowhere
first_of (p ∷ ps) = p

abbrev pub filled : List Point → List Point
filled ps = take max_points (ps ++ no_points)

unfoldable pub event_of : ℕ → ℕ → List Point → Event
event_of keys count ps =
    record { points = count; p = first_of ps; pts = when count =? 1 then no_points else filled ps; keys = keys }

-- the call that a record of a kind is, whose fields begin at a place, and where the next record begins
unfoldable pub report_from : List ℕ → ℕ → Result (value.Call × ℕ) Stop
report_from bytes at = do
  time ← number_at bytes at most64
  keys ← number_at bytes time.1 most8
  count ← number_at bytes keys.1 most8
  ps ← points_from bytes count.1 (fingers count.0)
  Ok (Report (event_of keys.0 count.0 ps.0) time.0, ps.1)

unfoldable pub tick_from : List ℕ → ℕ → Result (value.Call × ℕ) Stop
tick_from bytes at = do
  time ← number_at bytes at most64
  Ok (Tick time.0, time.1)

unfoldable pub raw_from : List ℕ → ℕ → Result (value.Call × ℕ) Stop
raw_from bytes at = do
  on ← number_at bytes at most1
  Ok (RawNext (on.0 =? 1), on.1)

unfoldable pub grab_from : List ℕ → ℕ → Result (value.Call × ℕ) Stop
grab_from bytes at = do
  ms ← number_at bytes at most16
  Ok (SetGrabMs ms.0, ms.1)

-- the record at a place, of a kind, whose fields begin at another
unfoldable pub of_kind : List ℕ → ℕ → ℕ → ℕ → Result (value.Call × ℕ) Stop
of_kind bytes at kind fields =
    when kind =? kind_report then report_from bytes fields
    else when kind =? kind_tick then tick_from bytes fields
    else when kind =? kind_capture then Ok (Capture, fields)
    else when kind =? kind_direct then Ok (CaptureDirect, fields)
    else when kind =? kind_raw then raw_from bytes fields
    else when kind =? kind_grab then grab_from bytes fields
    else stopped Kind at

unfoldable pub record_at : List ℕ → ℕ → Result (value.Call × ℕ) Stop
record_at bytes at = do
  kind ← number_at bytes at most64
  of_kind bytes at kind.0 kind.1

-- none of the six kinds
abbrev pub NoKind : ℕ → Type 0
NoKind kind =
    (kind ≡ kind_report → ⊥) × (kind ≡ kind_tick → ⊥) × (kind ≡ kind_capture → ⊥) × (kind ≡ kind_direct → ⊥) × (kind ≡ kind_raw → ⊥) × (kind ≡ kind_grab → ⊥)

-- What was read in the documents' numbers: 0, the call and where the next record begins; or the refusal's number, no call,
-- and the offset that goes with it.
pub data Heard : Type 0 where
  call_to : Call → ℕ → Heard
  none_at : ℕ → Heard

abbrev pub told_read : Result (value.Call × ℕ) Stop → Told Heard
told_read (Ok r) = answered (call_to (call_of r.0) r.1)
told_read (Err stop) = refused stop.why (none_at stop.at)
