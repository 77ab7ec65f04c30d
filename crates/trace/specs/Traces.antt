-- Reading a trace.
--
-- "Version, then records". "An empty trace is CUT." "8 VERSION: trace's first number is not 1"; "13 FILE: trace over 65,536
-- bytes"; "`stopped R at O` (offset of the number's first byte or, if missing, the length; 0 for FILE)".
use Rattle.std.specs.Prelude.{ℕ, zero, suc, List, [], ◌∷◌, length, Result, Ok, Err}
use Rattle.panel.specs.Tests.{when◌then◌else◌, ◌≤?◌, ◌<?◌, ◌=?◌}
use Rattle.panel.specs.declared.refusals.Refusal.{Refusal}
use Rattle.panel.specs.declared.refusals.Refusal.TheVariants.{Version, File}
use Rattle.gesture.specs.Calls.{Call, call_of}
use Rattle.gesture.specs.declared.making.Call as value
use Rattle.numbers.specs.Numbers.{◌>>=◌, stopped, number_at}
use Rattle.numbers.specs.Sizes.{most64}
use Rattle.numbers.specs.declared.reading.Stop.{Stop}
use Rattle.trace.specs.Records.{record_at}
use Rattle.trace.specs.Sizes.{version, most_bytes}

-- how a trace ends: with its bytes, or where reading stopped
pub data Ending : Type 0 where
  ends : Ending
  stops : Refusal → ℕ → Ending

pub record Traced : Type 0 where
  pub calls : List Call
  pub ending : Ending

abbrev pub stopped_at : Refusal → ℕ → Traced
stopped_at why at = record { calls = []; ending = stops why at }

abbrev pub followed : Call → Traced → Traced
followed c t = record { calls = c ∷ t.calls; ending = t.ending }

-- what is read after a record
abbrev pub and_on : (ℕ → Traced) → Result (value.Call × ℕ) Stop → Traced
and_on rest (Ok r) = followed (call_of r.0) (rest r.1)
and_on rest (Err stop) = stopped_at stop.why stop.at

-- the records from a place on, at most so many: each takes a byte or more, so that as many as there are bytes are all
unfoldable pub records_from : ℕ → List ℕ → ℕ → Traced
records_from zero bytes at = record { calls = []; ending = ends }
records_from (suc most) bytes at =
    when length bytes ≤? at then record { calls = []; ending = ends }
    else and_on (λ next. records_from most bytes next) (record_at bytes at)

-- where the records begin, after the version
abbrev pub version_of : ℕ → ℕ → Result ℕ Stop
version_of v next = when v =? version then Ok next else stopped Version 0

unfoldable pub head_of : List ℕ → Result ℕ Stop
head_of bytes = when most_bytes <? length bytes then stopped File 0 else (number_at bytes 0 most64 >>= λ v. version_of v.0 v.1)

abbrev pub from_head : List ℕ → Result ℕ Stop → Traced
from_head bytes (Ok at) = records_from (length bytes) bytes at
from_head bytes (Err stop) = stopped_at stop.why stop.at

unfoldable pub trace_in : List ℕ → Traced
trace_in bytes = from_head bytes (head_of bytes)
