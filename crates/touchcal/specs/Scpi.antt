-- `scpi_put` and `scpi_take`.
--
-- "`scpi_put` with HUGE is the exception: as in the Rust it clears what was pending. `scpi_take` gives it once; with
-- nothing pending it answers so, number 0." "`static mut PENDING` [becomes] a record by value": it is lent to both calls.
use Rattle.std.specs.Prelude.{Bool, true, false, Option, Some, None, Result, Ok, Err}
use Rattle.panel.specs.Tests.{when◌then◌else◌}
use Rattle.panel.specs.Refusals.{Told, answered, refused}
use Rattle.calmap.specs.declared.units.Cal.{Cal}
use Rattle.touchcal.specs.Floats.{identity, from_f32_of}
use Rattle.touchcal.specs.declared.floats.Coefs.{Coefs}
use Rattle.touchcal.specs.declared.scpi.Pending.{Pending}
use Rattle.panel.specs.declared.refusals.Refusal.{Refusal}

-- nothing pending
abbrev pub clear : Pending
clear = record { set = false; cal = identity }

-- what a call answers, and what is pending after it
pub record Put : Type 0 where
  pub answer : Result (Unit {0}) Refusal
  pub after : Pending

pub record Taken : Type 0 where
  pub answer : Option Cal
  pub after : Pending

abbrev pub kept : Result Cal Refusal → Put
kept (Ok c) = record { answer = Ok tt; after = record { set = true; cal = c } }
kept (Err r) = record { answer = Err r; after = clear }

-- whatever was pending
unfoldable pub put_of : Pending → Coefs → Put
put_of p v = kept (from_f32_of v)

abbrev pub taken : Option Cal → Pending → Taken
taken c p = record { answer = c; after = p }

unfoldable pub take_of : Pending → Taken
take_of p = when p.set then taken (Some p.cal) clear else taken None clear

-- the number, and what is pending after the call
abbrev pub told_by : Result (Unit {0}) Refusal → Pending → Told Pending
told_by (Ok u) p = answered p
told_by (Err r) p = refused r p

abbrev pub told_put : Put → Told Pending
told_put w = told_by w.answer w.after

-- what `scpi_take` gives: whether there was something, what it was, and what is pending after the call
pub record Gives : Type 0 where
  pub some : Bool
  pub cal : Cal
  pub after : Pending

abbrev pub gives : Option Cal → Pending → Gives
gives (Some c) p = record { some = true; cal = c; after = p }
gives None p = record { some = false; cal = identity; after = p }

abbrev pub told_take : Taken → Told Gives
told_take w = answered (gives w.answer w.after)
