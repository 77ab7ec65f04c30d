-- Writing numbers.
--
-- "14 ROOM: writer's record longer than the room lent". "The writer alters no other byte."
use Rattle.std.specs.Prelude.{ℕ, ◌+◌, List, ◌++◌, length, take, drop, Result, Ok, Err}
use Rattle.panel.specs.Refusals.{Told, answered, refused}
use Rattle.panel.specs.Tests.{when◌then◌else◌, ◌≤?◌}
use Rattle.panel.specs.declared.refusals.Refusal.TheVariants.{Room}
use Rattle.panel.specs.declared.refusals.Refusal.{Refusal}

-- some bytes at a place of the room lent: where they end, and the room after that
unfoldable pub wrote_of : List ℕ → ℕ → List ℕ → Result ℕ Refusal
wrote_of room at bytes = when at + length bytes ≤? length room then Ok (at + length bytes) else Err Room

unfoldable pub written_of : List ℕ → ℕ → List ℕ → List ℕ
written_of room at bytes =
    when at + length bytes ≤? length room then take at room ++ bytes ++ drop (at + length bytes) room
    else room

abbrev pub told_write : Result ℕ Refusal → Told ℕ
told_write (Ok to) = answered to
told_write (Err r) = refused r 0
