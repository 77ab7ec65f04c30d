-- Where the text goes: into room that the caller lends.
--
-- "14 ROOM: .. longer than the room lent". The room asked for is that of the longest line for each byte of the trace, as
-- a record has one byte or more, and for the last line.
use Rattle.std.specs.Prelude.{ℕ, suc, ◌*◌, List, ◌++◌, length, drop, Result, Ok, Err}
use Rattle.panel.specs.Refusals.{Told, answered, refused}
use Rattle.panel.specs.Tests.{when◌then◌else◌, ◌≤?◌}
use Rattle.panel.specs.declared.refusals.Refusal.TheVariants.{Room}
use Rattle.text.specs.Sizes.{line_most}
use Rattle.text.specs.Texts.{text_of}
use Rattle.panel.specs.declared.refusals.Refusal.{Refusal}

abbrev pub room_for : List ℕ → ℕ
room_for bytes = line_most * suc (length bytes)

-- how long the text is, and the room after that: the text, and behind it what was there
unfoldable pub played_of : List ℕ → List ℕ → Result ℕ Refusal
played_of bytes room = when room_for bytes ≤? length room then Ok (length (text_of bytes)) else Err Room

unfoldable pub left_of : List ℕ → List ℕ → List ℕ
left_of bytes room = when room_for bytes ≤? length room then text_of bytes ++ drop (length (text_of bytes)) room else room

abbrev pub told_played : Result ℕ Refusal → Told ℕ
told_played (Ok length) = answered length
told_played (Err r) = refused r 0
