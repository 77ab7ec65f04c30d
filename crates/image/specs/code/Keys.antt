-- The keys: their places, and what is read there. Each stands for itself, so that nothing is looked at.
use Rattle.std.specs.Prelude.{ℕ, ◌+◌, List}
use Rattle.fingers.specs.declared.keys.Keys.{Keys}
use Rattle.image.specs.code.Numbers.{number_at}
use Rattle.image.specs.code.Ended.{ended_end}

abbrev pub at_told : ℕ
at_told = ended_end

abbrev pub at_wanted : ℕ
at_wanted = at_told + 1

abbrev pub keys_end : ℕ
keys_end = at_wanted + 1

abbrev pub keys_at : List ℕ → Keys
keys_at area = record { told = number_at area at_told 1; wanted = number_at area at_wanted 1 }
