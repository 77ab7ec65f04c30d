-- A number is read group by group as it stands in the bytes, and capped before a product could pass 64 bits.
use Rattle.std.specs.Prelude.{ℕ, zero, suc, ◌+◌, ◌-◌, ◌*◌, List, [], ◌∷◌, Result, Ok, Err}
use Rattle.panel.specs.Tests.{when◌then◌else◌, ◌≤?◌, ◌<?◌, ◌=?◌}
use Rattle.panel.specs.declared.refusals.Refusal.{Refusal}
use Rattle.panel.specs.declared.refusals.Refusal.TheVariants.{Cut, Form, Big}
use Rattle.numbers.specs.Numbers.{◌>>=◌, read, stopped}
use Rattle.numbers.specs.Sizes.{group}
use Rattle.numbers.specs.declared.reading.Fault.{Fault}
use Rattle.numbers.specs.declared.reading.Fault.TheVariants.{Early, Needless, Large}
use Rattle.numbers.specs.declared.reading.Stop.{Stop}

-- a rest of this size and the group in front of it pass 64 bits: 2 ^ 57
abbrev pub rest_end : ℕ
rest_end = 144_115_188_075_855_872

unfoldable pub with_group : ℕ → ℕ → Result ℕ Fault
with_group b rest =
    when rest =? 0 then Err Needless
    else when rest <? rest_end then Ok (b - group + group * rest)
    else Err Large

-- the groups of a rest, with one in front
abbrev pub after_group : ℕ → Result (ℕ × ℕ) Fault → Result (ℕ × ℕ) Fault
after_group b read_rest = do
  rest ← read_rest
  v ← with_group b rest.0
  Ok (v, rest.1)

-- the groups at the front of the bytes, which begin at a place
unfoldable pub groups_at : ℕ → List ℕ → ℕ → Result (ℕ × ℕ) Fault
groups_at zero bytes at = Err Large
groups_at (suc left) [] at = Err Early
groups_at (suc left) (b ∷ bytes) at = when b <? group then Ok (b, at + 1) else after_group b (groups_at left bytes (at + 1))

abbrev pub refusal_of : Fault → Refusal
refusal_of Early = Cut
refusal_of Needless = Form
refusal_of Large = Big

unfoldable pub within : ℕ → ℕ → ℕ × ℕ → Result (ℕ × ℕ) Stop
within at most r = when r.0 ≤? most then read r.0 r.1 else stopped Big at

abbrev pub judged_as : ℕ → ℕ → Result (ℕ × ℕ) Fault → Result (ℕ × ℕ) Stop
judged_as at most (Ok r) = within at most r
judged_as at most (Err fault) = stopped (refusal_of fault) at
