-- The words that every definition of this house is written in: a choice by a test, tests joined, and tests of two
-- numbers; and a truth as a number. The choice and the joins stay shut (`unfoldable`): proofs follow them by the laws of proofs/Follow.antt.
use Rattle.std.specs.Prelude.{ℕ, Bool, true, false, leb, ltb, eqb}

infixr 10 when◌then◌else◌
infixr 20 ◌or◌
infixr 30 ◌and◌
infix 40 ◌≤?◌
infix 40 ◌<?◌
infix 40 ◌=?◌
unfoldable pub when◌then◌else◌ : {A : Type 0} → Bool → A → A → A
when◌then◌else◌ true a b = a
when◌then◌else◌ false a b = b

unfoldable pub ◌and◌ : Bool → Bool → Bool
◌and◌ true b = b
◌and◌ false b = false

unfoldable pub ◌or◌ : Bool → Bool → Bool
◌or◌ true b = true
◌or◌ false b = b

abbrev pub ◌≤?◌ : ℕ → ℕ → Bool
◌≤?◌ a b = leb a b

abbrev pub ◌<?◌ : ℕ → ℕ → Bool
◌<?◌ a b = ltb a b

abbrev pub ◌=?◌ : ℕ → ℕ → Bool
◌=?◌ a b = eqb a b

-- a truth as a number: "truth 1 or 0"
unfoldable pub bit : Bool → ℕ
bit true = 1
bit false = 0
