-- The masks key by key: what it is to be in one mask and not in another, and what a flipped bit leaves. A key is in a mask
-- where its bit is 1. Assumes nothing.
use Rattle.std.specs.Prelude.{None}
use mathlib.Core.Path.{◌≡◌, refl, subst, ◌∙◌, ap}
use mathlib.Core.Bool.{Bool, true, false}
use Prim.Native.Nat.{ℕ, zero, suc, ◌+◌, ◌-◌, ◌*◌, ◌/◌, ◌%◌, ◌^◌, ◌≤◌, ◌<◌, min}
use native.Mathlib.Omega.{arith}
use borrow.Author.Tests.{eq-eqb, ne_eqb}
use lib.Bits.{bit_and, bit_xor, differ, and_shr, xor_shr, and_step, xor_step}
use lib.Dec.{eqb, eqb→eq}
use Rattle.panel.specs.Tests.{when◌then◌else◌}
use Rattle.fingers.specs.Keys.{key_count, all_keys, without, flipped, key_step}
use Rattle.fingers.proofs.Bytes.{every, below}

abbrev pub bit_at : ℕ → ℕ → ℕ
bit_at mask key = mask / 2 ^ key % 2

-- the last bit of a number
last : (x b : ℕ) → b ≤ 1 → (x * 2 + b) % 2 ≡ b
last x b h = omega arith

turned : ℕ → ℕ → Bool
turned other key = eqb (bit_at (all_keys - other) key) (1 - bit_at other key)

abbrev every_key : ℕ → Bool
every_key other = every (turned other) key_count

-- a mask's complement has the other bit everywhere
complement : (other key : ℕ) → other < 256 → key < key_count → bit_at (all_keys - other) key ≡ 1 - bit_at other key
unfolding turned
complement other key ho hk = eqb→eq (bit_at (all_keys - other) key) (1 - bit_at other key) (below (turned other) key_count (below every_key 256 tt other ho) key hk)

and-bit : (a b key : ℕ) → bit_at (bit_and a b) key ≡ min (bit_at a key) (bit_at b key)
and-bit a b key =
    ap (λ (n : ℕ). n % 2) (and_shr a b key) ∙ ap (λ (n : ℕ). n % 2) (and_step (a / 2 ^ key) (b / 2 ^ key)) ∙ last _ (min (bit_at a key) (bit_at b key)) (omega arith)

-- a key is in one mask without another exactly if it is in the one and not in the other
pub without-bit : (mask other key : ℕ) → other < 256 → key < key_count → bit_at (without mask other) key ≡ min (bit_at mask key) (1 - bit_at other key)
unfolding without
without-bit mask other key ho hk = and-bit mask (all_keys - other) key ∙ ap (λ (n : ℕ). min (bit_at mask key) n) (complement other key ho hk)

-- A flipped bit.

differ-small : (x y : ℕ) → x ≤ 1 → y ≤ 1 → differ x y ≤ 1
differ-small zero y hx hy = hy
differ-small (suc zero) zero hx hy = hx
differ-small (suc zero) (suc zero) hx hy = omega arith
differ-small (suc zero) (suc (suc y)) hx hy = absurd (omega arith)
differ-small (suc (suc x)) y hx hy = absurd (omega arith)

xor-bit : (a b key : ℕ) → bit_at (bit_xor a b) key ≡ differ (bit_at a key) (bit_at b key)
xor-bit a b key =
    ap (λ (n : ℕ). n % 2) (xor_shr a b key) ∙ ap (λ (n : ℕ). n % 2) (xor_step (a / 2 ^ key) (b / 2 ^ key)) ∙ last (bit_xor (a / 2 ^ key / 2) (b / 2 ^ key / 2)) (differ (bit_at a key) (bit_at b key)) (differ-small (bit_at a key) (bit_at b key) (omega arith) (omega arith))

abbrev digit : Bool → ℕ
digit true = 1
digit false = 0

alone : ℕ → ℕ → Bool
alone key k = eqb (bit_at (2 ^ key) k) (digit (eqb k key))

abbrev every_place : ℕ → Bool
every_place key = every (alone key) key_count

power-bit : (key k : ℕ) → key < key_count → k < key_count → bit_at (2 ^ key) k ≡ digit (eqb k key)
unfolding alone
power-bit key k h hk = eqb→eq (bit_at (2 ^ key) k) (digit (eqb k key)) (below (alone key) key_count (below every_place key_count tt key h) k hk)

differ-one : (x : ℕ) → x ≤ 1 → differ x 1 ≡ 1 - x
differ-one zero h = refl
differ-one (suc zero) h = refl
differ-one (suc (suc x)) h = absurd (omega arith)

differ-zero : (x : ℕ) → differ x 0 ≡ x
differ-zero zero = refl
differ-zero (suc x) = refl

-- the key that is flipped is the other way after it
pub flipped-bit : (mask key : ℕ) → key < key_count → bit_at (flipped mask key) key ≡ 1 - bit_at mask key
unfolding flipped
flipped-bit mask key h =
    xor-bit mask (2 ^ key) key ∙ ap (λ (n : ℕ). differ (bit_at mask key) n) (power-bit key key h h ∙ ap digit (eq-eqb key key refl)) ∙ differ-one (bit_at mask key) (omega arith)

-- and no other key is
pub flipped-rest : (mask key k : ℕ) → key < key_count → k < key_count → (k ≡ key → ⊥) → bit_at (flipped mask key) k ≡ bit_at mask k
unfolding flipped
flipped-rest mask key k h hk other =
    xor-bit mask (2 ^ key) k ∙ ap (λ (n : ℕ). differ (bit_at mask k) n) (power-bit key k h hk ∙ ap digit (ne_eqb k key other)) ∙ differ-zero (bit_at mask k)

-- A mask lacks nothing that it has.

pub none-new : (mask : ℕ) → mask < 256 → without mask mask ≡ 0
unfolding without
none-new mask h = eqb→eq (without mask mask) 0 (below (λ (m : ℕ). eqb (without m m) 0) 256 tt mask h)

pub same-masks : (keys want : ℕ) → keys < 256 → keys ≡ want → key_step keys want ≡ None
unfolding key_step when◌then◌else◌
same-masks keys want h e = subst (λ (w : ℕ). key_step keys w ≡ None) e (rw (none-new keys h) refl)
