-- `isqrt`.
--
-- "`isqrt`: largest r with r·r <= v, every u64".
use Rattle.std.specs.Prelude.{ℕ, zero, suc, ◌+◌, ◌*◌, ◌/◌, ◌≤◌, ◌<◌}
use Rattle.panel.specs.Tests.{when◌then◌else◌, ◌≤?◌}

-- r is the largest whose square is at most v: the next one's is over it. There is one such r, and `root_of` is it for
-- every v of 64 bits (`root_below`, `root-above`, `root-only` of proofs/Laws.antt).
pub record IsRoot (r v : ℕ) : Type 0 where
  pub below : r * r ≤ v
  pub above : v < (r + 1) * (r + 1)

-- It, worked out by pairs of binary digits, so that it computes. The next digit, where r is twice the root of v / 4:
unfoldable pub digit : ℕ → ℕ → ℕ
digit r v = when (r + 1) * (r + 1) ≤? v then r + 1 else r

-- the root of a v of n pairs of digits
unfoldable pub root_by : ℕ → ℕ → ℕ
root_by zero v = 0
root_by (suc n) v = digit (2 * root_by n (v / 4)) v

-- a u64 has 32 pairs
unfoldable pub root_of : ℕ → ℕ
root_of v = root_by 32 v
