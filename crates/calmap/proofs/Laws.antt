-- The laws that callers cite in place of the definitions' text: the root is the largest whose square is at most v; the
-- tenths are the largest t with (16t) squared at most 100 times d2; the shift rounds toward minus infinity; what `screen`
-- adds up is always in i32; where a point lands. Assumes nothing.
use Rattle.std.specs.Prelude.{Ok}
use Prim.Native.Nat.{ℕ, ◌+◌, ◌*◌, ◌^◌, ◌≤◌, ◌<◌}
use mathlib.Core.Path.{◌≡◌}
use mathlib.Core.Bool.{true}
use lib.IntN.{ℤ, pos, ◌+ℤ◌, ◌*ℤ◌}
use lib.Signed.{◌≤ℤ◌, ◌<ℤ◌}
use borrow.Author.Tests.{ltb-true}
use Rattle.calmap.specs.Distances.{square, tenths_of}
use Rattle.calmap.specs.Maps.{apply_of}
use Rattle.calmap.specs.Roots.{root_of}
use Rattle.calmap.specs.Sizes.{sixteenths_in, hundred}
use Rattle.calmap.specs.Units.{steps_fit, down_sixteen}
use Rattle.calmap.specs.Wide.{in32, down}
use Rattle.calmap.specs.declared.mapping.Spot.{Spot}
use Rattle.calmap.specs.declared.units.Cal.{Cal}
use Rattle.calmap.specs.declared.units.Q16.{Q16}
use Rattle.calmap.specs.declared.units.Tenths.{Tenths}
use Rattle.calmap.proofs.Bounds as Bounds
use Rattle.calmap.proofs.Floors as Floors
use Rattle.calmap.proofs.Rooted as Rooted
use Rattle.calmap.proofs.Signed.{in32-yes}
use Rattle.calmap.proofs.Telling as Telling

-- Squares.

pub square_le : {a b : ℕ} → a ≤ b → square a ≤ square b
square_le h = Rooted.square_le h

pub square-next : (r : ℕ) → square r < square (r + 1)
square-next r = Rooted.square-next r

pub square-times : (k r : ℕ) → square (k * r) ≡ square k * square r
square-times k r = Rooted.square-times k r

-- The root.

module _ (v : ℕ) (h : v < 2 ^ 64) where
  pub root_below : root_of v * root_of v ≤ v
  root_below = (Rooted.root_is v h).below

  pub root-above : v < (root_of v + 1) * (root_of v + 1)
  root-above = (Rooted.root_is v h).above

  pub root-only : (r : ℕ) → r * r ≤ v → v < (r + 1) * (r + 1) → r ≡ root_of v
  root-only r lo hi = Rooted.one-root {v = v} (record { below = lo; above = hi }) (Rooted.root_is v h)

  -- of what is at most a square, the root is at most its side
  pub root-at-most : (r : ℕ) → v ≤ r * r → root_of v ≤ r
  root-at-most r l = Rooted.root-at-most v h r l

  pub root-fits : root_of v < 2 ^ 32
  root-fits = Rooted.root-below-end v h

-- The tenths.

module _ (d2 : ℕ) (h : d2 < 2 ^ 64) where
  pub tenths-below : square (sixteenths_in * (tenths_of d2).0) ≤ hundred * d2
  tenths-below = (Telling.tenths-are d2 h).below

  pub tenths-above : hundred * d2 < square (sixteenths_in * ((tenths_of d2).0 + 1))
  tenths-above = (Telling.tenths-are d2 h).above

  pub tenths-only : (t : Tenths) → square (sixteenths_in * t.0) ≤ hundred * d2 → hundred * d2 < square (sixteenths_in * (t.0 + 1)) → t ≡ tenths_of d2
  tenths-only t lo hi = Telling.one-tenths {d2 = d2} (record { below = lo; above = hi }) (Telling.tenths-are d2 h)

  pub tenths-at-least : (t : ℕ) → square (sixteenths_in * t) ≤ hundred * d2 → t ≤ (tenths_of d2).0
  tenths-at-least t lo = Telling.tenths-at-least d2 h t lo

  pub tenths-at-most : (t : ℕ) → hundred * d2 < square (sixteenths_in * (t + 1)) → (tenths_of d2).0 ≤ t
  tenths-at-most t over = Telling.tenths-at-most d2 h t over

-- The shift: with m for 2 ^ places and q for what is left, m·q ≤ z < m·(q + 1).

pub down-below : (places : ℕ) (z : ℤ) → (pos (2 ^ places) *ℤ down places z) ≤ℤ z
down-below places z = Floors.down-below places z

pub down-above : (places : ℕ) (z : ℤ) → z <ℤ (pos (2 ^ places) *ℤ (down places z +ℤ pos 1))
down-above places z = Floors.down-above places z

-- `screen` adds to a coordinate of 16 bits what is left of an i32, shifted down sixteen: that is in i32, so there is no
-- third way to be WIDE.
pub moved-in32 : (v : ℕ) (s : Q16) → v < 65536 → steps_fit s ≡ true → in32 (pos v +ℤ down_sixteen s) ≡ true
unfolding in32
moved-in32 v s hv hs = in32-yes (pos v +ℤ down_sixteen s) (Floors.moved-fits v s hv (ltb-true _ _ hs))

-- Where a point lands: within 19 bits each way. So the distances of `resid` fit, and so does a target's shift in `check`.
pub lands : (c : Cal) (x y : ℤ) (s : Spot) → apply_of c x y ≡ Ok s → Bounds.Lands s
lands c x y s e = Bounds.applied-size c x y s e
