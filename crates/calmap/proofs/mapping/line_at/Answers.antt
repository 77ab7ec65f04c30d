-- `calmap::mapping::line_at` meets its contract. Assumes nothing.
use mathlib.Core.Path.{◌≡◌}
use mathlib.Core.Bool.{true}
use lib.IntN.{ℤ}
use Rattle.calmap.specs.Maps.{line, line_fits}
use Rattle.calmap.specs.declared.units.Q16.{Q16}
use Rattle.calmap.proofs.Signed.{plain}
use Rattle.calmap.proofs.Slight.{Fits, apart}
use Rattle.calmap.proofs.mapping.line_at.Goals as goal

known : {v : ℤ} {p q k : Q16} {x y : ℤ} → line_fits v p q k x y ≡ true → Fits v p q k x y
known h = apart _ _ _ _ _ _ h

pub whole_at-requires : goal.whole_at-requires
whole_at-requires c = simp (plain c.ranges.v) (known c.requires).whole

pub scaled_at-requires : goal.scaled_at-requires
scaled_at-requires c = simp (plain c.ranges.x) (known c.requires).part

pub sum_at-a-requires : goal.sum_at-a-requires
sum_at-a-requires c = simp (c.whole_at.ensures, c.scaled_at.ensures, plain c.ranges.v, plain c.ranges.x) (known c.requires).both

pub scaled_at-requires-2 : goal.scaled_at-requires-2
scaled_at-requires-2 c = simp (plain c.ranges.y) (known c.requires).other

pub sum_at-b-requires : goal.sum_at-b-requires
sum_at-b-requires c =
    simp (c.sum_at-a.ensures, c.whole_at.ensures, c.scaled_at.ensures, c.scaled_at-2.ensures, plain c.ranges.v, plain c.ranges.x, plain c.ranges.y) (known c.requires).three

pub sum_at-requires : goal.sum_at-requires
sum_at-requires c =
    simp (c.sum_at-b.ensures, c.sum_at-a.ensures, c.whole_at.ensures, c.scaled_at.ensures, c.scaled_at-2.ensures, plain c.ranges.v, plain c.ranges.x, plain c.ranges.y)
    (known c.requires).all

pub returns : goal.returns
unfolding line
returns c =
    simp (c.sum_at.ensures, c.sum_at-b.ensures, c.sum_at-a.ensures, c.whole_at.ensures, c.scaled_at.ensures, c.scaled_at-2.ensures, plain c.ranges.v, plain c.ranges.x, plain c.ranges.y)
