-- The code's own steps: sums and differences that are in i32 or none, and what is made of them; how large a distance can be.
-- proofs/Chains.antt, Slight.antt and Bounds.antt have that they end where specs/Maps.antt, Screening.antt, Distances.antt
-- and Resids.antt say.
use Rattle.std.specs.Prelude.{ℕ, ◌-◌, Bool, ℤ, Option, Some, None, Result, Ok, Err}
use Rattle.std.specs.Int.Signed.{mag}
use Rattle.panel.specs.Sizes.{width, height}
use Rattle.panel.specs.Tests.{when◌then◌else◌, ◌and◌, ◌<?◌}
use Rattle.panel.specs.declared.points.Point.{Point}
use Rattle.calmap.specs.Maps.{line, line_fits, spot}
use Rattle.calmap.specs.Screening.{nudge, nudge_fits, moved}
use Rattle.calmap.specs.Units.{◌⊞◌, steps_fit, down_twelve, sixteenths_fit}
use Rattle.calmap.specs.Wide.{in16}
use Rattle.calmap.specs.declared.mapping.Spot.{Spot}
use Rattle.calmap.specs.declared.units.Cal.{Cal}
use Rattle.calmap.specs.declared.units.Q16.{Q16}
use Rattle.calmap.specs.declared.units.Sixteenths.{Sixteenths}
use Rattle.panel.specs.declared.refusals.Refusal.{Refusal}

unfoldable pub narrow_of : Q16 → Option Q16
narrow_of q = when steps_fit q then Some q else None

unfoldable pub across_of : Sixteenths → Option Sixteenths
across_of s = when sixteenths_fit s then Some s else None

unfoldable pub plus_of : Option Q16 → Option Q16 → Option Q16
plus_of (Some a) (Some b) = narrow_of (a ⊞ b)
plus_of (Some a) None = None
plus_of None b = None

unfoldable pub line_of : ℤ → Q16 → Q16 → Q16 → ℤ → ℤ → Option Q16
line_of v p q k x y = when line_fits v p q k x y then Some (line v p q k x y) else None

unfoldable pub nudge_of : Q16 → Q16 → Q16 → ℤ → ℤ → Option Q16
nudge_of p q k x y = when nudge_fits p q k x y then Some (nudge p q k x y) else None

-- when `apply16` answers, and what
unfoldable pub both_fit : Q16 → Q16 → Q16 → Q16 → Q16 → Q16 → ℤ → ℤ → Bool
both_fit a b c d e f x y = in16 x and in16 y and line_fits x a b c x y and line_fits y d e f x y

unfoldable pub map_fits : Cal → ℤ → ℤ → Bool
map_fits c x y = both_fit c.c0 c.c1 c.c2 c.c3 c.c4 c.c5 x y

unfoldable pub spot_of : Cal → ℤ → ℤ → Spot
spot_of c x y = spot (down_twelve (line x c.c0 c.c1 c.c2 x y)) (down_twelve (line y c.c3 c.c4 c.c5 x y))

-- Numbers so small that it always does: pixels, steps of a shift, and a calibration of such shifts and of scales and
-- cross terms in i16. Their ends:
abbrev pub near_end : ℕ
near_end = 8192

abbrev pub short_end : ℕ
short_end = 536870912

unfoldable pub few_pixels : ℤ → Bool
few_pixels v = mag v <? near_end

unfoldable pub few_steps : Q16 → Bool
few_steps q = mag q.0 <? short_end

unfoldable pub small : Q16 → Bool
small q = in16 q.0

unfoldable pub slight : Cal → Bool
slight c = small c.c0 and small c.c1 and small c.c3 and small c.c4 and few_steps c.c2 and few_steps c.c5

-- a point moved by two sums in Q16 steps
unfoldable pub placed_of : Point → Option Q16 → Option Q16 → Result Point Refusal
placed_of p (Some u) (Some v) = Ok (record { x = moved (width - 1) p.x u; y = moved (height - 1) p.y v })
placed_of p (Some u) None = Err Refusal.Wide
placed_of p None b = Err Refusal.Wide

-- The squared distance of a tap that lands within i32 from a target within i16 is at most this, 2^42, and in tenths at
-- most that: the bound by which 64 of them have a sum in u32.
abbrev pub farthest : ℕ
farthest = 4398046511104

abbrev pub farthest_tenths : ℕ
farthest_tenths = 1310720

-- a squared distance, 0 for none
abbrev pub square_in : Option ℕ → ℕ
square_in (Some d2) = d2
square_in None = 0
