-- `screen`.
--
-- "`screen` (u16 input): k0·x + k1·y + k2 + 32768, same rule, down sixteen, added, clamped to the panel."
--
-- The sum that is added to a coordinate needs no test: `moved-in32` of proofs/Laws.antt says that it is always in i32.
use Rattle.std.specs.Prelude.{ℕ, ◌-◌, min, Bool, ℤ, pos, negsuc, ◌+ℤ◌, Result, Ok, Err}
use Rattle.panel.specs.Refusals.{Told, answered, refused}
use Rattle.panel.specs.Sizes.{width, height}
use Rattle.panel.specs.Tests.{when◌then◌else◌, ◌and◌}
use Rattle.panel.specs.declared.points.Point.{Point}
use Rattle.panel.specs.declared.refusals.Refusal.TheVariants.{Wide}
use Rattle.calmap.specs.Sizes.{half}
use Rattle.calmap.specs.Units.{◌·◌, ◌⊞◌, steps_fit, down_sixteen}
use Rattle.calmap.specs.declared.units.Cal.{Cal}
use Rattle.calmap.specs.declared.units.Q16.{Q16}
use Rattle.panel.specs.declared.refusals.Refusal.{Refusal}

-- p·x + q·y + k + 32768
unfoldable pub nudge : Q16 → Q16 → Q16 → ℤ → ℤ → Q16
nudge p q k x y = p · x ⊞ q · y ⊞ k ⊞ half

-- each of its products, and each partial sum from the left, is in i32
unfoldable pub nudge_fits : Q16 → Q16 → Q16 → ℤ → ℤ → Bool
nudge_fits p q k x y =
    steps_fit (p · x) and steps_fit (q · y) and steps_fit (p · x ⊞ q · y)
    and steps_fit (p · x ⊞ q · y ⊞ k) and steps_fit (nudge p q k x y)

-- held to 0..last
abbrev pub clamp : ℕ → ℤ → ℕ
clamp last (pos n) = min n last
clamp last (negsuc n) = 0

-- a coordinate moved by so many steps
unfoldable pub moved : ℕ → ℕ → Q16 → ℕ
moved last v s = clamp last (pos v +ℤ down_sixteen s)

unfoldable pub screen_of : Cal → Point → Result Point Refusal
screen_of c p =
    let x = pos p.x in
    let y = pos p.y in
    when nudge_fits c.c0 c.c1 c.c2 x y and nudge_fits c.c3 c.c4 c.c5 x y
    then Ok (record { x = moved (width - 1) p.x (nudge c.c0 c.c1 c.c2 x y); y = moved (height - 1) p.y (nudge c.c3 c.c4 c.c5 x y) })
    else Err Wide

abbrev pub told_screen : Result Point Refusal → Told Point
told_screen (Ok p) = answered p
told_screen (Err r) = refused r (record { x = 0; y = 0 })
