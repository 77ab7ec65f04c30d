-- `apply16`.
--
-- "`apply16`: x·65536 + c0·x + c1·y + c2, left to right in i32, then shift down by twelve places, toward minus infinity;
-- likewise y. WIDE if x or y is outside i16, or a product or partial sum leaves i32."
use Rattle.std.specs.Prelude.{Bool, ℤ, pos, Result, Ok, Err}
use Rattle.panel.specs.Refusals.{Told, answered, refused}
use Rattle.panel.specs.Tests.{when◌then◌else◌, ◌and◌}
use Rattle.panel.specs.declared.refusals.Refusal.TheVariants.{Wide}
use Rattle.calmap.specs.Units.{sixteenths, whole_steps, ◌·◌, ◌⊞◌, steps_fit, down_twelve}
use Rattle.calmap.specs.Wide.{in16}
use Rattle.calmap.specs.declared.mapping.Spot.{Spot}
use Rattle.calmap.specs.declared.units.Cal.{Cal}
use Rattle.calmap.specs.declared.units.Q16.{Q16}
use Rattle.calmap.specs.declared.units.Sixteenths.{Sixteenths}
use Rattle.panel.specs.declared.refusals.Refusal.{Refusal}

-- v·65536 + p·x + q·y + k
unfoldable pub line : ℤ → Q16 → Q16 → Q16 → ℤ → ℤ → Q16
line v p q k x y = whole_steps v ⊞ p · x ⊞ q · y ⊞ k

-- each of its products, and each partial sum from the left, is in i32
unfoldable pub line_fits : ℤ → Q16 → Q16 → Q16 → ℤ → ℤ → Bool
line_fits v p q k x y =
    steps_fit (whole_steps v) and steps_fit (p · x) and steps_fit (whole_steps v ⊞ p · x) and steps_fit (q · y)
    and steps_fit (whole_steps v ⊞ p · x ⊞ q · y) and steps_fit (line v p q k x y)

abbrev pub spot : Sixteenths → Sixteenths → Spot
spot u v = record { 0 = u; 1 = v }

unfoldable pub apply_of : Cal → ℤ → ℤ → Result Spot Refusal
apply_of c x y =
    when in16 x and in16 y and line_fits x c.c0 c.c1 c.c2 x y and line_fits y c.c3 c.c4 c.c5 x y
    then Ok (spot (down_twelve (line x c.c0 c.c1 c.c2 x y)) (down_twelve (line y c.c3 c.c4 c.c5 x y)))
    else Err Wide

abbrev pub told_apply : Result Spot Refusal → Told Spot
told_apply (Ok s) = answered s
told_apply (Err r) = refused r (spot (sixteenths (pos 0)) (sixteenths (pos 0)))
