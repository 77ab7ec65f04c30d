-- `q16`, `to_f32` and `from_f32`.
--
-- "`q16`: s = v·65536 strictly between ±2.0e9; s + 0.5 or (s < 0) s - 0.5 in f32, cut toward zero. `to_f32`: c in f32
-- (nearest, ties to even), / 65536, + 1 for a and e, + 0 else; `from_f32` takes that off, then `q16`." "7 HUGE: Rust
-- `from_f32`, or `q16` by itself, answers `None`".
use Rattle.std.specs.Prelude.{Bool, ℤ, pos, Float, Result, Ok, Err}
use Rattle.panel.specs.Tests.{when◌then◌else◌, ◌and◌}
use Rattle.panel.specs.Refusals.{Told, answered, refused}
use Rattle.panel.specs.declared.refusals.Refusal.TheVariants.{Huge}
use Rattle.calmap.specs.declared.units.Q16.{Q16}
use Rattle.calmap.specs.declared.units.Cal.{Cal}
use Rattle.touchcal.specs.Binary32.{◌⊕◌, ◌⊖◌, ◌⊗◌, ◌⊘◌, ◌⊲◌, float, cut}
use Rattle.touchcal.specs.Sizes.{zero32, half32, one32, scale32, most32, least32}
use Rattle.touchcal.specs.declared.floats.Coefs.{Coefs}
use Rattle.panel.specs.declared.refusals.Refusal.{Refusal}

-- "s = v·65536 strictly between ±2.0e9": no NaN is
unfoldable pub in_reach : Float → Bool
in_reach v = (least32 ⊲ v ⊗ scale32) and (v ⊗ scale32 ⊲ most32)

-- "s + 0.5 or (s < 0) s - 0.5 in f32"
unfoldable pub half_away : Float → Float
half_away s = when s ⊲ zero32 then s ⊖ half32 else s ⊕ half32

unfoldable pub nearest_step : Float → Q16
nearest_step v = record { 0 = cut (half_away (v ⊗ scale32)) }

unfoldable pub q16_of : Float → Result Q16 Refusal
q16_of v = when in_reach v then Ok (nearest_step v) else Err Huge

abbrev pub told_q16 : Result Q16 Refusal → Told Q16
told_q16 (Ok q) = answered q
told_q16 (Err r) = refused r (record { 0 = pos 0 })

-- steps as a number, where the identity has `base`
unfoldable pub out_of : Float → ℤ → Float
out_of base c = float c ⊘ scale32 ⊕ base

unfoldable pub to_f32_of : Cal → Coefs
to_f32_of c = record {
  a = out_of one32 c.c0.0;
  b = out_of zero32 c.c1.0;
  c = out_of zero32 c.c2.0;
  d = out_of zero32 c.c3.0;
  e = out_of one32 c.c4.0;
  f = out_of zero32 c.c5.0;
}

unfoldable pub off_identity : Coefs → Coefs
off_identity v = record {
  a = v.a ⊖ one32;
  b = v.b ⊖ zero32;
  c = v.c ⊖ zero32;
  d = v.d ⊖ zero32;
  e = v.e ⊖ one32;
  f = v.f ⊖ zero32;
}

-- what becomes of steps, where there are any
unfoldable pub in_steps : Result Q16 Refusal → (Q16 → Result Cal Refusal) → Result Cal Refusal
in_steps (Ok q) next = next q
in_steps (Err r) next = Err Huge

-- differences from the identity in steps: each by `q16`, a to f
unfoldable pub steps_of : Coefs → Result Cal Refusal
steps_of v =
    in_steps (q16_of v.a) (λ c0.
    in_steps (q16_of v.b) (λ c1.
    in_steps (q16_of v.c) (λ c2.
    in_steps (q16_of v.d) (λ c3.
    in_steps (q16_of v.e) (λ c4.
    in_steps (q16_of v.f) (λ c5.
    Ok (record { c0 = c0; c1 = c1; c2 = c2; c3 = c3; c4 = c4; c5 = c5 })))))))

unfoldable pub from_f32_of : Coefs → Result Cal Refusal
from_f32_of v = steps_of (off_identity v)

-- no calibration
abbrev pub identity : Cal
identity =
    let none : Q16 = record { 0 = pos 0 } in
    record { c0 = none; c1 = none; c2 = none; c3 = none; c4 = none; c5 = none }

abbrev pub told_cal : Result Cal Refusal → Told Cal
told_cal (Ok c) = answered c
told_cal (Err r) = refused r identity
