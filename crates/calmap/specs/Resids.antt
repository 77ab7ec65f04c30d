-- `resid`.
--
-- "`resid`: mean (down) and max over the shorter length; (0,0) if none." "LONG: over 64 pairs in use". Order: "LONG, WIDE
-- in `resid`". The distances are told in tenths by the rule of `dist10`; a mean is that of tenths.
use Rattle.std.specs.Prelude.{ℕ, List, [], ◌∷◌, map, length, take, Option, Some, None, Result, Ok, Err}
use Rattle.panel.specs.Refusals.{Told, answered, refused}
use Rattle.panel.specs.Tests.{when◌then◌else◌, ◌<?◌}
use Rattle.calmap.specs.Distances.{gap_of, Rule, tenths_of}
use Rattle.calmap.specs.Maps.{apply_of}
use Rattle.calmap.specs.Sizes.{longest}
use Rattle.calmap.specs.Units.{tenths, in_sixteenths, together_of, share_of, farther_of}
use Rattle.calmap.specs.declared.residuals.Spread.{Spread}
use Rattle.calmap.specs.declared.units.Aim.{Aim}
use Rattle.calmap.specs.declared.units.Cal.{Cal}
use Rattle.calmap.specs.declared.units.Tap.{Tap}
use Rattle.calmap.specs.declared.units.Tenths.{Tenths}
use Rattle.panel.specs.declared.refusals.Refusal.{Refusal}
use Rattle.calmap.specs.declared.mapping.Spot.{Spot}

-- raw taps and their targets, to the shorter length
unfoldable pub pairs_of : List Tap → List Tap → List Aim
pairs_of [] ts = []
pairs_of (r ∷ rs) [] = []
pairs_of (r ∷ rs) (t ∷ ts) = record { raw = r; tgt = t } ∷ pairs_of rs ts

-- from where a tap lands to its target
abbrev pub far_off : Result Spot Refusal → Tap → Option ℕ
far_off (Ok s) t = gap_of s.0 s.1 (in_sixteenths t.x) (in_sixteenths t.y)
far_off (Err r) t = None

unfoldable pub miss_of : Cal → Aim → Option ℕ
miss_of c p = far_off (apply_of c p.raw.x p.raw.y) p.tgt

-- the squared distances of some taps, if each has one
pub data Misses : Type 0 where
  known : List ℕ → Misses
  wide : Misses

abbrev pub besides : Option ℕ → Misses → Misses
besides (Some d2) (known ds) = known (d2 ∷ ds)
besides (Some d2) wide = wide
besides None ms = wide

unfoldable pub misses_of : Cal → List Aim → Misses
misses_of c [] = known []
misses_of c (p ∷ ps) = besides (miss_of c p) (misses_of c ps)

-- tenths added up; their mean, rounded down; and the largest. Each is 0 for none
unfoldable pub sum_of : List Tenths → Tenths
sum_of [] = tenths 0
sum_of (d ∷ ds) = together_of d (sum_of ds)

unfoldable pub mean_of : List Tenths → Tenths
mean_of [] = tenths 0
mean_of (d ∷ ds) = share_of (sum_of (d ∷ ds)) (length (d ∷ ds))

unfoldable pub largest : List Tenths → Tenths
largest [] = tenths 0
largest (d ∷ ds) = farther_of d (largest ds)

abbrev pub spread : Tenths → Tenths → Spread
spread m l = record { mean = m; max = l }

-- by a rule of tenths
abbrev pub spread_by : Rule → Misses → Result Spread Refusal
spread_by rule (known ds) = Ok (spread (mean_of (map rule ds)) (largest (map rule ds)))
spread_by rule wide = Err Refusal.Wide

unfoldable pub resid_by : Rule → Cal → List Aim → Result Spread Refusal
resid_by rule c ps = when longest <? length ps then Err Refusal.Long else spread_by rule (misses_of c ps)

-- the first n of an array that holds 64
unfoldable pub resid_first_by : Rule → Cal → ℕ → List Aim → Result Spread Refusal
resid_first_by rule c n ps = when longest <? n then Err Refusal.Long else resid_by rule c (take n ps)

-- by the rule of the calls
abbrev pub resid_of : Cal → List Aim → Result Spread Refusal
resid_of = resid_by tenths_of

abbrev pub resid_first : Cal → ℕ → List Aim → Result Spread Refusal
resid_first = resid_first_by tenths_of

abbrev pub told_resid : Result Spread Refusal → Told Spread
told_resid (Ok s) = answered s
told_resid (Err r) = refused r (spread (tenths 0) (tenths 0))
