-- The means and the sums of `fit`.
--
-- "`fit`: the Rust's operations in its order, each rounded once; its four means and seven sums form one record of floats."
use Rattle.std.specs.Prelude.{ℕ, List, length, pos}
use mathlib.Core.List.{foldl}
use Rattle.calmap.specs.declared.units.Tap.{Tap}
use Rattle.calmap.specs.declared.units.Aim.{Aim}
use Rattle.touchcal.specs.Binary32.{◌⊕◌, ◌⊖◌, ◌⊗◌, ◌⊘◌, float}
use Rattle.touchcal.specs.Sizes.{zero32}
use Rattle.touchcal.specs.declared.moments.Place.{Place}
use Rattle.touchcal.specs.declared.moments.Means.{Means}
use Rattle.touchcal.specs.declared.moments.Sums.{Sums}
use Rattle.touchcal.specs.declared.moments.Moments.{Moments}

unfoldable pub place_of : Tap → Place
place_of t = record { x = float t.x; y = float t.y }

-- the four totals, from the first pair to the last: x and y of the raw tap, u and v of its target
unfoldable pub add_pair : Means → Aim → Means
add_pair t p =
    let raw = place_of p.raw in
    let tgt = place_of p.tgt in
    record { mx = t.mx ⊕ raw.x; my = t.my ⊕ raw.y; mu = t.mu ⊕ tgt.x; mv = t.mv ⊕ tgt.y }

abbrev pub no_totals : Means
no_totals = record { mx = zero32; my = zero32; mu = zero32; mv = zero32 }

abbrev pub totals_of : List Aim → Means
totals_of ps = foldl add_pair no_totals ps

-- the means: the totals divided by how many pairs there are
unfoldable pub shared_of : Means → ℕ → Means
shared_of t n =
    let nf = float (pos n) in
    record { mx = t.mx ⊘ nf; my = t.my ⊘ nf; mu = t.mu ⊘ nf; mv = t.mv ⊘ nf }

abbrev pub means_of : List Aim → Means
means_of ps = shared_of (totals_of ps) (length ps)

-- the seven sums, of products of the distances from the means
unfoldable pub add_about : Means → Sums → Aim → Sums
add_about m s p =
    let x = (place_of p.raw).x ⊖ m.mx in
    let y = (place_of p.raw).y ⊖ m.my in
    let u = (place_of p.tgt).x ⊖ m.mu in
    let v = (place_of p.tgt).y ⊖ m.mv in
    record {
      sxx = s.sxx ⊕ x ⊗ x;
      sxy = s.sxy ⊕ x ⊗ y;
      syy = s.syy ⊕ y ⊗ y;
      sxu = s.sxu ⊕ x ⊗ u;
      syu = s.syu ⊕ y ⊗ u;
      sxv = s.sxv ⊕ x ⊗ v;
      syv = s.syv ⊕ y ⊗ v;
    }

abbrev pub no_sums : Sums
no_sums = record { sxx = zero32; sxy = zero32; syy = zero32; sxu = zero32; syu = zero32; sxv = zero32; syv = zero32 }

abbrev pub sums_of : Means → List Aim → Sums
sums_of m ps = foldl (add_about m) no_sums ps

unfoldable pub moments_of : List Aim → Moments
moments_of ps = record { means = means_of ps; sums = sums_of (means_of ps) ps }
