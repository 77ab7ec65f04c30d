-- `centroid`.
--
-- "Centroid: sums divided by n, rounded down." "`centroid` takes a count and five points, uses the first n, (0,0) for
-- none". "Geometry calls answer PANEL for a point off the panel".
use Rattle.std.specs.Prelude.{ℕ, ◌+◌, ◌/◌, List, [], ◌∷◌, map, length, Result, Ok, Err}
use Rattle.panel.specs.Points.{all_on_panel, first_points}
use Rattle.panel.specs.Refusals.{Told, answered, refused}
use Rattle.panel.specs.Tests.{when◌then◌else◌}
use Rattle.panel.specs.declared.points.Point.{Point}
use Rattle.panel.specs.declared.refusals.Refusal.TheVariants.{Panel}
use Rattle.panel.specs.declared.refusals.Refusal.{Refusal}

abbrev pub xs : List Point → List ℕ
xs ps = map (λ p. p.x) ps

abbrev pub ys : List Point → List ℕ
ys ps = map (λ p. p.y) ps

unfoldable pub total : List ℕ → ℕ
total [] = 0
total (n ∷ ns) = n + total ns

-- rounded down; 0 for none
unfoldable pub mean : List ℕ → ℕ
mean [] = 0
mean (n ∷ ns) = total (n ∷ ns) / length (n ∷ ns)

unfoldable pub middle : List Point → Point
middle ps = record { x = mean (xs ps); y = mean (ys ps) }

unfoldable pub centroid_of : ℕ → List Point → Result Point Refusal
centroid_of count pts =
    let used = first_points count pts in
    when all_on_panel used then Ok (middle used) else Err Panel

abbrev pub told_centroid : Result Point Refusal → Told Point
told_centroid (Ok p) = answered p
told_centroid (Err r) = refused r (record { x = 0; y = 0 })
