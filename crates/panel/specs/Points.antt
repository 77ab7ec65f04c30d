-- Points on the panel, and the first of a count.
--
-- "a point in use is off x 0..479, y 0..319". "A count over 5 means 5." "`centroid` takes a count and five points, uses
-- the first n".
use Rattle.std.specs.Prelude.{ℕ, min, Bool, true, List, [], ◌∷◌, take}
use Rattle.panel.specs.Sizes.{width, height, max_points}
use Rattle.panel.specs.Tests.{◌and◌, ◌<?◌}
use Rattle.panel.specs.declared.points.Point.{Point}

unfoldable pub on_panel : Point → Bool
on_panel p = (p.x <? width) and (p.y <? height)

unfoldable pub all_on_panel : List Point → Bool
all_on_panel [] = true
all_on_panel (p ∷ ps) = on_panel p and all_on_panel ps

-- how many fingers a count means
unfoldable pub fingers : ℕ → ℕ
fingers count = min count max_points

abbrev pub first_points : ℕ → List Point → List Point
first_points count pts = take (fingers count) pts
