-- The tests of a list of targets, as the library asks them of each. Assumes nothing.
use mathlib.Core.Path.{◌≡◌, refl, ap, ◌∙◌}
use mathlib.Core.Bool.{Bool}
use mathlib.Core.List.{List, [], ◌∷◌}
use Rattle.std.specs.List.{list_all}
use Rattle.panel.proofs.Follow.{both}
use Rattle.panel.specs.Tests.{◌and◌}
use Rattle.panel.specs.declared.points.Point.{Point}
use Rattle.calmap.specs.Checks.{stays, all_stay}
use Rattle.calmap.specs.declared.units.Cal.{Cal}

pub each-stays : (c : Cal) (ps : List Point) → list_all (stays c) ps ≡ all_stay c ps
unfolding all_stay
each-stays c [] = refl
each-stays c (p ∷ ps) = both _ _ ∙ ap (λ (b : Bool). ◌and◌ (stays c p) b) (each-stays c ps)
