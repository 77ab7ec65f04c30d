-- `dist` and `dist2`.
--
-- "far is the largest max(|dx|,|dy|)" of the touch: that is `dist`. "keep the order if its squared travel is not larger":
-- that is `dist2`. "Geometry calls answer PANEL for a point off the panel".
use Rattle.std.specs.Prelude.{ℕ, ◌+◌, ◌-◌, ◌*◌, max, Result, Ok, Err}
use Rattle.panel.specs.Points.{on_panel}
use Rattle.panel.specs.Refusals.{Told, answered, refused}
use Rattle.panel.specs.Tests.{when◌then◌else◌, ◌and◌}
use Rattle.panel.specs.declared.points.Point.{Point}
use Rattle.panel.specs.declared.refusals.Refusal.TheVariants.{Panel}
use Rattle.panel.specs.declared.refusals.Refusal.{Refusal}

-- |a - b|: on ℕ a difference stops at 0, so that one of the two parts is 0
unfoldable pub difference : ℕ → ℕ → ℕ
difference a b = (a - b) + (b - a)

unfoldable pub distance : Point → Point → ℕ
distance p q = max (difference p.x q.x) (difference p.y q.y)

unfoldable pub distance2 : Point → Point → ℕ
distance2 p q =
    let dx = difference p.x q.x in
    let dy = difference p.y q.y in
    dx * dx + dy * dy

unfoldable pub dist_of : Point → Point → Result ℕ Refusal
dist_of p q = when on_panel p and on_panel q then Ok (distance p q) else Err Panel

unfoldable pub dist2_of : Point → Point → Result ℕ Refusal
dist2_of p q = when on_panel p and on_panel q then Ok (distance2 p q) else Err Panel

abbrev pub told_dist : Result ℕ Refusal → Told ℕ
told_dist (Ok d) = answered d
told_dist (Err r) = refused r 0
