-- "The tracker record": the state rule.
--
-- "Rules: held points and centroids on the panel; far and span0 0..479; pair state 0..2; most fingers 2..5; grab at most
-- 5000. Active exactly if one of down, multi, residual is there, never two. A pair needs multi; raw needs captured."
--
-- By type, so that no test stands for it: active exactly if one of down, multi, residual is there, never two (a `Touch` is
-- one of Idle, Down, Multi, Residual); a pair needs multi (it stands inside it).
use Rattle.std.specs.Prelude.{Bool, true, not, List, [], ◌∷◌, Some, None}
use Rattle.panel.specs.Tests.{◌and◌, ◌or◌, ◌≤?◌, ◌<?◌}
use Rattle.panel.specs.Sizes.{width, max_points}
use Rattle.panel.specs.Points.{all_on_panel}
use Rattle.panel.specs.declared.points.Point.{Point}
use Rattle.fingers.specs.Thresholds.{grab_most, fewest}
use Rattle.fingers.specs.Pairs.{no_pinch}
use Rattle.fingers.specs.declared.one.App.{App}
use Rattle.gesture.specs.declared.record.Touch.{Touch}
use Rattle.gesture.specs.declared.record.Touch.TheVariants.{Idle, Down, Multi, Residual}
use Rattle.gesture.specs.declared.record.Tracker.{Tracker}

-- where a finger went down, and the fingers of a pair; the last point is held in the fields of the touch
unfoldable pub held_points : Touch → List Point
held_points Idle = []
held_points (Down start since) = start ∷ []
held_points (Multi m None) = []
held_points (Multi m (Some r)) = r.a ∷ r.b ∷ []
held_points Residual = []

unfoldable pub centroids : Touch → List Point
centroids Idle = []
centroids (Down start since) = []
centroids (Multi m None) = m.c0 ∷ m.c1 ∷ []
centroids (Multi m (Some r)) = m.c0 ∷ m.c1 ∷ r.c0 ∷ []
centroids Residual = []

-- "far and span0 0..479": less than the panel is wide
unfoldable pub span_rule : Touch → Bool
span_rule Idle = true
span_rule (Down start since) = true
span_rule (Multi m None) = true
span_rule (Multi m (Some r)) = r.span0 <? width
span_rule Residual = true

-- "pair state 0..2"
unfoldable pub pair_rule : Touch → Bool
pair_rule Idle = true
pair_rule (Down start since) = true
pair_rule (Multi m None) = true
pair_rule (Multi m (Some r)) = r.state ≤? no_pinch
pair_rule Residual = true

-- "most fingers 2..5"
unfoldable pub most_rule : Touch → Bool
most_rule Idle = true
most_rule (Down start since) = true
most_rule (Multi m pair) = (fewest ≤? m.n) and (m.n ≤? max_points)
most_rule Residual = true

-- "raw needs captured"
unfoldable pub raw_rule : App → Bool
raw_rule app = not app.raw or app.captured

unfoldable pub state_rule : Tracker → Bool
state_rule t =
    all_on_panel (t.one.last ∷ held_points t.touch) and all_on_panel (centroids t.touch)
    and (t.one.far <? width) and span_rule t.touch
    and pair_rule t.touch
    and most_rule t.touch
    and (t.settings.grab_ms ≤? grab_most)
    and raw_rule t.app
