-- "Several fingers", and the multi rule.
--
-- "If a one-finger touch was on, the answer is Cancel, multi starts, and with two fingers a new pair. Otherwise, at two: no
-- pair yet makes one .. State 1 answers Pinch(axis, span0, span) .. and multi is not updated. Three or more turn the pair
-- to state 2; from 1 the answer is PinchEnd(false), and multi changes only if n grew. Else n above the most seen restarts
-- multi; n equal updates its last centroid and time."
--
-- "Multi rule: dy at least 60 (n 2) or 30 (n 3), dy > |dx|, at most 2000 ms. Others nothing." "gives PinchEnd(true) if a
-- pinch, else the multi rule."
use Rattle.std.specs.Prelude.{ℕ, ◌-◌, Bool, true, false, Option, Some, None}
use Rattle.panel.specs.Tests.{when◌then◌else◌, ◌and◌, ◌≤?◌, ◌<?◌, ◌=?◌}
use Rattle.panel.specs.Distances.{difference}
use Rattle.panel.specs.declared.points.Point.{Point}
use Rattle.fingers.specs.Thresholds.{multi_min2, multi_min3, multi_max}
use Rattle.fingers.specs.Pairs.{pinching, new_pair, pair_next, pinch_of, not_pinch}
use Rattle.fingers.specs.declared.gestures.Gesture.TheVariants.{MultiSwipeDown, PinchEnd}
use Rattle.fingers.specs.declared.gestures.Outcome.{Outcome}
use Rattle.fingers.specs.declared.gestures.Outcome.TheVariants.{Quiet, Gives}
use Rattle.fingers.specs.declared.pair.Pair.{Pair}
use Rattle.fingers.specs.declared.several.Multi.{Multi}
use Rattle.fingers.specs.declared.several.MultiStep.{MultiStep}

abbrev pub multi_step : Outcome → Multi → Option Pair → MultiStep
multi_step out multi pair = record { out = out; multi = multi; pair = pair }

-- n fingers, centroid c: from here
unfoldable pub multi_from : ℕ → Point → ℕ → Multi
multi_from n c now = record { n = n; c0 = c; t0 = now; c1 = c; t1 = now }

-- "multi changes only if n grew"
unfoldable pub multi_grown : Multi → ℕ → Point → ℕ → Multi
multi_grown m n c now = when m.n <? n then multi_from n c now else m

-- "n above the most seen restarts multi; n equal updates its last centroid and time"
unfoldable pub multi_seen : Multi → ℕ → Point → ℕ → Multi
multi_seen m n c now =
    when m.n <? n then multi_from n c now
    else when n =? m.n then record { n = m.n; c0 = m.c0; t0 = m.t0; c1 = c; t1 = now }
    else m

-- two fingers, with the pair as it is at this report
unfoldable pub pinch_or_seen : Pair → Multi → Point → ℕ → MultiStep
pinch_or_seen r m c now =
    when r.state =? pinching then multi_step (Gives (pinch_of r)) m (Some r)
    else multi_step Quiet (multi_seen m 2 c now) (Some r)

unfoldable pub two_fingers : Option Pair → Multi → Point → Point → Point → ℕ → MultiStep
two_fingers None m p q c now = multi_step Quiet (multi_seen m 2 c now) (Some (new_pair p q c))
two_fingers (Some r) m p q c now = pinch_or_seen (pair_next r p q c) m c now

unfoldable pub pinch_end_or_seen : Pair → Multi → ℕ → Point → ℕ → MultiStep
pinch_end_or_seen r m n c now =
    when r.state =? pinching then multi_step (Gives (PinchEnd false)) (multi_grown m n c now) (Some (not_pinch r))
    else multi_step Quiet (multi_seen m n c now) (Some (not_pinch r))

unfoldable pub three_fingers : Option Pair → Multi → ℕ → Point → ℕ → MultiStep
three_fingers None m n c now = multi_step Quiet (multi_seen m n c now) None
three_fingers (Some r) m n c now = pinch_end_or_seen r m n c now

-- The end.

-- dy: how far down the centroid came
unfoldable pub far_down : ℕ → ℕ → Bool
far_down n dy = when n =? 2 then multi_min2 ≤? dy else when n =? 3 then multi_min3 ≤? dy else false

unfoldable pub swiped_down : ℕ → ℕ → ℕ → ℕ → Bool
swiped_down n dx dy took = far_down n dy and (dx <? dy) and (took ≤? multi_max)

unfoldable pub multi_rule : Multi → Outcome
multi_rule m =
    when swiped_down m.n (difference m.c0.x m.c1.x) (m.c1.y - m.c0.y) (m.t1 - m.t0) then Gives (MultiSwipeDown m.n)
    else Quiet

unfoldable pub is_pinch : Option Pair → Bool
is_pinch None = false
is_pinch (Some r) = r.state =? pinching

unfoldable pub multi_end : Multi → Option Pair → Outcome
multi_end m pair = when is_pinch pair then Gives (PinchEnd true) else multi_rule m
