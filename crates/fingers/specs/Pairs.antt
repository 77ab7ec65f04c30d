-- "Several fingers": the pair, which tells a pinch.
--
-- "no pair yet makes one (H if |dx| >= |dy|; span0 along it). With a pair, state 0: span change >= 20 makes 1, else
-- centroid 30 down makes 2. State 1 answers Pinch(axis, span0, span), spans within 1..999". "Three or more turn the pair to
-- state 2". "Pair identity: keep the order if its squared travel is not larger."
use Rattle.std.specs.Prelude.{ℕ, ◌+◌, ◌-◌, max, min, Bool}
use Rattle.panel.specs.Tests.{when◌then◌else◌, ◌≤?◌, ◌=?◌}
use Rattle.panel.specs.Distances.{difference, distance2}
use Rattle.panel.specs.declared.points.Point.{Point}
use Rattle.panel.specs.declared.axes.Axis.{Axis}
use Rattle.panel.specs.declared.axes.Axis.TheVariants.{H, «V»}
use Rattle.fingers.specs.Thresholds.{pinch_min, pinch_swipe, span_least, span_most}
use Rattle.fingers.specs.declared.gestures.Gesture.{Gesture}
use Rattle.fingers.specs.declared.gestures.Gesture.TheVariants.{Pinch}
use Rattle.fingers.specs.declared.pair.Pair.{Pair}

-- undecided, a pinch, not a pinch
abbrev pub undecided : ℕ
undecided = 0

abbrev pub pinching : ℕ
pinching = 1

abbrev pub no_pinch : ℕ
no_pinch = 2

unfoldable pub span_along : Axis → Point → Point → ℕ
span_along H p q = difference p.x q.x
span_along «V» p q = difference p.y q.y

unfoldable pub pair_axis : Point → Point → Axis
pair_axis p q = when difference p.y q.y ≤? difference p.x q.x then H else «V»

-- of the fingers p and q, whose centroid is c
unfoldable pub new_pair : Point → Point → Point → Pair
new_pair p q c = record { a = p; b = q; axis = pair_axis p q; span0 = span_along (pair_axis p q) p q; c0 = c; state = undecided }

unfoldable pub keeps_order : Pair → Point → Point → Bool
keeps_order r p q = distance2 r.a p + distance2 r.b q ≤? distance2 r.a q + distance2 r.b p

-- by how much the span changed, and how far down the centroid came
unfoldable pub state_next : ℕ → ℕ → ℕ → ℕ
state_next state change down =
    when state =? undecided then (when pinch_min ≤? change then pinching else when pinch_swipe ≤? down then no_pinch else undecided)
    else state

-- the pair with its fingers at a and b
unfoldable pub pair_at : Pair → Point → Point → Point → Pair
pair_at r a b c =
    record {
      a = a;
      b = b;
      axis = r.axis;
      span0 = r.span0;
      c0 = r.c0;
      state = state_next r.state (difference (span_along r.axis a b) r.span0) (c.y - r.c0.y);
    }

unfoldable pub pair_next : Pair → Point → Point → Point → Pair
pair_next r p q c = when keeps_order r p q then pair_at r p q c else pair_at r q p c

unfoldable pub span_told : ℕ → ℕ
span_told span = min (max span span_least) span_most

unfoldable pub pinch_of : Pair → Gesture
pinch_of r = Pinch r.axis (span_told r.span0) (span_told (span_along r.axis r.a r.b))

-- three or more
unfoldable pub not_pinch : Pair → Pair
not_pinch r = record { a = r.a; b = r.b; axis = r.axis; span0 = r.span0; c0 = r.c0; state = no_pinch }
