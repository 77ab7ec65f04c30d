-- What the rules keep: a one-finger touch, a pair and a touch of several that are as the state rule wants them stay so.
-- The crate gesture cites these for its law that every call keeps the state rule. Assumes nothing.
use Rattle.std.specs.Prelude.{Option, Some, None}
use mathlib.Core.Path.{◌≡◌, refl}
use mathlib.Core.Bool.{Bool, true, false, not}
use Prim.Native.Nat.{ℕ, ◌-◌, ◌≤◌, ◌<◌}
use native.Mathlib.Omega.{arith}
use Rattle.panel.specs.Tests as tests
use Rattle.panel.specs.Tests.{◌or◌}
use Rattle.panel.specs.Sizes.{width, max_points}
use Rattle.panel.specs.Points.{on_panel}
use Rattle.panel.specs.declared.points.Point.{Point}
use Rattle.panel.specs.declared.axes.Axis.{Axis}
use Rattle.panel.specs.declared.axes.Axis.TheVariants.{H, «V»}
use Rattle.panel.proofs.Follow.{if-all}
use Rattle.panel.proofs.Laws.{on-panel-x, on-panel-y, difference-at-most, distance-on-panel}
use Rattle.fingers.specs.Fields.{reset, set_grabbed, set_long_sent, set_axis, untaken, set_captured, set_direct}
use Rattle.fingers.specs.Holds.{held_still}
use Rattle.fingers.specs.OneFinger.{tracked, drag_along, axis_at, moving, grab_or_moving, later_report}
use Rattle.fingers.specs.Pairs.{no_pinch, span_along, pair_axis, new_pair, state_next, pair_at, pair_next, not_pinch}
use Rattle.fingers.specs.Several.{multi_from, multi_grown, multi_seen, pinch_or_seen, two_fingers, pinch_end_or_seen, three_fingers}
use Rattle.fingers.specs.declared.one.One.{One}
use Rattle.fingers.specs.declared.one.App.{App}
use Rattle.fingers.specs.declared.one.OneStep.{OneStep}
use Rattle.fingers.specs.declared.pair.Pair.{Pair}
use Rattle.fingers.specs.declared.settings.Settings.{Settings}
use Rattle.fingers.specs.declared.several.Multi.{Multi}
use Rattle.fingers.specs.declared.several.MultiStep.{MultiStep}

-- One finger: its last point on the panel, far less than the panel is wide.

abbrev pub FineOne : One → Type 0
FineOne o = (on_panel o.last ≡ true) × (o.far < width)

abbrev FineStep : OneStep → Type 0
FineStep s = FineOne s.one

pub reset-fine : (p : Point) → on_panel p ≡ true → FineOne (reset p)
unfolding reset
reset-fine p h = (h, omega arith)

tracked-fine : (o : One) (hold away : ℕ) (p : Point) → FineOne o → on_panel p ≡ true → away < width → FineOne (tracked o hold away p)
unfolding tracked
tracked-fine o hold away p h on near = let f = h.1 in (on, omega arith)

drag-fine : (a : Option Axis) (o : One) (start p : Point) → FineOne o → FineStep (drag_along a o start p)
unfolding drag_along set_axis
drag-fine (Some a) o start p h = h
drag-fine None o start p h = h

moving-fine : (o : One) (raw : Bool) (hold : ℕ) (prev start p : Point) → FineOne o → FineStep (moving o raw hold prev start p)
unfolding moving
moving-fine o raw hold prev start p h = if-all FineStep _ h (if-all FineStep _ (drag-fine (axis_at o.axis start p) o start p h) h)

grab-fine : (o : One) (raw : Bool) (hold held : ℕ) (prev start p : Point) → FineOne o → FineStep (grab_or_moving o raw hold held prev start p)
unfolding grab_or_moving set_grabbed
grab-fine o raw hold held prev start p h = if-all FineStep _ h (moving-fine o raw hold prev start p h)

pub later-fine : (o : One) (app : App) (start : Point) (since : ℕ) (p : Point) (now : ℕ) (set : Settings) → FineOne o → on_panel start ≡ true → on_panel p ≡ true → FineStep (later_report o app start since p now set)
unfolding later_report
later-fine o app start since p now set h s q = grab-fine _ _ _ _ _ _ _ (tracked-fine o _ _ p h q (distance-on-panel start p s q))

pub still-fine : (o : One) (app : App) (start : Point) (since now : ℕ) (set : Settings) → FineOne o → FineStep (held_still o app start since now set)
unfolding held_still set_grabbed set_long_sent
still-fine o app start since now set h = if-all FineStep _ h (if-all FineStep _ h h)

-- What the app made of the touch: raw only if captured.

abbrev pub FineApp : App → Type 0
FineApp a = ◌or◌ (not a.raw) a.captured ≡ true

pub untaken-fine : FineApp untaken
unfolding untaken tests.◌or◌
untaken-fine = refl

or_right : (a : Bool) → ◌or◌ a true ≡ true
unfolding tests.◌or◌
or_right true = refl
or_right false = refl

pub captured-fine : (a : App) (raw : Bool) → FineApp (set_captured a raw)
unfolding set_captured
captured-fine a raw = or_right (not raw)

pub direct-fine : (a : App) → FineApp (set_direct a)
unfolding set_direct
direct-fine a = or_right (not a.raw)

-- The pair: fingers and centroid on the panel, span0 less than the panel is wide, state 0 to 2.

abbrev pub FinePair : Pair → Type 0
FinePair r = (on_panel r.a ≡ true) × (on_panel r.b ≡ true) × (on_panel r.c0 ≡ true) × (r.span0 < width) × (r.state ≤ no_pinch)

abbrev pub FinePairing : Option Pair → Type 0
FinePairing None = Unit {0}
FinePairing (Some r) = FinePair r

span-fine : (a : Axis) (p q : Point) → on_panel p ≡ true → on_panel q ≡ true → span_along a p q < width
unfolding span_along
span-fine H p q hp hq =
    let x = on-panel-x p hp in
    let y = on-panel-x q hq in
    let d = difference-at-most (width - 1) p.x q.x (omega arith) (omega arith) in
    omega arith
span-fine «V» p q hp hq =
    let x = on-panel-y p hp in
    let y = on-panel-y q hq in
    let d = difference-at-most (width - 1) p.y q.y (omega arith) (omega arith) in
    omega arith

pub new-fine : (p q c : Point) → on_panel p ≡ true → on_panel q ≡ true → on_panel c ≡ true → FinePair (new_pair p q c)
unfolding new_pair
new-fine p q c hp hq hc = (hp, hq, hc, span-fine (pair_axis p q) p q hp hq, omega arith)

abbrev AtMostTwo : ℕ → Type 0
AtMostTwo state = state ≤ no_pinch

state-fine : (state change down : ℕ) → state ≤ no_pinch → state_next state change down ≤ no_pinch
unfolding state_next
state-fine state change down h =
    if-all AtMostTwo _ (if-all AtMostTwo _ (omega arith) (if-all AtMostTwo _ (omega arith) (omega arith))) h

at-fine : (r : Pair) (a b c : Point) → FinePair r → on_panel a ≡ true → on_panel b ≡ true → FinePair (pair_at r a b c)
unfolding pair_at
at-fine r a b c h ha hb = (ha, hb, h.2, h.3, state-fine r.state _ _ h.4)

next-fine : (r : Pair) (p q c : Point) → FinePair r → on_panel p ≡ true → on_panel q ≡ true → FinePair (pair_next r p q c)
unfolding pair_next
next-fine r p q c h hp hq = if-all FinePair _ (at-fine r p q c h hp hq) (at-fine r q p c h hq hp)

not-fine : (r : Pair) → FinePair r → FinePair (not_pinch r)
unfolding not_pinch
not-fine r h = (h.0, h.1, h.2, h.3, omega arith)

-- Several: two to five fingers, centroids on the panel.

abbrev pub FineMulti : Multi → Type 0
FineMulti m = (2 ≤ m.n) × (m.n ≤ max_points) × (on_panel m.c0 ≡ true) × (on_panel m.c1 ≡ true)

abbrev pub FineMultiStep : MultiStep → Type 0
FineMultiStep s = FineMulti s.multi × FinePairing s.pair

module _ (n : ℕ) (c : Point) (now : ℕ) (least : 2 ≤ n) (most : n ≤ max_points) (on : on_panel c ≡ true) where
  pub from-fine : FineMulti (multi_from n c now)
  unfolding multi_from
  from-fine = (least, most, on, on)

  grown-fine : (m : Multi) → FineMulti m → FineMulti (multi_grown m n c now)
  unfolding multi_grown
  grown-fine m h = if-all FineMulti _ from-fine h

  seen-fine : (m : Multi) → FineMulti m → FineMulti (multi_seen m n c now)
  unfolding multi_seen
  seen-fine m h = if-all FineMulti _ from-fine (if-all FineMulti _ (h.0, h.1, h.2, on) h)

  end-fine : (r : Pair) (m : Multi) → FineMulti m → FinePair r → FineMultiStep (pinch_end_or_seen r m n c now)
  unfolding pinch_end_or_seen
  end-fine r m h k = if-all FineMultiStep _ (grown-fine m h, not-fine r k) (seen-fine m h, not-fine r k)

  pub three-fine : (pair : Option Pair) (m : Multi) → FineMulti m → FinePairing pair → FineMultiStep (three_fingers pair m n c now)
  unfolding three_fingers
  three-fine None m h k = (seen-fine m h, tt)
  three-fine (Some r) m h k = end-fine r m h k

module _ (p q c : Point) (now : ℕ) (hp : on_panel p ≡ true) (hq : on_panel q ≡ true) (hc : on_panel c ≡ true) where
  pinch-fine : (r : Pair) (m : Multi) → FineMulti m → FinePair r → FineMultiStep (pinch_or_seen r m c now)
  unfolding pinch_or_seen
  pinch-fine r m h k = if-all FineMultiStep _ (h, k) (seen-fine 2 c now (omega arith) (omega arith) hc m h, k)

  pub two-fine : (pair : Option Pair) (m : Multi) → FineMulti m → FinePairing pair → FineMultiStep (two_fingers pair m p q c now)
  unfolding two_fingers
  two-fine None m h k = (seen-fine 2 c now (omega arith) (omega arith) hc m h, new-fine p q c hp hq hc)
  two-fine (Some r) m h k = pinch-fine (pair_next r p q c) m h (next-fine r p q c k hp hq)
