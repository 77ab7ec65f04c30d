-- What a report and a tick leave of a tracker that keeps the state rule keeps it, rule by rule. Assumes nothing.
use Rattle.std.specs.Prelude.{Option, Some, None}
use mathlib.Core.Path.{◌≡◌, refl, sym, ◌∙◌}
use mathlib.Core.Bool.{true, false}
use mathlib.Core.List.{List, [], ◌∷◌}
use Prim.Native.Nat.{ℕ, ◌≤◌}
use native.Mathlib.Omega.{arith}
use Rattle.panel.specs.Tests as tests
use Rattle.panel.specs.Tests.{◌and◌, ◌=?◌}
use Rattle.panel.specs.Sizes.{max_points}
use Rattle.panel.specs.Points.{on_panel, all_on_panel, first_points, fingers}
use Rattle.panel.specs.declared.points.Point.{Point}
use Rattle.panel.specs.declared.points.Event.{Event}
use Rattle.panel.proofs.Laws.{and_left, and_right, middle-on-panel}
use Rattle.fingers.specs.declared.gestures.Gesture.{Gesture}
use Rattle.fingers.specs.declared.gestures.Outcome.{Outcome}
use Rattle.fingers.specs.declared.several.MultiStep.{MultiStep}
use Rattle.fingers.proofs.Kept.{FinePairing, FineMulti, FineMultiStep, reset-fine, untaken-fine, later-fine, still-fine, new-fine, from-fine, two-fine, three-fine}
use Rattle.gesture.specs.Trackers.{origin, whole, touched, keyed}
use Rattle.gesture.specs.Reports.{finger, all_up, residual_touch, new_touch, touch_down, goes_on, one_finger, two_start, two, two_of, more_start, more, more_of, several, fingers_of, keys_then_fingers, report_step}
use Rattle.gesture.specs.Ticks.{still_down, keys_then_hold, tick_step}
use Rattle.gesture.specs.Answers.{points_in_use}
use Rattle.gesture.specs.declared.record.Touch.{Touch}
use Rattle.gesture.specs.declared.record.Touch.TheVariants.{Idle, Down, Multi, Residual}
use Rattle.gesture.specs.declared.record.Tracker.{Tracker}
use Rattle.gesture.specs.declared.record.Step.{Step}
use mathlib.Core.Path.{ap}
use lib.ListN.{take}
use borrow.Author.Tests.{eqb-true, eqb-false}
use Rattle.panel.proofs.Follow.{if-true, if-false, if-know, if-all}
use Rattle.panel.proofs.Counts.{one-point, fingers-twice, fingers-range}
use Rattle.gesture.proofs.Facts.{FineTouch, Fine}

abbrev pub FineAfter : Step → Type 0
FineAfter s = Fine s.tracker

-- A report.

up-fine : (t : Tracker) (now : ℕ) → Fine t → FineAfter (all_up t now)
unfolding all_up touched whole
up-fine t now f = (tt, f.1, f.2, f.3)

down-fine : (t : Tracker) (p : Point) (now : ℕ) → Fine t → on_panel p ≡ true → FineAfter (touch_down t p now)
unfolding touch_down residual_touch new_touch touched whole
down-fine t p now f on = if-all FineAfter _ (tt, f.1, f.2, f.3) (on, reset-fine p on, untaken-fine, f.3)

one-fine : (x : Touch) (t : Tracker) (p : Point) (now : ℕ) → FineTouch x → Fine t → on_panel p ≡ true → FineAfter (one_finger x t p now)
unfolding one_finger goes_on touched whole
one-fine Idle t p now d f on = down-fine t p now f on
one-fine Residual t p now d f on = f
one-fine (Multi m pair) t p now d f on = f
one-fine (Down start since) t p now d f on = (d, later-fine t.one t.app start since p now t.settings f.1 d on, f.2, f.3)

several-fine : (s : MultiStep) (t : Tracker) → FineMulti s.multi × FinePairing s.pair → Fine t → FineAfter (several s t)
unfolding several touched whole
several-fine s t h f = (h, f.1, f.2, f.3)

module _ (p q c : Point) (now : ℕ) (hp : on_panel p ≡ true) (hq : on_panel q ≡ true) (hc : on_panel c ≡ true) where
  two-start-fine : (out : Outcome) → FineMultiStep (two_start out p q c now)
  unfolding two_start
  two-start-fine out = (from-fine 2 c now (omega arith) (omega arith) hc, new-fine p q c hp hq hc)

  two-touch-fine : (x : Touch) → FineTouch x → FineMultiStep (two x p q c now)
  unfolding two
  two-touch-fine Idle d = two-start-fine _
  two-touch-fine Residual d = two-start-fine _
  two-touch-fine (Down start since) d = two-start-fine _
  two-touch-fine (Multi m pair) d = two-fine p q c now hp hq hc pair m d.0 d.1

module _ (n : ℕ) (c : Point) (now : ℕ) (least : 2 ≤ n) (most : n ≤ max_points) (hc : on_panel c ≡ true) where
  more-start-fine : (out : Outcome) → FineMultiStep (more_start out n c now)
  unfolding more_start
  more-start-fine out = (from-fine n c now least most hc, tt)

  more-touch-fine : (x : Touch) → FineTouch x → FineMultiStep (more x n c now)
  unfolding more
  more-touch-fine Idle d = more-start-fine _
  more-touch-fine Residual d = more-start-fine _
  more-touch-fine (Down start since) d = more-start-fine _
  more-touch-fine (Multi m pair) d = three-fine n c now least most hc pair m d.0 d.1

-- The points in use, and the first two of them; where a list is shorter, (0, 0) stands in, which is on the panel too.

pub origin_on : on_panel origin ≡ true
unfolding on_panel tests.◌and◌
origin_on = refl

first_on : (pts : List Point) → all_on_panel (first_points 2 pts) ≡ true → on_panel (finger 0 pts) ≡ true
unfolding all_on_panel fingers
first_on [] h = origin_on
first_on (p ∷ []) h = and_left _ _ h
first_on (p ∷ q ∷ ps) h = and_left _ _ h

second-on : (pts : List Point) → all_on_panel (first_points 2 pts) ≡ true → on_panel (finger 1 pts) ≡ true
unfolding all_on_panel fingers
second-on [] h = origin_on
second-on (p ∷ []) h = origin_on
second-on (p ∷ q ∷ ps) h = and_left _ _ (and_right _ _ h)

use-one : (ev : Event) → (ev.points =? 1) ≡ true → all_on_panel (points_in_use ev) ≡ true → on_panel ev.p ≡ true
unfolding points_in_use
use-one ev e h = sym (one-point ev.p) ∙ ap all_on_panel (sym (if-true (ev.points =? 1) _ _ e)) ∙ h

use-several : (ev : Event) → (ev.points =? 1) ≡ false → all_on_panel (points_in_use ev) ≡ true → all_on_panel (first_points ev.points ev.pts) ≡ true
unfolding points_in_use
use-several ev e h = ap all_on_panel (sym (if-false (ev.points =? 1) _ _ e)) ∙ h

two-of-fine : (t : Tracker) (pts : List Point) (now : ℕ) → Fine t → all_on_panel (first_points 2 pts) ≡ true → FineAfter (two_of t pts now)
unfolding two_of
two-of-fine t pts now f h =
    several-fine _ t (two-touch-fine _ _ _ now (first_on pts h) (second-on pts h) (middle-on-panel _ h) t.touch f.0) f

more-of-fine : (t : Tracker) (n : ℕ) (pts : List Point) (now : ℕ) → Fine t → 2 ≤ n → n ≤ max_points → all_on_panel (first_points n pts) ≡ true → FineAfter (more_of t n pts now)
unfolding more_of
more-of-fine t n pts now f least most h = several-fine _ t (more-touch-fine n _ now least most (middle-on-panel _ h) t.touch f.0) f

fingers-fine : (t : Tracker) (ev : Event) (now : ℕ) → Fine t → all_on_panel (points_in_use ev) ≡ true → FineAfter (fingers_of t ev now)
unfolding fingers_of
fingers-fine t ev now f h =
    if-know FineAfter _ _ _ (λ e0. up-fine t now f) (λ n0.
    if-know FineAfter _ _ _ (λ e1. one-fine t.touch t ev.p now f.0 f (use-one ev e1 h)) (λ n1.
    if-know FineAfter _ _ _ (λ e2. two-of-fine t ev.pts now f (ap (λ (k : ℕ). all_on_panel (first_points k ev.pts)) (sym (eqb-true _ _ e2)) ∙ use-several ev n1 h)) (λ n2.
    let r = fingers-range ev.points (eqb-false _ _ n0) (eqb-false _ _ n1) (eqb-false _ _ n2) in
    more-of-fine t (fingers ev.points) ev.pts now f r.0 r.1 (ap (λ (k : ℕ). all_on_panel (take k ev.pts)) (fingers-twice ev.points) ∙ use-several ev n1 h))))

keys-fine : (k : Option (Gesture × ℕ)) (t : Tracker) (ev : Event) (now : ℕ) → Fine t → all_on_panel (points_in_use ev) ≡ true → FineAfter (keys_then_fingers k t ev now)
unfolding keys_then_fingers keyed whole
keys-fine (Some (g, keys)) t ev now f h = f
keys-fine None t ev now f h = fingers-fine _ ev now f h

pub report-fine : (t : Tracker) (ev : Event) (now : ℕ) → Fine t → all_on_panel (points_in_use ev) ≡ true → FineAfter (report_step t ev now)
unfolding report_step
report-fine t ev now f h = keys-fine _ t ev now f h

-- A tick.

still-down-fine : (x : Touch) (t : Tracker) (now : ℕ) → FineTouch x → Fine t → FineAfter (still_down x t now)
unfolding still_down goes_on touched whole
still-down-fine Idle t now d f = f
still-down-fine Residual t now d f = f
still-down-fine (Multi m pair) t now d f = f
still-down-fine (Down start since) t now d f = (d, still-fine t.one t.app start since now t.settings f.1, f.2, f.3)

hold-fine : (k : Option (Gesture × ℕ)) (t : Tracker) (now : ℕ) → Fine t → FineAfter (keys_then_hold k t now)
unfolding keys_then_hold keyed whole
hold-fine (Some (g, keys)) t now f = f
hold-fine None t now f = still-down-fine t.touch t now f.0 f

pub tick-fine : (t : Tracker) (now : ℕ) → Fine t → FineAfter (tick_step t now)
unfolding tick_step
tick-fine t now f = hold-fine _ t now f
