-- What the code logs where a definition of specs/ says it in other words: a lock is a lock that is some, and a tick is a
-- report before which no axis was locked. Assumes nothing.
use Rattle.std.specs.Prelude.{Option, Some, None}
use mathlib.Core.Path.{◌≡◌, refl, ap}
use mathlib.Core.Bool.{Bool, true, false}
use Prim.Native.Nat.{ℕ}
use Rattle.std.specs.Option.{is_some}
use Rattle.panel.specs.Tests as tests
use Rattle.panel.specs.Tests.{◌and◌}
use Rattle.panel.proofs.Follow.{if-false}
use Rattle.panel.specs.declared.axes.Axis.{Axis}
use Rattle.fingers.specs.Gestures.{is_drag}
use Rattle.fingers.specs.declared.gestures.Outcome.{Outcome}
use Rattle.fingers.specs.declared.gestures.Outcome.TheVariants.{Quiet, Noted, Gives}
use Rattle.gesture.specs.Lines.{is_locked, report_gesture_line, report_line, tick_line}
use Rattle.gesture.specs.Answers.{answered, given_by, reported, ticked}
use Rattle.gesture.specs.declared.record.Step.{Step}

pub locked_is_some : (axis : Option Axis) → is_some axis ≡ is_locked axis
unfolding is_locked
locked_is_some None = refl
locked_is_some (Some a) = refl

and-never : (b : Bool) → ◌and◌ b false ≡ false
unfolding tests.◌and◌
and-never true = refl
and-never false = refl

tick_as_report : (out : Outcome) (now : ℕ) → report_line out false now ≡ tick_line out now
unfolding report_line tick_line report_gesture_line
tick_as_report Quiet now = refl
tick_as_report (Noted note) now = refl
tick_as_report (Gives g) now = if-false _ _ _ (and-never (is_drag g))

pub ticked_is_reported : (s : Step) (now : ℕ) → reported s false now ≡ ticked s now
unfolding reported ticked
ticked_is_reported s now = ap (λ line. answered (given_by s.out) line s.tracker) (tick_as_report s.out now)
