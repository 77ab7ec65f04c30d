-- A place in a history, and the sentence on keys in one piece: the words in which the sentences are said one by one.
use Rattle.std.specs.Prelude.{ℕ, ◌≡◌, false, List, [], ◌∷◌, ◌++◌, map, Option, Some}
use Rattle.fingers.specs.declared.gestures.Gesture.{Gesture}
use Rattle.gesture.specs.Calls.{Call, report, tick, capture, capture_direct, raw_next, set_grab_ms}
use Rattle.history.specs.Demand.{Repeats}
use Rattle.history.specs.Gestures.{tells_key}
use Rattle.history.specs.Runs.{Said, history, AllAccepted}
use Rattle.history.specs.Touches.{Seen, watch}

-- what an observer knows after what was said
unfoldable pub known : Seen → List Said → Seen
known s [] = s
known s (x ∷ xs) = known (watch s x.call x.given) xs

-- a place in a history of accepted calls on a fresh tracker: x is said there, after xs and before ys
pub record Place (xs : List Said) (x : Said) (ys : List Said) : Type 0 where
  pub calls : List Call
  pub accepted : AllAccepted calls
  pub split : history calls ≡ xs ++ (x ∷ ys)

-- the answers to reports and ticks alone
abbrev pub and_answer : Call → Option Gesture → List (Option Gesture) → List (Option Gesture)
and_answer (report now ev) g gs = g ∷ gs
and_answer (tick now) g gs = g ∷ gs
and_answer capture g gs = gs
and_answer capture_direct g gs = gs
and_answer (raw_next wish) g gs = gs
and_answer (set_grab_ms ms) g gs = gs

unfoldable pub answers : List Said → List (Option Gesture)
answers [] = []
answers (x ∷ xs) = and_answer x.call x.given (answers xs)

abbrev pub AllRepeat : ℕ → List Said → Type 0
AllRepeat mask [] = Unit {0}
AllRepeat mask (x ∷ xs) = Repeats mask x.call × AllRepeat mask xs

abbrev pub NoKeys : List (Option Gesture) → Type 0
NoKeys [] = Unit {0}
NoKeys (g ∷ gs) = (tells_key g ≡ false) × NoKeys gs

-- "tell each change once, .. ; then none": first the changes, each in one answer and in their order, then no key change
abbrev pub InFull : List Gesture → List (Option Gesture) → Type 0
InFull changes answers = (rest : List (Option Gesture)) × (answers ≡ map Some changes ++ rest) × NoKeys rest
