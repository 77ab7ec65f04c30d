-- "A report answered by a key change is spent: its fingers count for nothing."
--
-- Said without an observer: with other fingers, at another time, everything that is heard is the same, whatever calls
-- follow.
use Rattle.std.specs.Prelude.{ℕ, ◌≡◌, true, List, [], ◌∷◌, ◌++◌, Option, Some}
use Rattle.fingers.specs.Gestures.{is_key_change}
use Rattle.fingers.specs.declared.gestures.Gesture.{Gesture}
use Rattle.gesture.specs.Calls.{Call, report}
use Rattle.panel.specs.declared.points.Event.{Event}
use Rattle.history.specs.Runs.{Said, history, Accepted, AllAccepted}

-- what is heard of a history: the gesture of each call, if any
unfoldable pub heard : List Said → List (Option Gesture)
heard [] = []
heard (x ∷ xs) = x.given ∷ heard xs

unfoldable pub Spent : Type 0
Spent =
    (cs ds : List Call) (now now' : ℕ) (ev ev' : Event) (g : Gesture) → AllAccepted cs → Accepted (report now ev) → Accepted (report now' ev')
    → ev.keys ≡ ev'.keys → is_key_change g ≡ true → heard (history (cs ++ (report now ev ∷ []))) ≡ heard (history cs) ++ (Some g ∷ [])
    → heard (history (cs ++ (report now ev ∷ ds))) ≡ heard (history (cs ++ (report now' ev' ∷ ds)))
