-- No tracker that sleeps meets the demand: after any history, a touch that starts with one finger gives Down, and whatever
-- touch was on, it is over at the next report of none and 300 ms later a finger gives Down again. Assumes nothing.
use Rattle.std.specs.Prelude.{Option, Some}
use Prim.Native.Nat.{ℕ, ◌+◌, ◌≤◌}
use mathlib.Core.Path.{◌≡◌, refl, sym, ap, ap₂, subst, ◌∙◌}
use mathlib.Core.Bool.{false}
use mathlib.Core.List.{List, [], ◌∷◌, ◌++◌}
use borrow.Author.Tests.{le-ltb}
use Rattle.fingers.specs.declared.gestures.Gesture.TheVariants.{Down}
use Rattle.fingers.specs.declared.gestures.Gesture.{Gesture}
use Rattle.gesture.specs.Runs.{made, run, after}
use Rattle.gesture.specs.Calls.{Call, report, answer_of}
use Rattle.gesture.specs.Trackers.{fresh_tracker}
use Rattle.gesture.specs.declared.record.Tracker.{Tracker}
use Rattle.panel.proofs.Follow.{if-true, if-false, if-all}
use Rattle.panel.specs.Tests.{◌=?◌}
use Rattle.panel.specs.declared.points.Event.{Event}
use Rattle.history.specs.Gestures.{tells_key}
use Rattle.history.specs.Places.{known, Place}
use Rattle.history.specs.Runs.{Said, said, sayings, history, Accepted, AllAccepted}
use Rattle.history.specs.Touches.{Touch, off, on, Before, gap, close, Seen, start, over, counted, watch}
use Rattle.history.proofs.Sentences.{accepted-answered, told-mask-unspent, down-at-once}

-- One call more.

one_more : (cs : List Call) (t : Tracker) (c : Call) → sayings t (cs ++ (c ∷ [])) ≡ sayings t cs ++ (said (made (after t cs) c) ∷ [])
unfolding run after
one_more [] t c = refl
one_more (d ∷ cs) t c = ap (λ (l : List Said). said (made t d) ∷ l) (one_more cs (answer_of t d).tracker c)

all_more : (cs : List Call) (c : Call) → AllAccepted cs → Accepted c → AllAccepted (cs ++ (c ∷ []))
all_more [] c al a = (a, tt)
all_more (d ∷ cs) c al a = (al.0, all_more cs c al.1 a)

known_more : (xs : List Said) (s : Seen) (x : Said) → known s (xs ++ (x ∷ [])) ≡ watch (known s xs) x.call x.given
unfolding known
known_more [] s x = refl
known_more (y ∷ xs) s x = known_more xs (watch s y.call y.given) x

-- what is known after calls on a fresh tracker
abbrev pub known_after : List Call → Seen
known_after cs = known start (history cs)

module _ (cs : List Call) (now : ℕ) (ev : Event) (all : AllAccepted cs) (accepted : Accepted (report now ev)) where
  last : Said
  last = said (made (after fresh_tracker cs) (report now ev))

  last-split : history (cs ++ (report now ev ∷ [])) ≡ history cs ++ (last ∷ [])
  unfolding history last
  last-split = one_more cs fresh_tracker (report now ev)

  last-place : Place (history cs) last []
  last-place = record { calls = cs ++ (report now ev ∷ []); accepted = all_more cs (report now ev) all accepted; split = last-split }

  last-unspent : ev.keys ≡ (known_after cs).keys → tells_key last.given ≡ false
  unfolding last
  last-unspent same = told-mask-unspent (history cs) last [] last-place now ev refl same

  -- No touch is on, and a report of the keys told has one finger, not close to the release of several: it gives Down.
  pub next_down : (known_after cs).touch ≡ off → ev.points ≡ 1 → ev.keys ≡ (known_after cs).keys → close (known_after cs).before now ≡ false →
      history (cs ++ (report now ev ∷ [])) ≡ history cs ++ (record { call = report now ev; refusal = 0; given = Some (Down ev.p) } ∷ [])
  unfolding last
  next_down idle one same far =
      let r = accepted-answered (history cs) last [] last-place in
      let g = down-at-once (history cs) last [] last-place now ev refl (last-unspent same) idle one far in
      last-split ∙ ap₂ (λ (n : ℕ) (x : Option Gesture). history cs ++ (record { call = report now ev; refusal = n; given = x } ∷ [])) r g

  -- what is known after a report of none, of the keys told
  none-known : ev.points ≡ 0 → ev.keys ≡ (known_after cs).keys →
      known_after (cs ++ (report now ev ∷ [])) ≡ record { keys = (known_after cs).keys; touch = off; before = over (known_after cs).touch (known_after cs).before now }
  unfolding last counted
  none-known none same =
      ap (known start) last-split ∙ known_more (history cs) start last ∙ if-false _ _ _ (last-unspent same)
      ∙ if-true _ _ _ (ap (λ (n : ℕ). n =? 0) none)

-- the release of a touch is not close 300 ms later, whether it had several or not
later-far : (t : Touch) (before : Before) (release now : ℕ) → release + gap ≤ now → close (over (on t) before release) now ≡ false
later-far t before release now late = if-all (λ (b : Before). close b now ≡ false) _ (le-ltb _ _ late) refl

-- Whatever touch is on after any accepted calls: a report of none ends it, and a finger 300 ms later gives Down.
pub wakes-again : (cs : List Call) (touch : Touch) (release now : ℕ) (up ev : Event) → AllAccepted cs → Accepted (report release up) → Accepted (report now ev) → (known_after cs).touch ≡ on touch →
    up.points ≡ 0 → up.keys ≡ (known_after cs).keys → ev.points ≡ 1 → ev.keys ≡ (known_after cs).keys → release + gap ≤ now →
    let ds = cs ++ (report release up ∷ []) in
    history (ds ++ (report now ev ∷ [])) ≡ history ds ++ (record { call = report now ev; refusal = 0; given = Some (Down ev.p) } ∷ [])
wakes-again cs touch release now up ev all a a' is-on none same one same' late =
    let ds = cs ++ (report release up ∷ []) in
    let k = none-known cs release up all a none same in
    next_down ds now ev (all_more cs (report release up) all a) a' (ap (λ (s : Seen). s.touch) k) one (same' ∙ sym (ap (λ (s : Seen). s.keys) k))
    (ap (λ (s : Seen). close s.before now) k ∙ subst (λ o. close (over o (known_after cs).before release) now ≡ false) (sym is-on) (later-far touch (known_after cs).before release now late))
