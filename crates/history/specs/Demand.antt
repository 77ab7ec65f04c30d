-- Demand 3, sentence by sentence, of a call and its answer with what an observer knew before it.
use Rattle.std.specs.Prelude.{ℕ, ◌≡◌, Bool, true, false, not, List, [], ◌∷◌, Option, Some, None}
use Rattle.fingers.specs.declared.gestures.Gesture.{Gesture}
use Rattle.fingers.specs.declared.gestures.Gesture.TheVariants.{Down}
use Rattle.gesture.specs.Calls.{Call, report, tick, capture, capture_direct, raw_next, set_grab_ms}
use Rattle.panel.specs.Tests.{◌and◌, ◌or◌}
use Rattle.history.specs.Gestures.{gives_one_finger, tells_key, tells_keys_only}
use Rattle.history.specs.Keys.{changes}
use Rattle.history.specs.Runs.{Said, history, AllAccepted}
use Rattle.history.specs.Touches.{On, off, on, close, Seen, start, watch}

-- "If a report's mask differs in d keys, at least one, from those told, and later reports repeat it, that call and the next
-- d-1 reports or ticks tell each change once, releases first, low codes first; then none."
--
-- The changes that are left are told one by one from here on, as long as the reports repeat the mask.

abbrev pub Repeats : ℕ → Call → Type 0
Repeats mask (report now ev) = ev.keys ≡ mask
Repeats mask (tick now) = Unit {0}
Repeats mask capture = Unit {0}
Repeats mask capture_direct = Unit {0}
Repeats mask (raw_next wish) = Unit {0}
Repeats mask (set_grab_ms ms) = Unit {0}

abbrev pub NextChange : List Gesture → Option Gesture → (List Gesture → Type 0) → Type 0
NextChange [] g rest = (tells_key g ≡ false) × rest []
NextChange (change ∷ changes) g rest = (g ≡ Some change) × rest changes

abbrev pub Tells : List Gesture → Call → Option Gesture → (List Gesture → Type 0) → Type 0
Tells left (report now ev) g rest = NextChange left g rest
Tells left (tick now) g rest = NextChange left g rest
Tells left capture g rest = (g ≡ None) × rest left
Tells left capture_direct g rest = (g ≡ None) × rest left
Tells left (raw_next wish) g rest = (g ≡ None) × rest left
Tells left (set_grab_ms ms) g rest = (g ≡ None) × rest left

unfoldable pub TellsAll : ℕ → List Gesture → List Said → Type 0
TellsAll mask left [] = Unit {0}
TellsAll mask left (x ∷ xs) = Repeats mask x.call → Tells left x.call x.given (λ rest. TellsAll mask rest xs)

abbrev pub KeysTold : Seen → Call → List Said → Type 0
KeysTold s (report now ev) from-here = TellsAll ev.keys (changes s.keys ev.keys) from-here
KeysTold s (tick now) from-here = Unit {0}
KeysTold s capture from-here = Unit {0}
KeysTold s capture_direct from-here = Unit {0}
KeysTold s (raw_next wish) from-here = Unit {0}
KeysTold s (set_grab_ms ms) from-here = Unit {0}

-- "Once it has had several fingers it gives no one-finger gesture until it is over, its release included."
--
-- A touch before the call, or after it, that has had several.
abbrev pub had_several : On → Bool
had_several off = false
had_several (on t) = t.several

abbrev pub SeveralSilent : On → On → Option Gesture → Type 0
SeveralSilent before after g = had_several before or had_several after ≡ true → gives_one_finger g ≡ false

-- "A touch that starts with one finger gives Down at once, unless the touch before it had several and its release is under
-- 300 ms back or ahead of the clock."
abbrev pub DownAtOnce : Seen → Call → Option Gesture → Type 0
DownAtOnce s (report now ev) g = tells_key g ≡ false → s.touch ≡ off → ev.points ≡ 1 → close s.before now ≡ false → g ≡ Some (Down ev.p)
DownAtOnce s (tick now) g = Unit {0}
DownAtOnce s capture g = Unit {0}
DownAtOnce s capture_direct g = Unit {0}
DownAtOnce s (raw_next wish) g = Unit {0}
DownAtOnce s (set_grab_ms ms) g = Unit {0}

-- "A touch so excepted tells key changes and nothing more while it has one finger."
--
-- Also where it has had several and is down to one again; and, where it never had several, at its release too.
abbrev pub excepted_with_one : On → Bool
excepted_with_one off = false
excepted_with_one (on t) = t.excepted and t.one

abbrev pub excepted_never_more : On → Bool
excepted_never_more off = false
excepted_never_more (on t) = t.excepted and not t.several

abbrev pub ExceptedSilent : On → On → Option Gesture → Type 0
ExceptedSilent before after g = excepted_with_one after or excepted_never_more before ≡ true → tells_keys_only g ≡ true

-- What is promised of a call x, with s known before it and xs to follow.
pub record Promised (s : Seen) (x : Said) (xs : List Said) : Type 0 where
  pub answered : x.refusal ≡ 0
  pub keys : KeysTold s x.call (x ∷ xs)
  pub several : SeveralSilent s.touch (watch s x.call x.given).touch x.given
  pub down : DownAtOnce s x.call x.given
  pub excepted : ExceptedSilent s.touch (watch s x.call x.given).touch x.given

unfoldable pub Kept : Seen → List Said → Type 0
Kept s [] = Unit {0}
Kept s (x ∷ xs) = Promised s x xs × Kept (watch s x.call x.given) xs

-- "Take any accepted calls on a fresh tracker."
unfoldable pub Demand : Type 0
Demand = (cs : List Call) → AllAccepted cs → Kept start (history cs)
