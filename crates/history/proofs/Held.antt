-- What a tick makes of a finger that is down alone: a Grab, else a LongPress, else nothing; and that what it gives and what
-- it leaves of the finger tell the same. Assumes nothing.
use Rattle.std.specs.Prelude.{Option, Some, None}
use Prim.Native.Nat.{ℕ, ◌-◌}
use mathlib.Core.Path.{◌≡◌, refl, sym, ap, ap₂, subst, ◌∙◌}
use mathlib.Core.Bool.{Bool, true, false, true≢false}
use borrow.Author.Tests.{not-true}
use Rattle.fingers.specs.Fields.{set_grabbed, set_long_sent, set_direct}
use Rattle.fingers.specs.Gestures.{place_of}
use Rattle.fingers.specs.Holds.{step, hold_of, grab_due, long_due, held_still}
use Rattle.fingers.specs.declared.gestures.Gesture.TheVariants.{Grab, LongPress}
use Rattle.fingers.specs.declared.gestures.Outcome.TheVariants.{Quiet, Gives}
use Rattle.fingers.specs.declared.one.App.{App}
use Rattle.fingers.specs.declared.one.One.{One}
use Rattle.fingers.specs.declared.one.OneStep.{OneStep}
use Rattle.fingers.specs.declared.settings.Settings.{Settings}
use Rattle.fingers.specs.declared.gestures.Gesture.{Gesture}
use Rattle.gesture.specs.Answers.{given_by}
use Rattle.gesture.specs.Trackers.{is_active}
use Rattle.gesture.specs.declared.record.Touch.{Touch}
use Rattle.gesture.specs.declared.record.Touch.TheVariants.{Idle, Down, Multi, Residual}
use Rattle.panel.proofs.Follow.{if-all}
use Rattle.panel.proofs.Laws.{and_left, and_right}
use Rattle.panel.specs.Tests as tests
use Rattle.panel.specs.Tests.{when◌then◌else◌, ◌and◌, ◌=?◌}
use Rattle.panel.specs.declared.points.Point.{Point}
use Rattle.history.proofs.Parts.{still_by}

-- by whether a Grab is due, and a LongPress
unfoldable pub due : Bool → Bool → Point → One → OneStep
due grab long start o =
    when◌then◌else◌ grab (step (Gives (Grab start)) (set_grabbed o)) (when◌then◌else◌ long (step (Gives (LongPress start)) (set_long_sent o)) (step Quiet o))

module _ (o : One) (app : App) (set : Settings) (since now : ℕ) where
  abbrev pub grab_now : Bool
  grab_now = grab_due o (hold_of app.direct set.grab_ms) (now - since)

  abbrev pub long_now : Bool
  long_now = long_due o set.grab_ms (now - since)

  pub held-is : (start : Point) → held_still o app start since now set ≡ due grab_now long_now start o
  unfolding held_still due
  held-is start = refl

  -- neither comes twice in a touch
  pub grab-new : grab_now ≡ true → o.grabbed ≡ false
  unfolding grab_due
  grab-new e = not-true o.grabbed (and_left _ _ (and_right _ _ (and_right _ _ e)))

  pub long-new : long_now ≡ true → o.long_sent ≡ false
  unfolding long_due
  long-new e = not-true o.long_sent (and_left _ _ (and_right _ _ e))

-- Which of them was given, by its place in the list of gestures, and that neither is the other or nothing.

abbrev pub is_grab : Option Gesture → Bool
is_grab None = false
is_grab (Some g) = place_of g =? 4

abbrev pub is_long : Option Gesture → Bool
is_long None = false
is_long (Some g) = place_of g =? 2

abbrev grabbed : One → Bool
grabbed o = o.grabbed

abbrev pub long_sent : One → Bool
long_sent o = o.long_sent

pub differ : {A B : Type 0} (f : A → Bool) {x y : A} → f x ≡ true → f y ≡ false → x ≡ y → B
differ f is is-not e = absurd (true≢false (sym is ∙ ap f e ∙ is-not))

-- two such steps are the same if they leave the same of the finger, and if they give the same
abbrev pub Alike : OneStep → OneStep → Type 0
Alike r s = (r.one ≡ s.one → r ≡ s) × (given_by r.out ≡ given_by s.out → r ≡ s)

abbrev pub New : One → Bool → Bool → Type 0
New o grab long = (grab ≡ true → o.grabbed ≡ false) × (long ≡ true → o.long_sent ≡ false)

module _ (start : Point) (o : One) where
  due-alike : (g l g' l' : Bool) → New o g l → New o g' l' → Alike (due g l start o) (due g' l' start o)
  unfolding due given_by set_grabbed set_long_sent tests.when◌then◌else◌
  due-alike true l true l' n n' = (λ e. refl, λ e. refl)
  due-alike true l false true n n' = (differ grabbed refl (n.0 refl), differ is_grab refl refl)
  due-alike true l false false n n' = (differ grabbed refl (n.0 refl), differ is_grab refl refl)
  due-alike false true true l' n n' = (λ e. differ grabbed refl (n'.0 refl) (sym e), λ e. differ is_grab refl refl (sym e))
  due-alike false false true l' n n' = (λ e. differ grabbed refl (n'.0 refl) (sym e), λ e. differ is_grab refl refl (sym e))
  due-alike false true false true n n' = (λ e. refl, λ e. refl)
  due-alike false true false false n n' = (differ long_sent refl (n.1 refl), differ is_long refl refl)
  due-alike false false false true n n' = (λ e. differ long_sent refl (n'.1 refl) (sym e), λ e. differ is_long refl refl (sym e))
  due-alike false false false false n n' = (λ e. refl, λ e. refl)

-- of one finger, whatever the app made of its touch, by whatever settings, at whatever times
pub still_alike : (x : Touch) (o : One) (app app' : App) (set set' : Settings) (now now' : ℕ) → Alike (still_by x o app set now) (still_by x o app' set' now')
unfolding still_by
still_alike Idle o app app' set set' now now' = (λ e. refl, λ e. refl)
still_alike Residual o app app' set set' now now' = (λ e. refl, λ e. refl)
still_alike (Multi m pair) o app app' set set' now now' = (λ e. refl, λ e. refl)
still_alike (Down start since) o app app' set set' now now' =
    rw (held-is o app set since now start, held-is o app' set' since now' start)
    (due-alike start o _ _ _ _ (grab-new o app set since now, long-new o app set since now) (grab-new o app' set' since now', long-new o app' set' since now'))

-- the finger stays where it is
pub still-there : (x : Touch) (o : One) (app : App) (set : Settings) (now : ℕ) → (still_by x o app set now).one.last ≡ o.last
unfolding still_by held_still set_grabbed set_long_sent
still-there Idle o app set now = refl
still-there Residual o app set now = refl
still-there (Multi m pair) o app set now = refl
still-there (Down start since) o app set now = if-all (λ (s : OneStep). s.one.last ≡ o.last) _ refl (if-all (λ (s : OneStep). s.one.last ≡ o.last) _ refl refl)

-- A tick looks at the grab time and at whether the touch is direct, and at nothing else of settings and app.
pub still-same : (x : Touch) (o : One) (app app' : App) (set set' : Settings) (now : ℕ) → app'.direct ≡ app.direct → set'.grab_ms ≡ set.grab_ms → still_by x o app' set' now ≡ still_by x o app set now
unfolding still_by held_still
still-same Idle o app app' set set' now d g = refl
still-same Residual o app app' set set' now d g = refl
still-same (Multi m pair) o app app' set set' now d g = refl
still-same (Down start since) o app app' set set' now d g =
    held-is o app' set' since now start
    ∙ ap₂ (λ (direct : Bool) (ms : ℕ). due (grab_due o (hold_of direct ms) (now - since)) (long_due o ms (now - since)) start o) d g
    ∙ sym (held-is o app set since now start)

-- A touch that becomes direct: no hold, and so no Grab, whatever the grab time.

abbrev pub GivesNoGrab : OneStep → Type 0
GivesNoGrab s = (p : Point) → given_by s.out ≡ Some (Grab p) → ⊥

module _ (start : Point) (o : One) where
  none-due : (l : Bool) → GivesNoGrab (due false l start o)
  unfolding due given_by tests.when◌then◌else◌
  none-due true p e = differ is_long refl refl e
  none-due false p e = differ is_grab refl refl (sym e)

  without-grab : (g l : Bool) → GivesNoGrab (due g l start o) → due false l start o ≡ due g l start o
  unfolding due given_by tests.when◌then◌else◌
  without-grab true l none = absurd (none start refl)
  without-grab false l none = refl

module _ (o : One) (app : App) (set set' : Settings) (now : ℕ) where
  abbrev directly : Touch → OneStep
  directly x = still_by x o (when◌then◌else◌ (is_active x) (set_direct app) app) set' now

  direct_is : (start : Point) (since : ℕ) → directly (Down start since) ≡ due false (long_now o app set' since now) start o
  unfolding still_by held_still due hold_of grab_due is_active set_direct tests.when◌then◌else◌ tests.◌and◌
  direct_is start since = refl

  pub direct-none : (x : Touch) → GivesNoGrab (directly x)
  unfolding still_by given_by
  direct-none Idle p = λ e. differ is_grab refl refl (sym e)
  direct-none Residual p = λ e. differ is_grab refl refl (sym e)
  direct-none (Multi m pair) p = λ e. differ is_grab refl refl (sym e)
  direct-none (Down start since) p = subst GivesNoGrab (sym (direct_is start since)) (none-due start o (long_now o app set' since now)) p

  pub direct-same : (x : Touch) → set'.grab_ms ≡ set.grab_ms → GivesNoGrab (still_by x o app set now) → directly x ≡ still_by x o app set now
  unfolding still_by
  direct-same Idle g none = refl
  direct-same Residual g none = refl
  direct-same (Multi m pair) g none = refl
  direct-same (Down start since) g none =
      direct_is start since
      ∙ ap (λ (ms : ℕ). due false (long_due o ms (now - since)) start o) g
      ∙ without-grab start o _ _ (subst GivesNoGrab (held-is o app set since now start) none)
      ∙ sym (held-is o app set since now start)
