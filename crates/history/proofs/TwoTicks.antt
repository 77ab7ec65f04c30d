-- Two ticks, and the same two the other way round. Assumes nothing.
use Rattle.std.specs.Prelude.{Option, Some, None}
use Prim.Native.Nat.{ℕ, ◌-◌}
use mathlib.Core.Path.{◌≡◌, refl, sym, ap, ap₂, ◌∙◌}
use mathlib.Core.Bool.{Bool, true, false, not}
use mathlib.Core.List.{[], ◌∷◌}
use mathlib.Core.Logic.{inl, inr, ⊎_elim}
use Rattle.fingers.specs.Fields.{set_grabbed, set_long_sent}
use Rattle.fingers.specs.Holds.{hold_of, is_on, grab_due, long_due, held_still}
use Rattle.fingers.specs.Keys.{key_step}
use Rattle.fingers.specs.declared.one.App.{App}
use Rattle.fingers.specs.declared.one.One.{One}
use Rattle.fingers.specs.declared.one.OneStep.{OneStep}
use Rattle.fingers.specs.declared.settings.Settings.{Settings}
use Rattle.fingers.specs.declared.gestures.Gesture.{Gesture}
use Rattle.gesture.specs.Answers.{given, given_by}
use Rattle.gesture.specs.Calls.{tick}
use Rattle.gesture.specs.Runs.{after}
use Rattle.gesture.specs.States.{state_rule}
use Rattle.gesture.specs.Trackers.{whole}
use Rattle.gesture.specs.declared.record.Touch.{Touch}
use Rattle.gesture.specs.declared.record.Touch.TheVariants.{Idle, Down, Multi, Residual}
use Rattle.gesture.specs.declared.record.Tracker.{Tracker}
use Rattle.panel.specs.Tests as tests
use Rattle.panel.specs.Tests.{when◌then◌else◌, ◌and◌}
use Rattle.panel.specs.declared.points.Point.{Point}
use Rattle.history.specs.Orders.{◌exactly_if◌, Commute, gives, Rearranged, SameGestures}
use Rattle.history.proofs.KeyLaw.{KeyStep}
use Rattle.history.proofs.Held.{due, grab_now, long_now, held-is, grab-new, long-new, is_grab, is_long, long_sent, differ, New, still_alike}
use Rattle.history.proofs.Moves.{never-more}
use Rattle.history.proofs.Parts.{behind, two-leave, still_by, out_by, keys_by, one_by, marked, key_of, still_of, given_in, left_in, tick-leaves, tick_gives}

abbrev gesture_of : OneStep → Option Gesture
gesture_of s = given_by s.out

-- A finger that is down alone, by whether a Grab and a LongPress are due at the one time and at the other.

-- what the second of two ticks makes of it
unfoldable second : Bool → Bool → Bool → Bool → Point → One → OneStep
second grab long grab' long' start o =
    when◌then◌else◌ grab (due false long' start (set_grabbed o)) (when◌then◌else◌ long (due grab' false start (set_long_sent o)) (due grab' long' start o))

-- a Grab is given once, and so is a LongPress; neither is in the other's way
module _ (o : One) where
  grab-once : (hold held : ℕ) → grab_due (set_grabbed o) hold held ≡ false
  unfolding grab_due set_grabbed tests.◌and◌
  grab-once hold held = ap (◌and◌ (is_on hold)) (never-more (not o.early)) ∙ never-more (is_on hold)

  long-once : (grab held : ℕ) → long_due (set_long_sent o) grab held ≡ false
  unfolding long_due set_long_sent tests.◌and◌
  long-once grab held = never-more (not o.moved)

module _ (start : Point) (o : One) where
  -- what is due then, by what was due before
  again : (grab long : One → Bool) → grab (set_grabbed o) ≡ false → long (set_grabbed o) ≡ long o → grab (set_long_sent o) ≡ grab o → long (set_long_sent o) ≡ false → (g l : Bool) →
      due (grab (due g l start o).one) (long (due g l start o).one) start (due g l start o).one ≡ second g l (grab o) (long o) start o
  unfolding due second tests.when◌then◌else◌
  again grab long gg lg gl ll true l = ap₂ (λ (x y : Bool). due x y start (set_grabbed o)) gg lg
  again grab long gg lg gl ll false true = ap₂ (λ (x y : Bool). due x y start (set_long_sent o)) gl ll
  again grab long gg lg gl ll false false = refl

  abbrev Turned : Bool → Bool → Bool → Bool → Type 0
  Turned g l g' l' =
      ((second g l g' l' start o).one ≡ (second g' l' g l start o).one)
      exactly_if Rearranged (gesture_of (due g l start o)) (gesture_of (second g l g' l' start o)) (gesture_of (due g' l' start o)) (gesture_of (second g' l' g l start o))

  due-turned : (g l g' l' : Bool) → New o g l → New o g' l' → Turned g l g' l'
  unfolding due second given_by set_grabbed set_long_sent tests.when◌then◌else◌
  due-turned true true true true n n' = (λ e. inl (refl, refl), λ r. refl)
  due-turned true false true false n n' = (λ e. inl (refl, refl), λ r. refl)
  -- the Grab comes first, and the LongPress is due at one of the two times alone
  due-turned true true true false n n' = (
    λ e. differ long_sent refl (n.1 refl) (sym e),
    ⊎_elim (λ r. differ is_long refl refl (sym r.1)) (λ r. differ is_grab refl refl (sym r.1)),
  )
  due-turned true false true true n n' = (
    λ e. differ long_sent refl (n'.1 refl) e,
    ⊎_elim (λ r. differ is_long refl refl r.1) (λ r. differ is_grab refl refl (sym r.1)),
  )
  -- else each is given at one of them, whichever comes first
  due-turned true l false true n n' = (λ e. inr (refl, refl), λ r. refl)
  due-turned true l false false n n' = (λ e. inr (refl, refl), λ r. refl)
  due-turned false true true l' n n' = (λ e. inr (refl, refl), λ r. refl)
  due-turned false false true l' n n' = (λ e. inr (refl, refl), λ r. refl)
  due-turned false true false true n n' = (λ e. inl (refl, refl), λ r. refl)
  due-turned false true false false n n' = (λ e. inr (refl, refl), λ r. refl)
  due-turned false false false true n n' = (λ e. inr (refl, refl), λ r. refl)
  due-turned false false false false n n' = (λ e. inl (refl, refl), λ r. refl)

-- Any touch.

module _ (app : App) (set : Settings) where
  abbrev still : Touch → One → ℕ → OneStep
  still x o now = still_by x o app set now

  abbrev twice : Touch → One → ℕ → ℕ → OneStep
  twice x o a b = still x (still x o a).one b

  held-twice : (start : Point) (since : ℕ) (o : One) (a b : ℕ) →
      twice (Down start since) o a b ≡ second (grab_now o app set since a) (long_now o app set since a) (grab_now o app set since b) (long_now o app set since b) start o
  unfolding still_by grab_due long_due set_grabbed set_long_sent
  held-twice start since o a b =
      let hold = hold_of app.direct set.grab_ms in
      held-is (held_still o app start since a set).one app set since b start
      ∙ ap (λ (s : OneStep). due (grab_now s.one app set since b) (long_now s.one app set since b) start s.one) (held-is o app set since a start)
      ∙ again start o (λ (u : One). grab_now u app set since b) (λ (u : One). long_now u app set since b) (grab-once o hold (b - since)) refl refl (long-once o set.grab_ms (b - since)) (grab_now o app set since a) (long_now o app set since a)

  abbrev Twice : (r r' s s' : OneStep) → Type 0
  Twice r r' s s' = (r'.one ≡ s'.one) exactly_if Rearranged (gesture_of r) (gesture_of r') (gesture_of s) (gesture_of s')

  still-turned : (x : Touch) (o : One) (a b : ℕ) → Twice (still x o a) (twice x o a b) (still x o b) (twice x o b a)
  unfolding still_by
  still-turned Idle o a b = (λ e. inl (refl, refl), λ r. refl)
  still-turned Residual o a b = (λ e. inl (refl, refl), λ r. refl)
  still-turned (Multi m pair) o a b = (λ e. inl (refl, refl), λ r. refl)
  still-turned (Down start since) o a b =
      rw (held-twice start since o a b, held-twice start since o b a, held-is o app set since a start, held-is o app set since b start)
      (due-turned start o _ _ _ _ (grab-new o app set since a, long-new o app set since a) (grab-new o app set since b, long-new o app set since b))

-- Keys that are left to tell come first: one for each tick, whatever its time.

is_same : KeyStep → Bool
is_same None = true
is_same (Some (g, told)) = false

module _ (t : Tracker) (a b : ℕ) where
  abbrev first_one : KeyStep → ℕ → One
  first_one k now = one_by k t.one (still_of t now)

  abbrev later : KeyStep → ℕ → ℕ → OneStep
  later k now next = still_by t.touch (first_one k now) t.app t.settings next

  keys-turned : (k k' : KeyStep) → (k ≡ None → k' ≡ None) →
      (one_by k' (first_one k a) (later k a b) ≡ one_by k' (first_one k b) (later k b a))
      exactly_if Rearranged (given_by (out_by k (still_of t a))) (given_by (out_by k' (later k a b))) (given_by (out_by k (still_of t b))) (given_by (out_by k' (later k b a)))
  unfolding is_same
  keys-turned None None s = still-turned t.app t.settings t.touch t.one a b
  keys-turned None (Some (g, told)) s = differ is_same refl refl (sym (s refl))
  keys-turned (Some (g, told)) (Some (g', told')) s = (λ e. inl (refl, refl), λ r. refl)
  keys-turned (Some (g, told)) None s =
      let alike = still_alike t.touch t.one t.app t.app t.settings t.settings b a in (
        λ e. inl (refl, ap gesture_of (alike.0 e)),
        ⊎_elim (λ r. ap (λ (s : OneStep). s.one) (alike.1 r.1)) (λ r. ap (λ (s : OneStep). s.one) (alike.1 (r.1 ∙ r.0))),
      )

-- Two ticks on a tracker that keeps the state rule.

module _ (t : Tracker) (h : state_rule t ≡ true) where
  in-turn : (a b : ℕ) → after t (tick a ∷ tick b ∷ []) ≡ left_in (left_in t a) b
  in-turn a b = two-leave (tick a) (tick b) (λ (u : Tracker). left_in u a) (λ (u : Tracker). left_in u b) (tick-leaves a) (tick-leaves b) t h

  then-gives : (a b : ℕ) → gives (after t (tick a ∷ [])) b ≡ given_in (left_in t a) b
  then-gives a b = behind given (tick a) (tick b) (λ (u : Tracker). left_in u a) (λ (u : Tracker). given_in u b) (tick-leaves a) (tick_gives b) t h

  pub tick-tick-law : (a b : ℕ) → Commute t (tick a) (tick b) exactly_if SameGestures t a b
  unfolding marked whole
  tick-tick-law a b =
      let k' = key_step (keys_by (key_of t) t.keys).told (keys_by (key_of t) t.keys).wanted in
      let law = keys-turned t a b (key_of t) k' (λ e. ap (λ (k : KeyStep). key_step (keys_by k t.keys).told (keys_by k t.keys).wanted) e ∙ e) in
      rw (tick_gives a t h, tick_gives b t h, then-gives a b, then-gives b a, in-turn a b, in-turn b a) (
        λ same. law.0 (ap (λ (u : Tracker). u.one) same),
        λ alike. ap (marked t (keys_by k' (keys_by (key_of t) t.keys))) (law.1 alike),
      )
