-- A capture or a setting and a tick, and the same the other way round. They set other parts of the tracker, so that all
-- hangs on what the tick makes of a finger that is down alone. Assumes nothing.
use Rattle.std.specs.Prelude.{Option, Some, None}
use Prim.Native.Nat.{ℕ}
use mathlib.Core.Path.{◌≡◌, refl, sym, ap, ap₂, ◌∙◌}
use mathlib.Core.Bool.{Bool, true, false}
use mathlib.Core.List.{[], ◌∷◌}
use Rattle.fingers.specs.Fields.{set_captured}
use Rattle.fingers.specs.Keys.{key_step}
use Rattle.fingers.specs.Settings.{set_raw}
use Rattle.fingers.specs.declared.gestures.Gesture.TheVariants.{Grab}
use Rattle.fingers.specs.declared.one.App.{App}
use Rattle.fingers.specs.declared.one.One.{One}
use Rattle.fingers.specs.declared.one.OneStep.{OneStep}
use Rattle.fingers.specs.declared.gestures.Gesture.{Gesture}
use Rattle.gesture.specs.Answers.{refusal_of, given, given_by}
use Rattle.gesture.specs.Calls.{Call, tick, capture, capture_direct, raw_next, answer_of}
use Rattle.gesture.specs.Runs.{after}
use Rattle.gesture.specs.States.{state_rule}
use Rattle.gesture.specs.Trackers.{whole}
use Rattle.gesture.specs.declared.record.Tracker.{Tracker}
use Rattle.panel.proofs.Follow.{if-all}
use Rattle.panel.specs.declared.points.Point.{Point}
use Rattle.history.specs.Orders.{◌exactly_if◌, Commute, AnswersAlike, CaptureTick, NoGrab, Setting}
use Rattle.history.specs.Runs.{Said}
use Rattle.history.proofs.KeyLaw.{KeyStep}
use Rattle.history.proofs.Held.{is_grab, differ, Alike, GivesNoGrab, still_alike, still-same, direct-none, direct-same}
use Rattle.history.proofs.Parts.{behind, two-leave, settings_by, app_by, with, left, setting-leaves, app-unmarked, out_by, keys_by, one_by, marked, key_of, given_in, one_in, left_in, tick-leaves, tick_gives, tick-answered}

-- a key that is told comes first, whatever the finger does
key-alike : (k : KeyStep) (o : One) (r s : OneStep) → Alike r s → (one_by k o r ≡ one_by k o s) exactly_if (given_by (out_by k r) ≡ given_by (out_by k s))
key-alike (Some (g, told)) o r s a = (λ e. refl, λ e. refl)
key-alike None o r s a = (λ e. ap (λ (u : OneStep). given_by u.out) (a.0 e), λ e. ap (λ (u : OneStep). u.one) (a.1 e))

abbrev NoGrabBy : OneStep → KeyStep → Type 0
NoGrabBy s k = (p : Point) → given_by (out_by k s) ≡ Some (Grab p) → ⊥

-- and it is no Grab
key-none : (told wanted : ℕ) (s : OneStep) → GivesNoGrab s → NoGrabBy s (key_step told wanted)
unfolding key_step given_by
key-none told wanted s none =
    if-all (NoGrabBy s) _ (λ p e. differ is_grab refl refl (sym e)) (if-all (NoGrabBy s) _ (λ p e. differ is_grab refl refl (sym e)) none)

key-same : (k : KeyStep) (r s : OneStep) → (GivesNoGrab s → r ≡ s) → NoGrabBy s k → given_by (out_by k r) ≡ given_by (out_by k s)
key-same (Some (g, told)) r s same none = refl
key-same None r s same none = ap (λ (u : OneStep). given_by u.out) (same none)

abbrev said_of : ℕ → ℕ → Option Gesture → Said
said_of now number g = record { call = tick now; refusal = number; given = g }

module _ (t : Tracker) (h : state_rule t ≡ true) where
  module _ (c : Call) (x : Setting c) (now : ℕ) where
    tick-before : after t (tick now ∷ c ∷ []) ≡ marked (left t c) (keys_by (key_of t) t.keys) (one_in t now)
    unfolding left with marked whole
    tick-before =
        two-leave (tick now) c (λ (u : Tracker). left_in u now) (λ (u : Tracker). left u c) (tick-leaves now) (setting-leaves c x) t h
        ∙ ap (with (left_in t now) (settings_by c t.settings)) (app-unmarked c t (keys_by (key_of t) t.keys) (one_in t now))

    tick-behind : after t (c ∷ tick now ∷ []) ≡ left_in (left t c) now
    tick-behind = two-leave c (tick now) (λ (u : Tracker). left u c) (λ (u : Tracker). left_in u now) (setting-leaves c x) (tick-leaves now) t h

    by-finger : Commute t c (tick now) exactly_if (one_in (left t c) now ≡ one_in t now)
    unfolding left with marked whole
    by-finger = (
      λ same. ap (λ (u : Tracker). u.one) (sym tick-behind ∙ same ∙ tick-before),
      λ e. tick-behind ∙ ap (marked (left t c) (keys_by (key_of t) t.keys)) e ∙ sym tick-before,
    )

    then-gives : given (answer_of (after t (c ∷ [])) (tick now)) ≡ given_in (left t c) now
    then-gives = behind given c (tick now) (λ (u : Tracker). left u c) (λ (u : Tracker). given_in u now) (setting-leaves c x) (tick_gives now) t h

    then-answered : refusal_of (answer_of (after t (c ∷ [])) (tick now)) ≡ 0
    then-answered = behind refusal_of c (tick now) (λ (u : Tracker). left u c) (λ (u : Tracker). 0) (setting-leaves c x) (tick-answered now) t h

    pub by-given : AnswersAlike t c (tick now) exactly_if (given_in (left t c) now ≡ given_in t now)
    by-given = (
      λ same. sym then-gives ∙ ap (λ (s : Said). s.given) same ∙ tick_gives now t h,
      λ e. ap₂ (said_of now) (then-answered ∙ sym (tick-answered now t h)) (then-gives ∙ e ∙ sym (tick_gives now t h)),
    )

    finger-tells : (one_in (left t c) now ≡ one_in t now) exactly_if (given_in (left t c) now ≡ given_in t now)
    unfolding left with whole
    finger-tells = key-alike (key_of t) t.one _ _ (still_alike t.touch t.one (app_by c t) t.app (settings_by c t.settings) t.settings now now)

    pub tick-law : Commute t c (tick now) exactly_if AnswersAlike t c (tick now)
    tick-law = (λ same. by-given.1 (finger-tells.0 (by-finger.0 same)), λ alike. by-finger.1 (finger-tells.1 (by-given.0 alike)))

    -- a call that leaves the grab time, and direct as it is
    unseen : (app_by c t).direct ≡ t.app.direct → (settings_by c t.settings).grab_ms ≡ t.settings.grab_ms → Commute t c (tick now) × AnswersAlike t c (tick now)
    unfolding left with whole
    unseen d g =
        let alike = by-given.1 (ap (λ (s : OneStep). given_by (out_by (key_of t) s)) (still-same t.touch t.one t.app _ t.settings _ now d g)) in (
          tick-law.1 alike,
          alike,
        )

  -- a capture leaves direct as it is
  pub capture-tick-law : (now : ℕ) → CaptureTick t now
  unfolding set_captured set_raw
  capture-tick-law now = unseen capture tt now (if-all (λ (a : App). a.direct ≡ t.app.direct) _ refl refl) refl

  pub raw-tick-law : (on : Bool) (now : ℕ) → Commute t (raw_next on) (tick now) × AnswersAlike t (raw_next on) (tick now)
  unfolding set_raw
  raw-tick-law on now = unseen (raw_next on) tt now refl refl

  pub direct-tick-law : (now : ℕ) → Commute t capture_direct (tick now) exactly_if NoGrab t now
  unfolding left with whole set_raw
  direct-tick-law now =
      let told = tick_gives now t h in
      let set = set_raw t.settings false in (
        λ same p grab.
            key-none t.keys.told t.keys.wanted _ (direct-none t.one t.app t.settings set now t.touch) p
            ((by-given capture_direct tt now).0 ((tick-law capture_direct tt now).0 same) ∙ sym told ∙ grab),
        λ none.
            (tick-law capture_direct tt now).1
            ((by-given capture_direct tt now).1
            (key-same (key_of t) _ _ (direct-same t.one t.app t.settings set now t.touch refl) (λ p e. none p (told ∙ e)))),
      )
