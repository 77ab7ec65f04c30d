-- Two captures or settings, and the same two the other way round. They set other settings and what the app made of the
-- touch, and nothing else. Assumes nothing.
use Prim.Native.Nat.{ℕ, min}
use mathlib.Core.Path.{◌≡◌, refl, sym, ap, ◌∙◌}
use mathlib.Core.Bool.{Bool, true, false, not, true≢false}
use mathlib.Core.List.{[], ◌∷◌}
use Rattle.fingers.specs.Fields.{set_captured, set_direct}
use Rattle.fingers.specs.Settings.{set_raw, set_grab}
use Rattle.fingers.specs.Thresholds.{grab_most}
use Rattle.fingers.specs.declared.one.App.{App}
use Rattle.fingers.specs.declared.settings.Settings.{Settings}
use Rattle.gesture.proofs.Keeps.{raw-captured}
use Rattle.gesture.specs.Captures.{takes}
use Rattle.gesture.specs.Calls.{Call, capture, capture_direct, raw_next, set_grab_ms}
use Rattle.gesture.specs.Runs.{after}
use Rattle.gesture.specs.States.{raw_rule, state_rule}
use Rattle.gesture.specs.Trackers.{whole, is_active}
use Rattle.gesture.specs.declared.record.Tracker.{Tracker}
use Rattle.panel.specs.Tests as tests
use Rattle.panel.specs.Tests.{◌and◌, ◌or◌}
use Rattle.history.specs.Orders.{◌exactly_if◌, Commute, LaterStands, wish_meets_touch, CaptureTwice, LaterWish, CaptureDirect, Setting}
use Rattle.history.proofs.Held.{differ}
use Rattle.history.proofs.Parts.{two-leave, settings_by, app_by, with, left, setting-leaves}

-- What the app made of a touch.

abbrev app_after : Call → Call → Tracker → App
app_after c d t = app_by d (left t c)

-- "raw needs captured"
raw-off : (raw captured : Bool) → ◌or◌ (not raw) captured ≡ true → captured ≡ false → raw ≡ false
unfolding tests.◌or◌
raw-off true captured rule is = sym rule ∙ is
raw-off false captured rule is = refl

module _ (t : Tracker) where
  once : (active captured : Bool) → is_active t.touch ≡ active → t.app.captured ≡ captured → app_after capture capture t ≡ app_by capture t
  unfolding left with whole takes tests.when◌then◌else◌ tests.◌and◌ set_captured
  once false c on is = rw on refl
  once true true on is = rw (on, is) refl
  once true false on is = rw (on, is) refl

  direct-once : (active : Bool) → is_active t.touch ≡ active → app_after capture_direct capture_direct t ≡ app_by capture_direct t
  unfolding left with whole tests.when◌then◌else◌ set_direct
  direct-once false on = rw on refl
  direct-once true on = rw on refl

  -- the first of the two makes the touch raw or not
  wish-once : (active captured wish : Bool) → is_active t.touch ≡ active → t.app.captured ≡ captured → t.settings.raw_next ≡ wish → raw_rule t.app ≡ true →
      (app_after capture capture_direct t ≡ app_after capture_direct capture t) exactly_if (wish_meets_touch t ≡ false)
  unfolding wish_meets_touch left with whole takes tests.when◌then◌else◌ tests.◌and◌ set_captured set_direct set_raw raw_rule
  wish-once false c w on is wished rule = rw on (λ same. refl, λ none. refl)
  wish-once true true w on is wished rule = rw (on, is) (λ same. refl, λ none. refl)
  wish-once true false true on is wished rule =
      rw (on, is)
      (λ same. differ (λ (a : App). a.raw) wished (raw-off t.app.raw t.app.captured rule is) same, λ none. differ (λ (b : Bool). b) wished refl none)
  wish-once true false false on is wished rule =
      rw (on, is) (λ same. wished, λ none. ap (λ (w : Bool). set_direct (set_captured t.app w)) (wished ∙ sym (raw-off t.app.raw t.app.captured rule is)))

  -- a wish that is withdrawn behind the capture, and before it
  wish-late : (active captured wish : Bool) → is_active t.touch ≡ active → t.app.captured ≡ captured → t.settings.raw_next ≡ wish →
      (app_after capture (raw_next false) t ≡ app_after (raw_next false) capture t) exactly_if (wish_meets_touch t ≡ false)
  unfolding wish_meets_touch left with whole takes tests.when◌then◌else◌ tests.◌and◌ set_captured set_raw
  wish-late false c w on is wished = rw on (λ same. refl, λ none. refl)
  wish-late true true w on is wished = rw (on, is) (λ same. refl, λ none. refl)
  wish-late true false true on is wished = rw (on, is) (λ same. differ (λ (a : App). a.raw) wished refl same, λ none. differ (λ (b : Bool). b) wished refl none)
  wish-late true false false on is wished = rw (on, is) (λ same. wished, λ none. ap (set_captured t.app) wished)

-- On a tracker that keeps the state rule.

abbrev wish_of : Tracker → Bool
wish_of t = t.settings.raw_next

module _ (t : Tracker) (h : state_rule t ≡ true) where
  in-turn : (c d : Call) → Setting c → Setting d → after t (c ∷ d ∷ []) ≡ left (left t c) d
  in-turn c d x y = two-leave c d (λ (u : Tracker). left u c) (λ (u : Tracker). left u d) (setting-leaves c x) (setting-leaves d y) t h

  both-orders : (c d : Call) → Setting c → Setting d → (left (left t c) d ≡ left (left t d) c) exactly_if Commute t c d
  both-orders c d x y = (λ e. in-turn c d x y ∙ e ∙ sym (in-turn d c y x), λ e. sym (in-turn c d x y) ∙ e ∙ in-turn d c y x)

  stands : (c d : Call) → Setting c → Setting d → left (left t c) d ≡ left t d → LaterStands t c d
  unfolding after
  stands c d x y e = in-turn c d x y ∙ e ∙ sym (setting-leaves d y t h)

  -- where the settings that two leave are the same, all hangs on what the app made of the touch
  by-app : (c d : Call) → Setting c → Setting d → (B : Type 0) → settings_by d (settings_by c t.settings) ≡ settings_by c (settings_by d t.settings) →
      (app_after c d t ≡ app_after d c t) exactly_if B → Commute t c d exactly_if B
  unfolding left with whole
  by-app c d x y B s e = (
    λ same. e.0 (ap (λ (u : Tracker). u.app) ((both-orders c d x y).1 same)),
    λ b. (both-orders c d x y).0 (ap (λ (u : Settings). with t u (app_after c d t)) s ∙ ap (with t (settings_by c (settings_by d t.settings))) (e.1 b)),
  )

  pub capture-direct-law : CaptureDirect t
  unfolding set_raw
  capture-direct-law =
      by-app capture capture_direct tt tt _ refl (wish-once t (is_active t.touch) t.app.captured t.settings.raw_next refl refl refl (raw-captured t h))

  pub capture-raw-law : (on : Bool) → Commute t capture (raw_next on) exactly_if (◌or◌ on (wish_meets_touch t) ≡ false)
  unfolding tests.◌or◌ left with whole set_raw
  capture-raw-law true = (λ same. absurd (true≢false (ap wish_of ((both-orders capture (raw_next true) tt tt).1 same))), λ none. absurd (true≢false none))
  capture-raw-law false = by-app capture (raw_next false) tt tt _ refl (wish-late t (is_active t.touch) t.app.captured t.settings.raw_next refl refl refl)

  pub direct-raw-law : (on : Bool) → Commute t capture_direct (raw_next on) exactly_if (on ≡ false)
  unfolding left with whole set_raw
  direct-raw-law true = (λ same. ap wish_of ((both-orders capture_direct (raw_next true) tt tt).1 same), λ none. absurd (true≢false none))
  direct-raw-law false = by-app capture_direct (raw_next false) tt tt _ refl (λ same. refl, λ none. refl)

  pub capture-twice-law : CaptureTwice t
  unfolding left with whole set_raw
  capture-twice-law = stands capture capture tt tt (ap (with t (set_raw t.settings false)) (once t (is_active t.touch) t.app.captured refl refl))

  pub direct-twice-law : LaterStands t capture_direct capture_direct
  unfolding left with whole set_raw
  direct-twice-law = stands capture_direct capture_direct tt tt (ap (with t (set_raw t.settings false)) (direct-once t (is_active t.touch) refl))

  -- of two wishes and of two grab times the later stands, so that the order counts unless they are the same

  pub raw-later-law : (a b : Bool) → LaterWish t a b
  unfolding left with whole set_raw
  raw-later-law a b = stands (raw_next a) (raw_next b) tt tt refl

  pub raw-raw-law : (a b : Bool) → Commute t (raw_next a) (raw_next b) exactly_if (a ≡ b)
  unfolding left with whole set_raw
  raw-raw-law a b = (
    λ same. sym (ap wish_of ((both-orders (raw_next a) (raw_next b) tt tt).1 same)),
    λ e. (both-orders (raw_next a) (raw_next b) tt tt).0 (ap (λ (on : Bool). with t (set_raw t.settings on) t.app) (sym e)),
  )

  pub grab-later-law : (a b : ℕ) → LaterStands t (set_grab_ms a) (set_grab_ms b)
  unfolding left with whole set_grab
  grab-later-law a b = stands (set_grab_ms a) (set_grab_ms b) tt tt refl

  pub grab-grab-law : (a b : ℕ) → Commute t (set_grab_ms a) (set_grab_ms b) exactly_if (min a grab_most ≡ min b grab_most)
  unfolding left with whole set_grab
  grab-grab-law a b = (
    λ same. sym (ap (λ (u : Tracker). u.settings.grab_ms) ((both-orders (set_grab_ms a) (set_grab_ms b) tt tt).1 same)),
    λ e. (both-orders (set_grab_ms a) (set_grab_ms b) tt tt).0 (ap (λ (ms : ℕ). with t (set_grab t.settings ms) t.app) (sym e)),
  )

  -- the grab time is a setting of its own

  pub capture-grab-law : (ms : ℕ) → Commute t capture (set_grab_ms ms)
  unfolding left with whole takes set_raw set_grab
  capture-grab-law ms = (both-orders capture (set_grab_ms ms) tt tt).0 refl

  pub direct-grab-law : (ms : ℕ) → Commute t capture_direct (set_grab_ms ms)
  unfolding left with whole set_raw set_grab
  direct-grab-law ms = (both-orders capture_direct (set_grab_ms ms) tt tt).0 refl

  pub raw-grab-law : (on : Bool) (ms : ℕ) → Commute t (raw_next on) (set_grab_ms ms)
  unfolding left with whole set_raw set_grab
  raw-grab-law on ms = (both-orders (raw_next on) (set_grab_ms ms) tt tt).0 refl
