-- When decoding answers and when it refuses, and what storing leaves. Assumes nothing.
use Rattle.std.specs.Prelude.{Result, Ok, Err}
use Prim.Native.Nat.{ℕ}
use mathlib.Core.Path.{◌≡◌, refl, sym, ◌∙◌, ap}
use mathlib.Core.Bool.{Bool, true, false, true≢false}
use mathlib.Core.List.{List, [], ◌∷◌}
use lib.ListN.{length}
use borrow.Author.Tests.{eqb-true, eq-eqb, ne_eqb}
use Rattle.std.specs.Bool.{then_some}
use Rattle.std.specs.Option.{ok_or}
use Rattle.panel.specs.Tests as tests
use Rattle.panel.specs.Tests.{when◌then◌else◌}
use Rattle.panel.specs.declared.refusals.Refusal.{Refusal}
use Rattle.panel.specs.declared.refusals.Refusal.TheVariants.{State}
use Rattle.panel.proofs.Follow.{if-true, if-false, and-true, and-false, if-know}
use Rattle.panel.proofs.Laws.{and_left, and_right}
use Rattle.gesture.specs.States.{state_rule}
use Rattle.gesture.specs.declared.record.Tracker.{Tracker}
use Rattle.image.specs.Image.{image_of, image_bytes}
use Rattle.image.specs.code.Settings.{at_end}
use Rattle.image.specs.code.Whole.{tracker_at, image_checked}
use Rattle.image.specs.code.Finding.{unruled_of, ruled_of}
use Rattle.image.specs.Typed.{Bytes}
use Rattle.image.specs.Codec.{same, is_image, decode_of, stored, encode_of}
use Rattle.image.proofs.Laid.{bytes-end, length-image}
use Rattle.image.proofs.Exactly.{image-passes, image-again}

-- The same bytes.

pub same_self : (l : List ℕ) → same l l ≡ true
unfolding same
same_self [] = refl
same_self (a ∷ l) = and-true _ _ (eq-eqb a a refl) ∙ same_self l

pub same-equal : (l m : List ℕ) → same l m ≡ true → l ≡ m
unfolding same
same-equal [] [] e = refl
same-equal [] (b ∷ m) e = absurd (true≢false (sym e))
same-equal (a ∷ l) [] e = absurd (true≢false (sym e))
same-equal (a ∷ l) (b ∷ m) e = λ i. eqb-true a b (and_left _ _ e) i ∷ same-equal l m (and_right _ _ e) i

pub same-differ : (l m : List ℕ) → (l ≡ m → ⊥) → same l m ≡ false
same-differ l m differ = by-test (same l m) refl
  where
    by-test : (s : Bool) → same l m ≡ s → same l m ≡ false
    by-test true is = absurd (differ (same-equal l m is))
    by-test false is = is

-- Decoding.

module _ (area : List ℕ) where
  pub decode-image : image_of (tracker_at area) ≡ area → state_rule (tracker_at area) ≡ true → decode_of area ≡ Ok (tracker_at area)
  unfolding decode_of is_image
  decode-image e v = if-true _ _ _ (and-true _ _ (ap (λ (l : List ℕ). same l area) e ∙ same_self area) ∙ v)

  pub decode-other : (image_of (tracker_at area) ≡ area → ⊥) → decode_of area ≡ Err State
  unfolding decode_of is_image
  decode-other differ = if-false _ _ _ (and-false _ _ (same-differ _ _ differ))

  pub decode-length : (length area ≡ image_bytes → ⊥) → decode_of area ≡ Err State
  decode-length differ = decode-other (λ e. differ (sym (ap length e) ∙ length-image (tracker_at area) ∙ sym bytes-end))

  pub refused-length : (length area ≡ at_end → ⊥) → Err State ≡ decode_of area
  refused-length differ = sym (decode-length (λ same_bytes. differ (same_bytes ∙ bytes-end)))

-- The same, from what the code looked at.

module _ (area : List ℕ) (long : length area ≡ at_end) (bytes : Bytes area) where
  pub found-answers : (t : Tracker) → t ≡ tracker_at area → image_checked area ≡ true → Ok t ≡ unruled_of area
  unfolding unruled_of is_image
  found-answers t is passes = ap Ok is ∙ sym (if-true _ _ _ (ap (λ (l : List ℕ). same l area) (image-again area bytes long passes) ∙ same_self area))

  pub found-fails : image_checked area ≡ false → Err State ≡ unruled_of area
  unfolding unruled_of is_image
  found-fails fails = sym (if-false _ _ _ (same-differ _ _ (λ e. true≢false (sym (image-passes (tracker_at area)) ∙ ap image_checked e ∙ fails))))

-- Decoding, from what was found.

is-answered : Result Tracker Refusal → Bool
is-answered (Ok t) = true
is-answered (Err why) = false

the-tracker : Tracker → Result Tracker Refusal → Tracker
the-tracker other (Ok t) = t
the-tracker other (Err why) = other

module _ (area : List ℕ) (t : Tracker) where
  abbrev Holds : Result Tracker Refusal → Type 0
  Holds d = Ok t ≡ d → (is_image area ≡ true) × (t ≡ tracker_at area)

  found-holds : Ok t ≡ unruled_of area → (is_image area ≡ true) × (t ≡ tracker_at area)
  unfolding unruled_of is-answered the-tracker
  found-holds = if-know Holds _ (Ok (tracker_at area)) (Err State) (λ yes e. (yes, ap (the-tracker t) e)) (λ other e. absurd (true≢false (ap is-answered e)))

  module _ (is : Ok t ≡ unruled_of area) where
    pub decode-keeps : state_rule t ≡ true → Ok t ≡ decode_of area
    unfolding decode_of
    decode-keeps kept =
        let h = found-holds is in
        ap Ok h.1 ∙ sym (if-true _ _ _ (and-true _ _ h.0 ∙ ap state_rule (sym h.1) ∙ kept))

    pub decode-breaks : state_rule t ≡ false → Err State ≡ decode_of area
    unfolding decode_of
    decode-breaks broken =
        let h = found-holds is in
        sym (if-false _ _ _ (and-true _ _ h.0 ∙ ap state_rule (sym h.1) ∙ broken))

module _ (area : List ℕ) (t : Tracker) (is : Ok t ≡ unruled_of area) where
  by-rule : (b : Bool) → state_rule t ≡ b → ruled_of t ≡ decode_of area
  unfolding ruled_of
  by-rule true kept = if-true _ _ _ kept ∙ decode-keeps area t is kept
  by-rule false broken = if-false _ _ _ broken ∙ decode-breaks area t is broken

  pub decode-ruled : ruled_of t ≡ decode_of area
  decode-ruled = by-rule (state_rule t) refl

module _ (area : List ℕ) (why : Refusal) where
  abbrev Fails : Result Tracker Refusal → Type 0
  Fails d = Err why ≡ d → Err why ≡ decode_of area

  pub decode-fails : Err why ≡ unruled_of area → Err why ≡ decode_of area
  unfolding unruled_of decode_of is-answered
  decode-fails =
      if-know Fails _ (Ok (tracker_at area)) (Err State)
      (λ yes e. absurd (true≢false (sym (ap is-answered e))))
      (λ other e. e ∙ sym (if-false _ _ _ (and-false _ _ other)))

-- Storing.

module _ (t : Tracker) where
  abbrev Keeps : Result Tracker Refusal → Type 0
  Keeps d = (u : Tracker) → Ok u ≡ d → (u ≡ t) × (state_rule t ≡ true)

  ruled-keeps : Keeps (ruled_of t)
  unfolding ruled_of
  ruled-keeps = if-know Keeps _ (Ok t) (Err State) (λ yes u e. (cc, yes)) (λ other u e. cc)

  -- the same by std's words
  by-bool : (b : Bool) → ok_or (then_some b t) State ≡ when◌then◌else◌ b (Ok t) (Err State)
  unfolding tests.when◌then◌else◌
  by-bool true = refl
  by-bool false = refl

  pub by-test : ok_or (then_some (state_rule t) t) State ≡ ruled_of t
  unfolding ruled_of
  by-test = by-bool (state_rule t)

  abbrev Breaks : Result Tracker Refusal → Type 0
  Breaks d = (why : Refusal) → Err why ≡ d → (why ≡ State) × (state_rule t ≡ false)

  ruled-breaks : Breaks (ruled_of t)
  unfolding ruled_of
  ruled-breaks = if-know Breaks _ (Ok t) (Err State) (λ yes why e. cc) (λ other why e. (cc, other))

module _ (t : Tracker) (area : List ℕ) where
  pub encode-length : (length area ≡ at_end → ⊥) → stored (Err State) area ≡ encode_of t area
  unfolding encode_of
  encode-length differ = sym (if-false _ _ _ (and-false _ _ (ne_eqb _ _ (λ same_bytes. differ (same_bytes ∙ bytes-end)))))

  module _ (long : length area ≡ at_end) where
    pub encode-done : (after : List ℕ) → state_rule t ≡ true → after ≡ image_of t → stored (Ok tt) after ≡ encode_of t area
    unfolding encode_of
    encode-done after kept e = ap (stored (Ok tt)) e ∙ sym (if-true _ _ _ (and-true _ _ (eq-eqb _ _ (long ∙ sym bytes-end)) ∙ kept))

    pub encode-ruled : (u : Tracker) (after : List ℕ) → Ok u ≡ ruled_of t → after ≡ image_of u → stored (Ok tt) after ≡ encode_of t area
    encode-ruled u after is e =
        let h = ruled-keeps t u is in
        encode-done after h.1 (e ∙ ap image_of h.0)

    pub encode-broken : (why : Refusal) → Err why ≡ ruled_of t → stored (Err why) area ≡ encode_of t area
    unfolding encode_of
    encode-broken why is =
        let h = ruled-breaks t why is in
        ap (λ (w : Refusal). stored (Err w) area) h.0 ∙ sym (if-false _ _ _ (and-true _ _ (eq-eqb _ _ (long ∙ sym bytes-end)) ∙ h.1))
