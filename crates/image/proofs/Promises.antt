-- What the byte image promises: one image to a tracker, both ways; which areas are refused; that a refused call leaves
-- every byte; and that each contract leaves one answer. Assumes nothing.
use Rattle.std.specs.Prelude.{None, Result, Ok, Err}
use Prim.Native.Nat.{ℕ, ◌-◌}
use mathlib.Core.Path.{◌≡◌, refl, sym, ◌∙◌, ap}
use mathlib.Core.Bool.{Bool, true, false, true≢false}
use mathlib.Core.List.{List, [], ◌∷◌, ◌++◌}
use lib.ListN.{length, replicate}
use borrow.Author.Tests.{eq-eqb}
use Rattle.panel.specs.Tests as tests
use Rattle.panel.specs.Tests.{when◌then◌else◌, ◌and◌}
use Rattle.panel.specs.declared.refusals.Refusal.TheVariants.{State}
use Rattle.panel.proofs.Follow.{if-true, if-false, if-of, if-know, if-all, and-true}
use Rattle.panel.proofs.Laws.{and_left, and_right}
use Rattle.panel.proofs.Promises.{one_answer}
use Rattle.fingers.specs.Fields as fields
use Rattle.fingers.specs.Settings as settings
use Rattle.gesture.specs.States.{state_rule}
use Rattle.gesture.specs.Trackers as trackers
use Rattle.gesture.specs.Trackers.{fresh_tracker, touched}
use Rattle.panel.specs.Axes as axes
use Rattle.gesture.specs.declared.record.Touch.TheVariants.{Down}
use Rattle.gesture.specs.Calls.{Call}
use Rattle.gesture.specs.declared.making.Call as value
use Rattle.gesture.specs.declared.record.Tracker.{Tracker}
use Rattle.image.specs.Rows.{bytes_of, laid}
use Rattle.image.specs.Image.{image_bytes, touch_number, start_of, since_of, multi_of, pairing_of, pair_number, pair_of, end_number, end_time, lock_number, point_rows, down_rows, multi_rows, pair_rows, pairing_rows, touch_rows, finger_rows, one_rows, taken_rows, end_rows, key_rows, setting_rows, table, image_of}
use Rattle.image.specs.code.Settings.{at_end}
use Rattle.image.specs.code.Whole.{tracker_at}
use Rattle.image.specs.Typed.{Bytes, Typed}
use Rattle.image.specs.Codec.{NoImage, Decodes, is_image, decode_of, told_decode, Stored, stored, encode_of}
use Rattle.image.specs.Calls.{Left, left, made_on, grab_on}
use Rattle.image.proofs.Back.{tracker-back, tracker-typed}
use Rattle.image.proofs.Codecs.{same-equal, decode-image, decode-length}
use Rattle.panel.specs.declared.refusals.Refusal.{Refusal}

-- Decoding what was encoded gives the tracker back.

module _ (t : Tracker) (typed : Typed t) (kept : state_rule t ≡ true) where
  pub decode-of-image : decode_of (image_of t) ≡ Ok t
  decode-of-image =
      let back = tracker-back t typed in
      decode-image (image_of t) (ap image_of back) (ap state_rule back ∙ kept) ∙ ap Ok back

  pub encode-stores : (area : List ℕ) → length area ≡ image_bytes → encode_of t area ≡ stored (Ok tt) (image_of t)
  unfolding encode_of
  encode-stores area long = if-true _ _ _ (and-true _ _ (eq-eqb _ _ long) ∙ kept)

  pub decode-of-encode : (area : List ℕ) → length area ≡ image_bytes → decode_of (encode_of t area).area ≡ Ok t
  decode-of-encode area long = ap (λ (s : Stored). decode_of s.area) (encode-stores area long) ∙ decode-of-image

-- Encoding what was decoded gives the bytes back.

answered : Result Tracker Refusal → Bool
answered (Ok t) = true
answered (Err why) = false

held : Tracker → Result Tracker Refusal → Tracker
held other (Ok t) = t
held other (Err why) = other

abbrev pub Found : List ℕ → Tracker → Type 0
Found area t = (image_of t ≡ area) × (state_rule t ≡ true)

module _ (area : List ℕ) where
  abbrev IsFound : Tracker → Result Tracker Refusal → Type 0
  IsFound t d = d ≡ Ok t → Found area t

  pub image-of-decoded : (t : Tracker) → decode_of area ≡ Ok t → Found area t
  unfolding decode_of is_image answered held
  image-of-decoded t =
      if-know (IsFound t) _ (Ok (tracker_at area)) (Err State)
      (λ yes e.
      let is : tracker_at area ≡ t = ap (held t) e in
      (ap image_of (sym is) ∙ same-equal _ _ (and_left _ _ yes), ap state_rule (sym is) ∙ and_right _ _ yes))
      (λ other e. absurd (true≢false (sym (ap answered e))))

-- One tracker to an image.

pub one-tracker : (r s : Tracker) → Typed r → Typed s → image_of r ≡ image_of s → r ≡ s
one-tracker r s typed-r typed-s e = sym (tracker-back r typed-r) ∙ ap tracker_at e ∙ tracker-back s typed-s

-- "any other area, too short or long included, is STATE": refused exactly if it is the image of no tracker that keeps the
-- state rule.

pub refused-no-image : (area : List ℕ) → decode_of area ≡ Err State → NoImage area
unfolding answered
refused-no-image area refused t typed kept e = true≢false (ap answered (sym (decode-of-image t typed kept) ∙ ap decode_of e ∙ refused))

pub no-image-refused : (area : List ℕ) → Bytes area → NoImage area → decode_of area ≡ Err State
unfolding decode_of is_image
no-image-refused area bytes none =
    if-know (λ (d : Result Tracker Refusal). d ≡ Err State) _ (Ok (tracker_at area)) (Err State)
    (λ yes. absurd (none (tracker_at area) (tracker-typed area bytes) (and_right _ _ yes) (same-equal _ _ (and_left _ _ yes))))
    (λ other. refl)

pub wrong-length-refused : (area : List ℕ) → (length area ≡ image_bytes → ⊥) → decode_of area ≡ Err State
wrong-length-refused = decode-length

-- Decoding is what `Decodes` asks for, and there is one such answer.

pub decodes : (area : List ℕ) → Bytes area → Decodes area (decode_of area)
unfolding decode_of is_image
decodes area bytes =
    if-know (Decodes area) _ (Ok (tracker_at area)) (Err State)
    (λ yes. (same-equal _ _ (and_left _ _ yes), and_right _ _ yes))
    (λ other. (refl, refused-no-image area (if-false _ _ _ other)))

abbrev TypedAnswer : Result Tracker Refusal → Type 0
TypedAnswer (Ok t) = Typed t
TypedAnswer (Err why) = Unit {0}

pub one-decoding : (area : List ℕ) (r s : Result Tracker Refusal) → TypedAnswer r → TypedAnswer s → Decodes area r → Decodes area s → r ≡ s
one-decoding area (Ok t) (Ok u) typed-t typed-u p q = ap Ok (one-tracker t u typed-t typed-u (p.0 ∙ sym q.0))
one-decoding area (Ok t) (Err why) typed none p q = absurd (q.1 t typed p.1 p.0)
one-decoding area (Err why) (Ok u) none typed p q = absurd (p.1 u typed q.1 q.0)
one-decoding area (Err why) (Err other) none typed p q = ap Err (p.0 ∙ sym q.0)

-- In document 01's numbers: 0 and the tracker, or STATE, number 1.

pub decode-tells : (area : List ℕ) → told_decode (decode_of area) ≡ when◌then◌else◌ (◌and◌ (is_image area) (state_rule (tracker_at area))) (record { number = 0; value = tracker_at area }) (record { number = 1; value = fresh_tracker })
unfolding decode_of told_decode
decode-tells area = if-of told_decode _ _ _

-- A refused call leaves every byte.

abbrev pub Unaltered : List ℕ → Stored → Type 0
Unaltered area s = (s.told ≡ Ok tt → ⊥) → s ≡ stored (Err State) area

pub encode-refused-unaltered : (t : Tracker) (area : List ℕ) → Unaltered area (encode_of t area)
unfolding encode_of
encode-refused-unaltered t area = if-all (Unaltered area) _ (λ n. absurd (n refl)) (λ n. refl)

-- Each contract determines what comes back: the answer, and the area.

pub decode-unique : (area : List ℕ) {r s : Result Tracker Refusal} → r ≡ decode_of area → s ≡ decode_of area → r ≡ s
decode-unique area = one_answer

pub grab-unique : (area : List ℕ) {r s : Result ℕ Refusal} → r ≡ grab_on area → s ≡ grab_on area → r ≡ s
grab-unique area = one_answer

pub plain-unique : (c : value.Call) {r s : value.Call} → r ≡ c → s ≡ c → r ≡ s
plain-unique c = one_answer

pub make-unique : (area : List ℕ) (c : Call) (r s : Result (Unit {0}) Refusal) (a b out told : List ℕ) → left r a out ≡ made_on area c → left s b told ≡ made_on area c → (r ≡ s) × (a ≡ b) × (out ≡ told)
make-unique area c r s a b out told p q =
    let e = one_answer p q in
    (ap (λ (l : Left). l.told) e, ap (λ (l : Left). l.area) e, ap (λ (l : Left). l.out) e)

pub encode-unique : (t : Tracker) (area : List ℕ) (r s : Result (Unit {0}) Refusal) (a b : List ℕ) → stored r a ≡ encode_of t area → stored s b ≡ encode_of t area → (r ≡ s) × (a ≡ b)
encode-unique t area r s a b p q =
    let e = one_answer p q in
    (ap (λ (x : Stored). x.told) e, ap (λ (x : Stored). x.area) e)

-- Worked examples: the fresh tracker's image is all zero; a finger that went down at (300, 50) at time 1000 is there in
-- its own bytes.

pub fresh-image : image_of fresh_tracker ≡ replicate at_end 0
unfolding bytes_of laid touch_number start_of since_of multi_of pairing_of pair_number pair_of end_number end_time lock_number point_rows down_rows multi_rows pair_rows pairing_rows touch_rows finger_rows one_rows taken_rows end_rows key_rows setting_rows table image_of trackers.fresh_tracker trackers.whole fields.reset fields.untaken settings.unset tests.bit axes.axis_number
fresh-image = refl

pub down-image : image_of (touched fresh_tracker (Down (record { x = 300; y = 50 }) 1000) fresh_tracker.one fresh_tracker.app None) ≡ (1 ∷ 44 ∷ 1 ∷ 50 ∷ 0 ∷ 232 ∷ 3 ∷ []) ++ replicate (at_end - 7) 0
unfolding bytes_of laid touch_number start_of since_of multi_of pairing_of pair_number pair_of end_number end_time lock_number point_rows down_rows multi_rows pair_rows pairing_rows touch_rows finger_rows one_rows taken_rows end_rows key_rows setting_rows table image_of trackers.touched trackers.fresh_tracker trackers.whole fields.reset fields.untaken settings.unset tests.bit axes.axis_number
down-image = refl
