-- What the host's calls promise: a refused call leaves every byte and tells zeros; a call of the tracker tells STATE for
-- exactly the areas that are no image; the next call finds the tracker that this one left, where that tracker has what its
-- type gives every tracker of the code (`Typed` of image); and each contract leaves one answer. Assumes nothing.
use Rattle.std.specs.Prelude.{None, Result, Ok, Err, is_ok}
use Prim.Native.Nat.{ℕ}
use native.Mathlib.Omega.{arith}
use mathlib.Core.Path.{◌≡◌, refl, sym, ◌∙◌, ap}
use mathlib.Core.Bool.{true, true≢false}
use mathlib.Core.List.{List, [], ◌∷◌}
use lib.IntN.{ℤ, pos}
use lib.ListN.{length, replicate}
use borrow.Author.Tests.{eq-eqb}
use Rattle.panel.proofs.Follow.{if-true, if-all, and-true}
use Rattle.panel.proofs.Promises.{one_answer}
use Rattle.calmap.specs.Maps.{apply_of}
use Rattle.calmap.specs.declared.units.Cal.{Cal}
use Rattle.gesture.proofs.Keeps.{call_kept, fresh_kept}
use Rattle.gesture.proofs.Promises.{told-determines, number_in, call-tells, grab-tells, grab-refused}
use Rattle.gesture.specs.Calls.{Call, report, tick, capture, capture_direct, raw_next, set_grab_ms, answer_of}
use Rattle.gesture.specs.States.{state_rule}
use Rattle.gesture.specs.Trackers.{fresh_tracker}
use Rattle.gesture.specs.declared.answers.Answer.{Answer}
use Rattle.gesture.specs.declared.answers.Response.{Response}
use Rattle.gesture.specs.Answers.{refused, answered, told_number, refusal_of, told_grab}
use Rattle.gesture.specs.declared.record.Tracker.{Tracker}
use Rattle.image.specs.Image.{image_of, image_bytes}
use Rattle.image.specs.Codec.{NoImage, decode_of, stored, encode_of}
use Rattle.image.specs.Numbers.{numbers_of, zeros}
use Rattle.image.specs.Calls.{Left, left, finished_by, finished, on_decoded, made_on, grab_decoded, grab_on}
use Rattle.image.specs.Typed.{Bytes, Typed}
use Rattle.image.proofs.Laid.{bytes-end}
use Rattle.image.proofs.Promises.{decode-of-image, no-image-refused, fresh-image}
use Rattle.host.specs.Hosts.{number_told, Hosted, hosted, hosted_by, Kept, kept, kept_by, GrabTold, grab_told, grab_hosted, Applied, applied, applied_by}
use Rattle.panel.specs.Refusals.{number_of, Told}
use Rattle.calmap.specs.declared.mapping.Spot.{Spot}
use Rattle.panel.specs.declared.refusals.Refusal.{Refusal}

-- "A refusal carries no other value (zeros, no gesture, no log line) and alters nothing."

module _ (area : List ℕ) where
  abbrev Unaltered : Hosted → Type 0
  Unaltered h = (h.number ≡ 0 → ⊥) → (h.area ≡ area) × (h.out ≡ zeros)

  told-unaltered : (told : Result Response Refusal) (a : Answer) → Unaltered (hosted_by (finished_by area told a))
  unfolding finished_by
  told-unaltered (Ok r) a = λ n. absurd (n refl)
  told-unaltered (Err why) a = λ n. (refl, refl)

  decoded-unaltered : (d : Result Tracker Refusal) (c : Call) → Unaltered (hosted_by (on_decoded area d c))
  unfolding on_decoded finished
  decoded-unaltered (Ok t) c = told-unaltered (answer_of t c).told (answer_of t c)
  decoded-unaltered (Err why) c = λ n. (refl, refl)

  pub refused-unaltered : (c : Call) → Unaltered (hosted_by (made_on area c))
  unfolding made_on
  refused-unaltered c = decoded-unaltered (decode_of area) c

  -- a refused grab time tells a zero; its area is lent to be read only
  grab-zero : (d : Result Tracker Refusal) → ((told_grab (grab_decoded d)).number ≡ 0 → ⊥) → (told_grab (grab_decoded d)).value ≡ 0
  unfolding grab_decoded
  grab-zero (Ok t) refused = grab-refused t refused
  grab-zero (Err why) refused = refl

  pub grab-refused-zero : ((grab_hosted area).number ≡ 0 → ⊥) → (grab_hosted area).out ≡ 0 ∷ []
  unfolding grab_hosted grab_on
  grab-refused-zero refused = ap (λ (ms : ℕ). ms ∷ []) (grab-zero (decode_of area) refused)

-- a place out of reach tells two zeros
pub apply-refused-zeros : (is : Result Spot Refusal) → ((applied_by is).number ≡ 0 → ⊥) → (applied_by is).out ≡ pos 0 ∷ pos 0 ∷ []
unfolding applied_by
apply-refused-zeros (Ok s) refused = absurd (refused refl)
apply-refused-zeros (Err why) refused = refl

-- STATE, number 1, for exactly the areas that are no image; the tracker's own call on one that is.

pub no-image-state : (area : List ℕ) (c : Call) → Bytes area → NoImage area → hosted_by (made_on area c) ≡ hosted 1 area zeros
unfolding made_on on_decoded
no-image-state area c bytes none = ap (λ (d : Result Tracker Refusal). hosted_by (on_decoded area d c)) (no-image-refused area bytes none)

-- a refusal's number is not 0
some-number : (why : Refusal) → number_of why ≡ 0 → ⊥
unfolding refused answered
some-number why none =
    let same = told-determines (refused why fresh_tracker) (answered None None fresh_tracker) (λ i. record { number = none i; gesture = None; log = None; tracker = fresh_tracker }) in
    absurd (true≢false (sym (ap (λ (a : Answer). is_ok a.told) same)))

answered-finished : (area : List ℕ) (a : Answer) (told : Result Response Refusal) → told_number told ≡ 0 → finished_by area told a ≡ left (Ok tt) (image_of a.tracker) (numbers_of a)
unfolding finished_by
answered-finished area a (Ok r) answers = refl
answered-finished area a (Err why) answers = absurd (some-number why answers)

module _ (t : Tracker) (typed : Typed t) (kept : state_rule t ≡ true) where
  pub on-image : (c : Call) → made_on (image_of t) c ≡ finished (image_of t) (answer_of t c)
  unfolding made_on on_decoded
  on-image c = ap (λ (d : Result Tracker Refusal). on_decoded (image_of t) d c) (decode-of-image t typed kept)

  -- an answered call leaves the image of the tracker that it leaves
  pub leaves-image : (c : Call) → refusal_of (answer_of t c) ≡ 0 → made_on (image_of t) c ≡ left (Ok tt) (image_of (answer_of t c).tracker) (numbers_of (answer_of t c))
  unfolding finished
  leaves-image c answers = on-image c ∙ answered-finished (image_of t) (answer_of t c) (answer_of t c).told answers

-- and an area on which a call tells STATE is no image: on an image a call of the tracker is answered, or refused for a point
told-finished : (area : List ℕ) (told : Result Response Refusal) (a : Answer) → number_told (finished_by area told a).told ≡ told_number told
unfolding finished_by
told-finished area (Ok r) a = refl
told-finished area (Err why) a = refl

finished-number : (area : List ℕ) (a : Answer) → number_told (finished area a).told ≡ refusal_of a
unfolding finished
finished-number area a = told-finished area a.told a

not-state : (c : Call) → number_in c ≡ 1 → ⊥
not-state (report now ev) e = if-all (λ (n : ℕ). n ≡ 1 → ⊥) _ (λ h. omega arith) (λ h. omega arith) e
not-state (tick now) e = omega arith
not-state capture e = omega arith
not-state capture_direct e = omega arith
not-state (raw_next on) e = omega arith
not-state (set_grab_ms ms) e = omega arith

pub state-no-image : (area : List ℕ) (c : Call) → (hosted_by (made_on area c)).number ≡ 1 → NoImage area
state-no-image area c state t typed kept is =
    not-state c
    (sym (call-tells t c kept)
    ∙ sym (finished-number (image_of t) (answer_of t c))
    ∙ sym (ap (λ (l : Left). number_told l.told) (on-image t typed kept c))
    ∙ ap (λ (xs : List ℕ). number_told (made_on xs c).told) is
    ∙ state)

-- the same of the grab time
pub grab-no-image-state : (area : List ℕ) → Bytes area → NoImage area → grab_hosted area ≡ grab_told 1 (0 ∷ [])
unfolding grab_hosted grab_on grab_decoded
grab-no-image-state area bytes none = ap (λ (d : Result Tracker Refusal). grab_told (told_grab (grab_decoded d)).number ((told_grab (grab_decoded d)).value ∷ [])) (no-image-refused area bytes none)

grab-on-image : (t : Tracker) → Typed t → state_rule t ≡ true → (grab_hosted (image_of t)).number ≡ 0
unfolding grab_hosted grab_on grab_decoded
grab-on-image t typed kept =
    ap (λ (d : Result Tracker Refusal). (told_grab (grab_decoded d)).number) (decode-of-image t typed kept)
    ∙ ap (λ (g : Told ℕ). g.number) (grab-tells t ∙ if-true _ _ _ kept)

pub grab-state-no-image : (area : List ℕ) → (grab_hosted area).number ≡ 1 → NoImage area
grab-state-no-image area state t typed kept is =
    let e : ◌≡◌ {A = ℕ} 0 1 = sym (grab-on-image t typed kept) ∙ ap (λ (xs : List ℕ). (grab_hosted xs).number) is ∙ state in
    omega arith

-- The next call finds the tracker that an answered one left: the state rule is kept.

pub next-finds : (t : Tracker) (c next : Call) → Typed t → state_rule t ≡ true → refusal_of (answer_of t c) ≡ 0 → Typed (answer_of t c).tracker → made_on (made_on (image_of t) c).area next ≡ finished (image_of (answer_of t c).tracker) (answer_of (answer_of t c).tracker next)
next-finds t c next typed kept answers typed-next =
    ap (λ (l : Left). made_on l.area next) (leaves-image t typed kept c answers) ∙ on-image (answer_of t c).tracker typed-next (call_kept t c kept) next

-- A fresh area: all zero, of any area of the image's length.

pub fresh-area : (area : List ℕ) → length area ≡ image_bytes → encode_of fresh_tracker area ≡ stored (Ok tt) (replicate image_bytes 0)
unfolding encode_of
fresh-area area long = if-true _ _ _ (and-true _ _ (eq-eqb _ _ long) ∙ fresh_kept) ∙ ap (stored (Ok tt)) (fresh-image ∙ ap (λ (n : ℕ). replicate n 0) (sym bytes-end))

-- Each contract determines what comes back: the number, the area and the numbers of the answer.

pub call-unique : (area : List ℕ) (c : Call) (r s : ℕ) (a b out told : List ℕ) → hosted r a out ≡ hosted_by (made_on area c) → hosted s b told ≡ hosted_by (made_on area c) → (r ≡ s) × (a ≡ b) × (out ≡ told)
call-unique area c r s a b out told p q =
    let e = one_answer p q in
    (ap (λ (h : Hosted). h.number) e, ap (λ (h : Hosted). h.area) e, ap (λ (h : Hosted). h.out) e)

pub grab-unique : (area : List ℕ) (r s : ℕ) (out told : List ℕ) → grab_told r out ≡ grab_hosted area → grab_told s told ≡ grab_hosted area → (r ≡ s) × (out ≡ told)
grab-unique area r s out told p q =
    let e = one_answer p q in
    (ap (λ (g : GrabTold). g.number) e, ap (λ (g : GrabTold). g.out) e)

pub fresh-unique : (area : List ℕ) (r s : ℕ) (a b : List ℕ) → kept r a ≡ kept_by (encode_of fresh_tracker area) → kept s b ≡ kept_by (encode_of fresh_tracker area) → (r ≡ s) × (a ≡ b)
fresh-unique area r s a b p q =
    let e = one_answer p q in
    (ap (λ (k : Kept). k.number) e, ap (λ (k : Kept). k.area) e)

pub apply-unique : (c : Cal) (x y : ℤ) (r s : ℕ) (a b : List ℤ) → applied r a ≡ applied_by (apply_of c x y) → applied s b ≡ applied_by (apply_of c x y) → (r ≡ s) × (a ≡ b)
apply-unique c x y r s a b p q =
    let e = one_answer p q in
    (ap (λ (z : Applied). z.number) e, ap (λ (z : Applied). z.out) e)
