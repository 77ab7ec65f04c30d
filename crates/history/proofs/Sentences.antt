-- Demand 3 in parts, one theorem to a sentence, each at any place of any history of accepted calls: read off `demand-3` of
-- proofs/Demanded.antt, which joins them. The sentence on spent reports is `spent-fingers` of proofs/Unread.antt. Assumes
-- nothing.
use Rattle.std.specs.Prelude.{Option, Some}
use Prim.Native.Nat.{ℕ, suc, ◌≤◌}
use mathlib.Core.Path.{◌≡◌, refl, sym, ap, ap₂, subst, ◌∙◌}
use mathlib.Core.Bool.{true, false}
use mathlib.Core.List.{List, [], ◌∷◌, ◌++◌}
use native.Mathlib.Omega.{arith}
use native.Mathlib.Nat.{not-suc-le-zero}
use lib.ListN.{length}
use borrow.Author.Tests.{eq-eqb, ne_eqb}
use Rattle.fingers.specs.declared.gestures.Gesture.{Gesture}
use Rattle.fingers.specs.declared.gestures.Gesture.TheVariants.{Down}
use Rattle.gesture.specs.Calls.{Call, report, tick, capture, capture_direct, raw_next, set_grab_ms}
use Rattle.panel.proofs.Follow.{if-true, if-false, if-all}
use Rattle.panel.specs.Tests.{◌or◌}
use Rattle.panel.specs.declared.points.Event.{Event}
use Rattle.history.specs.Demand.{Repeats, NextChange, Tells, TellsAll, KeysTold, had_several, excepted_with_one, excepted_never_more, DownAtOnce, Promised, Kept, Demand}
use Rattle.history.specs.Gestures.{gives_one_finger, tells_key, tells_keys_only}
use Rattle.history.specs.Keys.{differing, changes}
use Rattle.history.specs.Places.{known, Place, and_answer, answers, AllRepeat, InFull}
use Rattle.history.specs.Runs.{Said}
use Rattle.history.specs.Spent.{Spent}
use Rattle.history.specs.Touches.{Touch, on, with_one, with_several, counted, off, close, Seen, start, watch}
use Rattle.history.proofs.Demanded.{demand-3}
use Rattle.history.proofs.Differ.{as-many-changes, no-changes}
use Rattle.history.proofs.Unread.{spent-fingers}

-- The changes told in turn, in one piece.

abbrev Onward : ℕ → List Said → Type 0
Onward mask xs = (left : List Gesture) → TellsAll mask left xs → length left ≤ length (answers xs) → InFull left (answers xs)

in-turn : (mask : ℕ) (g : Option Gesture) (xs : List Said) (left : List Gesture) → NextChange left g (λ left. TellsAll mask left xs) → Onward mask xs → length left ≤ suc (length (answers xs)) →
    InFull left (g ∷ answers xs)
in-turn mask g xs [] h onward enough =
    let r = onward [] h.1 (omega arith) in
    (g ∷ r.0, ap (λ (l : List (Option Gesture)). g ∷ l) r.1, (h.0, r.2))
in-turn mask g xs (change ∷ left) h onward enough =
    let r = onward left h.1 (omega (arith, enough)) in
    (r.0, ap₂ (λ (x : Option Gesture) (l : List (Option Gesture)). x ∷ l) h.0 r.1, r.2)

full_at : (mask : ℕ) (c : Call) (g : Option Gesture) (xs : List Said) → Onward mask xs → (left : List Gesture) → Tells left c g (λ left. TellsAll mask left xs) →
    length left ≤ length (and_answer c g (answers xs)) → InFull left (and_answer c g (answers xs))
full_at mask (report now ev) g xs onward left h enough = in-turn mask g xs left h onward enough
full_at mask (tick now) g xs onward left h enough = in-turn mask g xs left h onward enough
full_at mask capture g xs onward left h enough = onward left h.1 enough
full_at mask capture_direct g xs onward left h enough = onward left h.1 enough
full_at mask (raw_next wish) g xs onward left h enough = onward left h.1 enough
full_at mask (set_grab_ms ms) g xs onward left h enough = onward left h.1 enough

in-full : (mask : ℕ) (xs : List Said) → AllRepeat mask xs → Onward mask xs
unfolding TellsAll answers
in-full mask [] a [] h enough = ([], refl, tt)
in-full mask [] a (change ∷ left) h enough = absurd (not-suc-le-zero enough)
in-full mask (x ∷ xs) a left h enough = full_at mask x.call x.given xs (in-full mask xs a.1) left (h a.0) enough

-- The sentences, at a place in a history.

kept_at : (xs : List Said) (s : Seen) (x : Said) (ys : List Said) → Kept s (xs ++ (x ∷ ys)) → Promised (known s xs) x ys
unfolding Kept known
kept_at [] s x ys k = k.0
kept_at (y ∷ xs) s x ys k = kept_at xs (watch s y.call y.given) x ys k.1

-- an unspent report with fingers: a touch is on after it
counted-on : (s : Seen) (n now : ℕ) → 1 ≤ n → (t : Touch) × ((counted s n now).touch ≡ on t)
unfolding counted
counted-on s n now some =
    let IsOn : Seen → Type 0 = λ s'. (t : Touch) × (s'.touch ≡ on t) in
    subst IsOn (sym (if-false _ _ _ (ne_eqb n 0 (λ z. omega (arith, some, z))))) (if-all IsOn _ (with_one s.touch s.before now, refl) (with_several s.touch, refl))

module _ (xs : List Said) (x : Said) (ys : List Said) (place : Place xs x ys) where
  -- what the observer knows before the call, and after it
  abbrev knew : Seen
  knew = known start xs

  abbrev knows : Seen
  knows = watch (known start xs) x.call x.given

  pub promised : Promised (known start xs) x ys
  unfolding Demand
  promised = kept_at xs start x ys (subst (Kept start) place.split (demand-3 place.calls place.accepted))

  -- "Take any accepted calls on a fresh tracker."
  pub accepted-answered : x.refusal ≡ 0
  accepted-answered = promised.answered

  -- "If a report's mask differs in d keys, at least one, from those told, and later reports repeat it, that call and the
  -- next d-1 reports or ticks tell each change once, releases first, low codes first; then none."
  pub keys-told-in-turn : (now : ℕ) (ev : Event) → x.call ≡ report now ev → TellsAll ev.keys (changes knew.keys ev.keys) (x ∷ ys)
  keys-told-in-turn now ev e = subst (λ (c : Call). KeysTold (known start xs) c (x ∷ ys)) e promised.keys

  pub keys-told-once : (now : ℕ) (ev : Event) → x.call ≡ report now ev → AllRepeat ev.keys ys → length (differing knew.keys ev.keys) ≤ length (answers (x ∷ ys)) →
      InFull (changes knew.keys ev.keys) (answers (x ∷ ys))
  keys-told-once now ev e repeat enough =
      in-full ev.keys (x ∷ ys) (subst (Repeats ev.keys) (sym e) refl, repeat) (changes knew.keys ev.keys) (keys-told-in-turn now ev e)
      (subst (λ (n : ℕ). n ≤ length (answers (x ∷ ys))) (sym (as-many-changes knew.keys ev.keys)) enough)

  -- "A report answered by a key change is spent": the touch that is on stays as it is.
  pub spent-touch-stays : (now : ℕ) (ev : Event) → x.call ≡ report now ev → tells_key x.given ≡ true → knows.touch ≡ knew.touch
  spent-touch-stays now ev e spent = ap (λ (c : Call). (watch (known start xs) c x.given).touch) e ∙ ap (λ (s : Seen). s.touch) (if-true _ _ _ spent)

  -- "A touch runs from an unspent report with fingers to the next unspent report of none."
  pub touch-runs-from : (now : ℕ) (ev : Event) → x.call ≡ report now ev → tells_key x.given ≡ false → 1 ≤ ev.points → (t : Touch) × (knows.touch ≡ on t)
  touch-runs-from now ev e unspent some =
      let r = counted-on (known start xs) ev.points now some in
      (r.0, ap (λ (c : Call). (watch (known start xs) c x.given).touch) e ∙ ap (λ (s : Seen). s.touch) (if-false _ _ _ unspent) ∙ r.1)

  pub touch-runs-to : (now : ℕ) (ev : Event) → x.call ≡ report now ev → tells_key x.given ≡ false → ev.points ≡ 0 → knows.touch ≡ off
  unfolding counted
  touch-runs-to now ev e unspent none =
      ap (λ (c : Call). (watch (known start xs) c x.given).touch) e
      ∙ ap (λ (s : Seen). s.touch) (if-false _ _ _ unspent ∙ if-true _ _ _ (eq-eqb ev.points 0 none))

  -- "Once it has had several fingers it gives no one-finger gesture until it is over, its release included."
  pub several-silent : had_several knew.touch or had_several knows.touch ≡ true → gives_one_finger x.given ≡ false
  several-silent = promised.several

  -- "A touch that starts with one finger gives Down at once, unless the touch before it had several and its release is
  -- under 300 ms back or ahead of the clock."
  pub down-at-once : (now : ℕ) (ev : Event) → x.call ≡ report now ev → tells_key x.given ≡ false → knew.touch ≡ off → ev.points ≡ 1 → close knew.before now ≡ false →
      x.given ≡ Some (Down ev.p)
  down-at-once now ev e = subst (λ (c : Call). DownAtOnce (known start xs) c x.given) e promised.down

  -- "A touch so excepted tells key changes and nothing more while it has one finger."
  pub excepted-silent : excepted_with_one knows.touch or excepted_never_more knew.touch ≡ true → tells_keys_only x.given ≡ true
  excepted-silent = promised.excepted

  -- a report of the mask that is told is not spent
  pub told-mask-unspent : (now : ℕ) (ev : Event) → x.call ≡ report now ev → ev.keys ≡ knew.keys → tells_key x.given ≡ false
  unfolding TellsAll
  told-mask-unspent now ev e same =
      let none : changes knew.keys ev.keys ≡ [] = ap (changes knew.keys) same ∙ no-changes knew.keys in
      let turn : Tells (changes knew.keys ev.keys) x.call x.given (λ left. TellsAll ev.keys left ys) =
      keys-told-in-turn now ev e (subst (Repeats ev.keys) (sym e) refl) in
      (subst (λ (l : List Gesture). NextChange l x.given (λ left. TellsAll ev.keys left ys)) none
      (subst (λ (c : Call). Tells (changes knew.keys ev.keys) c x.given (λ left. TellsAll ev.keys left ys)) e turn)).0

-- All sentences together.
pub all-sentences : Demand × Spent
all-sentences = (demand-3, spent-fingers)
