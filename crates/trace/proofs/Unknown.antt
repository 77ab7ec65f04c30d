-- Of the refusals of a record only an unknown kind has the number 12. Assumes nothing.
use Rattle.std.specs.Prelude.{Result, Ok, Err}
use Prim.Native.Nat.{ℕ, zero, suc, min}
use mathlib.Core.Path.{◌≡◌, refl, subst}
use mathlib.Core.Bool.{Bool, true, false}
use mathlib.Core.List.{List}
use native.Mathlib.Omega.{arith}
use lib.Dec.{eqb}
use lib.ListN.{length, drop}
use borrow.Author.Tests.{eqb-true, eqb-false, eq-eqb, ne_eqb}
use Rattle.panel.proofs.Follow.{if-true, if-false, if-know}
use Rattle.panel.specs.Points.{fingers}
use Rattle.panel.specs.Refusals.{number_of}
use Rattle.panel.specs.Tests.{when◌then◌else◌, ◌=?◌}
use Rattle.gesture.specs.declared.making.Call as value
use Rattle.gesture.specs.declared.making.Call.TheVariants.{Capture, CaptureDirect}
use Rattle.numbers.specs.Numbers.{◌>>=◌, Groups, whole, endless, early, groups_in, judged, number_at}
use Rattle.numbers.specs.Sizes.{most64, most_groups}
use Rattle.numbers.specs.declared.reading.Stop.{Stop}
use Rattle.trace.specs.Records.{NoKind, points_from, report_from, tick_from, raw_from, grab_from, of_kind, told_read}
use Rattle.trace.specs.Sizes.{most16, most8, most1, kind_report, kind_tick, kind_capture, kind_direct, kind_raw, kind_grab}

pub by-eq : {P : Type 0} (a b : ℕ) → (a ≡ b → P) → ((a ≡ b → ⊥) → P) → P
by-eq {P} a b f g = go (eqb a b) refl
  where
    go : (t : Bool) → eqb a b ≡ t → P
    go true e = f (eqb-true a b e)
    go false e = g (eqb-false a b e)

-- reading that has not stopped at an unknown kind, which no number does
abbrev Other : {A : Type 0} → Result A Stop → Type 0
Other (Ok r) = Unit {0}
Other (Err stop) = number_of stop.why ≡ 12 → ⊥

and_other : {A B : Type 0} (r : Result A Stop) (go_on : A → Result B Stop) → Other r → ((a : A) → Other (go_on a)) → Other (r >>= go_on)
and_other (Ok a) go_on o more = more a
and_other (Err stop) go_on o more = o

judged-other : (at most : ℕ) (gs : Groups) → Other (judged at most gs)
judged-other at most endless = λ e. omega arith
judged-other at most early = λ e. omega arith
judged-other at most (whole gs) =
    if-know (λ (r : Result (ℕ × ℕ) Stop). Other r) _ _ _ (λ z. λ e. omega arith)
    (λ z. if-know (λ (r : Result (ℕ × ℕ) Stop). Other r) _ _ _ (λ y. λ e. omega arith) (λ y. tt))

module _ (bytes : List ℕ) where
  number-other : (at most : ℕ) → Other (number_at bytes at most)
  unfolding number_at
  number-other at most = judged-other (min at (length bytes)) most (groups_in most_groups (drop at bytes))

  -- what follows a number
  then_other : {B : Type 0} (at most : ℕ) (go_on : ℕ × ℕ → Result B Stop) → ((a : ℕ × ℕ) → Other (go_on a)) → Other (number_at bytes at most >>= go_on)
  then_other at most go_on more = and_other (number_at bytes at most) go_on (number-other at most) more

  points-other : (at n : ℕ) → Other (points_from bytes at n)
  unfolding points_from
  points-other at zero = tt
  points-other at (suc n) = then_other at most16 _ (λ x. then_other x.1 most16 _ (λ y. and_other (points_from bytes y.1 n) _ (points-other y.1 n) (λ r. tt)))

  report-other : (at : ℕ) → Other (report_from bytes at)
  unfolding report_from
  report-other at =
      then_other at most64 _
      (λ t. then_other t.1 most8 _ (λ k. then_other k.1 most8 _ (λ n. and_other (points_from bytes n.1 (fingers n.0)) _ (points-other n.1 (fingers n.0)) (λ r. tt))))

  tick-other : (at : ℕ) → Other (tick_from bytes at)
  unfolding tick_from
  tick-other at = then_other at most64 _ (λ t. tt)

  raw-other : (at : ℕ) → Other (raw_from bytes at)
  unfolding raw_from
  raw-other at = then_other at most1 _ (λ on. tt)

  grab-other : (at : ℕ) → Other (grab_from bytes at)
  unfolding grab_from
  grab-other at = then_other at most16 _ (λ ms. tt)

-- a record that is read tells of no unknown kind
abbrev Unknown : Result (value.Call × ℕ) Stop → Type 0
Unknown r = (told_read r).number ≡ 12

never : (r : Result (value.Call × ℕ) Stop) → Other r → Unknown r → ⊥
never (Ok r) o u = omega arith
never (Err stop) o u = o u

-- a kind that tells of no unknown kind is passed over
passed : (a b : ℕ) (x y : Result (value.Call × ℕ) Stop) → Other x → Unknown (when◌then◌else◌ (a =? b) x y) → (a ≡ b → ⊥) × Unknown y
passed a b x y o u =
    by-eq a b
    (λ z. absurd (never x o (subst Unknown (if-true _ _ _ (eq-eqb a b z)) u)))
    (λ z. (z, subst Unknown (if-false _ _ _ (ne_eqb a b z)) u))

kinds-passed : (bytes : List ℕ) (at kind fields : ℕ) → Unknown (of_kind bytes at kind fields) → NoKind kind
unfolding of_kind
kinds-passed bytes at kind fields u =
    let p1 = passed kind kind_report (report_from bytes fields) _ (report-other bytes fields) u in
    let p2 = passed kind kind_tick (tick_from bytes fields) _ (tick-other bytes fields) p1.1 in
    let p3 = passed kind kind_capture (Ok (Capture, fields)) _ tt p2.1 in
    let p4 = passed kind kind_direct (Ok (CaptureDirect, fields)) _ tt p3.1 in
    let p5 = passed kind kind_raw (raw_from bytes fields) _ (raw-other bytes fields) p4.1 in
    let p6 = passed kind kind_grab (grab_from bytes fields) _ (grab-other bytes fields) p5.1 in
    (p1.0, p2.0, p3.0, p4.0, p5.0, p6.0)

pub record-told : (bytes : List ℕ) (at : ℕ) (r : Result (ℕ × ℕ) Stop) → number_at bytes at most64 ≡ r → Unknown (r >>= λ k. of_kind bytes at k.0 k.1) →
    (kind next : ℕ) × (number_at bytes at most64 ≡ Ok (kind, next)) × NoKind kind
record-told bytes at (Ok k) e u = (k.0, k.1, e, kinds-passed bytes at k.0 k.1 u)
record-told bytes at (Err stop) e u = absurd (subst Other e (number-other bytes at most64) u)
