-- What the reader takes, the writer writes again byte for byte: a record, and a whole trace. Assumes nothing.
use Rattle.std.specs.Prelude.{Result, Ok, Err, IfOk}
use Rattle.std.proofs.lemmas.Result.{IfOk-weaker}
use Prim.Native.Nat.{ℕ, zero, suc, ◌+◌, ◌≤◌, ◌<◌}
use mathlib.Core.Path.{◌≡◌, refl, sym, ap, subst, ◌∙◌}
use mathlib.Core.Bool.{Bool, true, false}
use mathlib.Core.List.{List, [], ◌∷◌, ◌++◌}
use native.Mathlib.Omega.{arith}
use lib.Dec.{eqb}
use lib.ListN.{length, take, drop, length-append, length-drop, drop_of_length-le}
use lib.Seq.{take-append-le, take-take, take_all}
use borrow.Author.Tests.{eqb-true, eq-eqb, ne_eqb, le-leb, lt-leb}
use Rattle.panel.proofs.Follow.{if-true, if-false, if-know}
use Rattle.panel.specs.Points.{fingers}
use Rattle.panel.specs.Sizes.{max_points}
use Rattle.panel.specs.Tests.{when◌then◌else◌}
use Rattle.panel.specs.declared.points.Point.{Point}
use Rattle.panel.specs.declared.refusals.Refusal.{Refusal}
use Rattle.gesture.specs.Answers.{points_in_use}
use Rattle.gesture.specs.Calls.{Call, report, call_of}
use Rattle.gesture.specs.declared.making.Call as value
use Rattle.gesture.specs.declared.making.Call.TheVariants.{Capture, CaptureDirect}
use Rattle.numbers.specs.Numbers.{◌>>=◌, bytes_of_all, bytes_of, number_at}
use Rattle.numbers.specs.Sizes.{most64}
use Rattle.numbers.specs.declared.reading.Stop.{Stop}
use Rattle.numbers.proofs.Bytes.{by-lt}
use Rattle.numbers.proofs.Grouping.{number-most}
use Rattle.numbers.proofs.Taken.{Octets, Spans, spans-none, spans-join, number-took}
use Rattle.trace.specs.Calls.{coordinates, numbers_of, record_of, records_of, trace_of}
use Rattle.trace.specs.Normal.{Small, Normal, AllNormal}
use Rattle.trace.specs.Records.{no_points, points_from, first_of, event_of, report_from, tick_from, raw_from, grab_from, of_kind, record_at}
use Rattle.trace.specs.Sizes.{most16, most8, most1, version, kind_report, kind_tick, kind_capture, kind_direct, kind_raw, kind_grab}
use Rattle.trace.specs.Traces.{Traced, ends, stops, and_on, records_from, head_of, from_head, trace_in}
use Rattle.trace.proofs.Unknown.{by-eq}
use Rattle.trace.proofs.RoundTrip.{one-finger, most-fingers, record-some}

-- what holds of all that is read holds of what is read after it
if_then : {A B : Type 0} (r : Result A Stop) (go_on : A → Result B Stop) (P : A → Type 0) (Q : B → Type 0) → IfOk r P → ((a : A) → P a → IfOk (go_on a) Q) → IfOk (r >>= go_on) Q
if_then (Ok a) go_on P Q p more = more a p
if_then (Err stop) go_on P Q p more = tt

all_cons : (v : ℕ) (vs : List ℕ) → bytes_of_all (v ∷ vs) ≡ bytes_of v ++ bytes_of_all vs
all_cons v vs = refl

-- one number and those after it
spans-cons : (s : List ℕ) (a b c v : ℕ) (vs : List ℕ) → Spans s a b (bytes_of v) → Spans s b c (bytes_of_all vs) → Spans s a c (bytes_of_all (v ∷ vs))
spans-cons s a b c v vs p q = subst (Spans s a c) (sym (all_cons v vs)) (spans-join s a b c (bytes_of v) (bytes_of_all vs) p q)

spans-end : (s : List ℕ) (a b : ℕ) (bytes : List ℕ) → Spans s a b bytes → b ≤ length s
spans-end s a b bytes p = omega (arith, p.within, p.ends, ap length p.front, length-append bytes (drop b s), length-drop a s, length-drop b s)

-- no number, and one
spans_nil : (s : List ℕ) (a : ℕ) → a ≤ length s → Spans s a a (bytes_of_all [])
spans_nil s a h = spans-none s a h

spans-one : (s : List ℕ) (a b v : ℕ) → Spans s a b (bytes_of v) → Spans s a b (bytes_of_all (v ∷ []))
spans-one s a b v p = spans-cons s a b b v [] p (spans_nil s b (spans-end s a b (bytes_of v) p))

-- The points in use of an event are those that it was made of.
one-point : (ps : List Point) → length ps ≡ 1 → first_of ps ∷ [] ≡ ps
one-point [] e = absurd (omega arith)
one-point (p ∷ []) e = refl
one-point (p ∷ q ∷ ps) e = absurd (omega arith)

in-use-of : (keys count : ℕ) (ps : List Point) → length ps ≡ fingers count → points_in_use (event_of keys count ps) ≡ ps
unfolding points_in_use event_of
in-use-of keys count ps e = go (eqb count 1) refl
  where
    go : (t : Bool) → eqb count 1 ≡ t → points_in_use (event_of keys count ps) ≡ ps
    go true q = if-true _ _ _ q ∙ one-point ps (e ∙ ap fingers (eqb-true count 1 q) ∙ one-finger)
    go false q =
        let m = most-fingers count in
        if-false _ _ _ q
        ∙ ap (take (fingers count)) (if-false _ _ _ q)
        ∙ take-take (fingers count) max_points (ps ++ no_points) m
        ∙ take-append-le (fingers count) ps no_points (omega arith)
        ∙ take_all (fingers count) ps (omega arith)

-- A report from its parts.
report-normal : (time keys count : ℕ) (ps : List Point) → points_in_use (event_of keys count ps) ≡ ps → time ≤ most64 → keys ≤ most8 → count ≤ most8 → Small ps → Normal (report time (event_of keys count ps))
unfolding event_of
report-normal time keys count ps used ht hk hc small =
    (ap (λ (l : List Point). event_of keys count l) (sym used), ht, hk, hc, subst Small (sym used) small)

report-writes : (s : List ℕ) (at a b c d next time keys count : ℕ) (ps : List Point) → points_in_use (event_of keys count ps) ≡ ps →
    Spans s at a (bytes_of kind_report) → Spans s a b (bytes_of time) → Spans s b c (bytes_of keys) → Spans s c d (bytes_of count) → Spans s d next (bytes_of_all (coordinates ps)) →
    Spans s at next (record_of (report time (event_of keys count ps)))
unfolding record_of numbers_of event_of
report-writes s at a b c d next time keys count ps used p0 p1 p2 p3 p4 =
    subst (λ (l : List Point). Spans s at next (bytes_of_all (kind_report ∷ time ∷ keys ∷ count ∷ coordinates l))) (sym used)
    (spans-cons s at a next kind_report (time ∷ keys ∷ count ∷ coordinates ps) p0
    (spans-cons s a b next time (keys ∷ count ∷ coordinates ps) p1
    (spans-cons s b c next keys (count ∷ coordinates ps) p2
    (spans-cons s c d next count (coordinates ps) p3 p4))))

-- What the fields of a record of a kind come to, from a place on: the call is normal, and with its kind in front it is the
-- record that the writer writes.
abbrev Fields : List ℕ → ℕ → ℕ → value.Call × ℕ → Type 0
Fields s kind from r = Normal (call_of r.0) × ((at : ℕ) → Spans s at from (bytes_of kind) → Spans s at r.1 (record_of (call_of r.0)))

module _ (s : List ℕ) (oc : Octets s) where
  number-held : (at most : ℕ) → IfOk (number_at s at most) (λ r. (r.0 ≤ most) × Spans s at r.1 (bytes_of r.0))
  number-held at most = go (number_at s at most) refl
    where
      go : (r : Result (ℕ × ℕ) Stop) → number_at s at most ≡ r → IfOk r (λ x. (x.0 ≤ most) × Spans s at x.1 (bytes_of x.0))
      go (Ok x) e = (number-most s at most (Ok x) (sym e), number-took s at most x.0 x.1 oc e)
      go (Err stop) e = tt

  points-took : (at n : ℕ) → at ≤ length s → IfOk (points_from s at n) (λ r. Spans s at r.1 (bytes_of_all (coordinates r.0)) × Small r.0 × (length r.0 ≡ n))
  unfolding points_from coordinates
  points-took at zero h = (spans_nil s at h, tt, refl)
  points-took at (suc n) h =
      if_then (number_at s at most16) _ _ _ (number-held at most16)
      (λ x hx. if_then (number_at s x.1 most16) _ _ _ (number-held x.1 most16)
      (λ y hy. if_then (points_from s y.1 n) _ _ _ (points-took y.1 n (spans-end s x.1 y.1 (bytes_of y.0) hy.1))
      (λ r hr. (
        spans-cons s at x.1 r.1 x.0 (y.0 ∷ coordinates r.0) hx.1 (spans-cons s x.1 y.1 r.1 y.0 (coordinates r.0) hy.1 hr.0),
        (hx.0, hy.0, hr.1),
        ap suc hr.2,
      ))))

  report-took : (from : ℕ) → IfOk (report_from s from) (Fields s kind_report from)
  unfolding report_from
  report-took from =
      if_then (number_at s from most64) _ _ _ (number-held from most64)
      (λ t ht. if_then (number_at s t.1 most8) _ _ _ (number-held t.1 most8)
      (λ k hk. if_then (number_at s k.1 most8) _ _ _ (number-held k.1 most8)
      (λ n hn. if_then (points_from s n.1 (fingers n.0)) _ _ _ (points-took n.1 (fingers n.0) (spans-end s k.1 n.1 (bytes_of n.0) hn.1))
      (λ ps hp.
      let used = in-use-of k.0 n.0 ps.0 hp.2 in (
        report-normal t.0 k.0 n.0 ps.0 used ht.0 hk.0 hn.0 hp.1,
        λ at p. report-writes s at from t.1 k.1 n.1 ps.1 t.0 k.0 n.0 ps.0 used p ht.1 hk.1 hn.1 hp.0,
      )))))

  tick-took : (from : ℕ) → IfOk (tick_from s from) (Fields s kind_tick from)
  unfolding tick_from record_of numbers_of
  tick-took from =
      if_then (number_at s from most64) _ _ _ (number-held from most64)
      (λ t h. (h.0, λ at p. spans-cons s at from t.1 kind_tick (t.0 ∷ []) p (spans-one s from t.1 t.0 h.1)))

  grab-took : (from : ℕ) → IfOk (grab_from s from) (Fields s kind_grab from)
  unfolding grab_from record_of numbers_of
  grab-took from =
      if_then (number_at s from most16) _ _ _ (number-held from most16)
      (λ ms h. (h.0, λ at p. spans-cons s at from ms.1 kind_grab (ms.0 ∷ []) p (spans-one s from ms.1 ms.0 h.1)))

  -- 0 or 1 is what is written for it
  bit : ℕ → ℕ
  bit v = when◌then◌else◌ (eqb v 1) 1 0

  same-bit : (v : ℕ) → v ≤ most1 → v ≡ bit v
  unfolding bit
  same-bit v small = sym (by-eq v 1 (λ one. if-true _ _ _ (eq-eqb v 1 one) ∙ sym one) (λ other. if-false _ _ _ (ne_eqb v 1 other) ∙ omega arith))

  raw-took : (from : ℕ) → IfOk (raw_from s from) (Fields s kind_raw from)
  unfolding raw_from record_of numbers_of bit
  raw-took from =
      if_then (number_at s from most1) _ _ _ (number-held from most1)
      (λ on h. (
        tt,
        λ at p. spans-cons s at from on.1 kind_raw (bit on.0 ∷ []) p (spans-one s from on.1 (bit on.0) (subst (λ (v : ℕ). Spans s from on.1 (bytes_of v)) (same-bit on.0 h.0) h.1)),
      ))

  -- the six kinds, one after another; no other has a call
  kind-took : (at kind from : ℕ) → from ≤ length s → IfOk (of_kind s at kind from) (Fields s kind from)
  unfolding of_kind record_of numbers_of
  kind-took at kind from h =
      one_of kind_report (report_from s from) _ (report-took from)
      (one_of kind_tick (tick_from s from) _ (tick-took from)
      (one_of kind_capture (Ok (Capture, from)) _ (tt, λ start p. spans-one s start from kind_capture p)
      (one_of kind_direct (Ok (CaptureDirect, from)) _ (tt, λ start p. spans-one s start from kind_direct p)
      (one_of kind_raw (raw_from s from) _ (raw-took from)
      (one_of kind_grab (grab_from s from) _ (grab-took from) tt)))))
    where
      one_of : (k : ℕ) (x y : Result (value.Call × ℕ) Stop) → IfOk x (Fields s k from) → IfOk y (Fields s kind from) → IfOk (when◌then◌else◌ (eqb kind k) x y) (Fields s kind from)
      one_of k x y is other =
          if-know (λ (r : Result (value.Call × ℕ) Stop). IfOk r (Fields s kind from)) (eqb kind k) x y
          (λ e. subst (λ (n : ℕ). IfOk x (Fields s n from)) (sym (eqb-true kind k e)) is)
          (λ e. other)

  -- where the reader takes a call, the call is normal, and its bytes are those that the writer writes for it
  pub record-took : (at : ℕ) → IfOk (record_at s at) (λ r. Normal (call_of r.0) × Spans s at r.1 (record_of (call_of r.0)))
  unfolding record_at
  record-took at =
      if_then (number_at s at most64) _ _ _ (number-held at most64)
      (λ k h. IfOk-weaker (of_kind s at k.0 k.1) _ _ (λ r f. (f.0, f.1 at h.1)) (kind-took at k.0 k.1 (spans-end s at k.1 (bytes_of k.0) h.1)))

-- A whole trace.

abbrev Written : List ℕ → ℕ → Traced → Type 0
Written s at t = (drop at s ≡ records_of t.calls) × AllNormal t.calls

nothing_left : (s : List ℕ) (at : ℕ) → length s ≤ at → Written s at (record { calls = []; ending = ends })
unfolding records_of
nothing_left s at h = (drop_of_length-le s h, tt)

records-cons : (c : Call) (cs : List Call) → records_of (c ∷ cs) ≡ record_of c ++ records_of cs
unfolding records_of
records-cons c cs = refl

not-ended : (why : Refusal) (o : ℕ) → stops why o ≡ ends → ⊥
not-ended why o e = let z : ◌≡◌ {A = ℕ} 0 1 = cc in omega arith

module _ (s : List ℕ) (oc : Octets s) where
  records-took : (k at : ℕ) → at ≤ length s → length s ≤ at + k → (records_from k s at).ending ≡ ends → Written s at (records_from k s at)
  unfolding records_from
  records-took zero at h fuel e = nothing_left s at (omega arith)
  records-took (suc k) at h fuel e =
      by-lt at (length s)
      (λ inside.
      let w : records_from (suc k) s at ≡ and_on (λ next. records_from k s next) (record_at s at) = if-false _ _ _ (lt-leb (length s) at inside) in
      subst (Written s at) (sym w)
      (go inside (λ next n f r. records-took k next n f r) (record_at s at) (record-took s oc at) (sym (ap (λ (t : Traced). t.ending) w) ∙ e)))
      (λ past. subst (Written s at) (sym (if-true _ _ _ (le-leb (length s) at past))) (nothing_left s at past))
    where
      go : at < length s → ((next : ℕ) → next ≤ length s → length s ≤ next + k → (records_from k s next).ending ≡ ends → Written s next (records_from k s next)) →
          (r : Result (value.Call × ℕ) Stop) → IfOk r (λ x. Normal (call_of x.0) × Spans s at x.1 (record_of (call_of x.0))) → (and_on (λ next. records_from k s next) r).ending ≡ ends →
          Written s at (and_on (λ next. records_from k s next) r)
      go inside ih (Err stop) t q = absurd (not-ended stop.why stop.at q)
      go inside ih (Ok x) t q =
          let some = record-some (call_of x.0) in
          let rest = ih x.1 (spans-end s at x.1 (record_of (call_of x.0)) t.1) (omega (arith, t.1.ends)) q in (
            t.1.front ∙ ap (λ (l : List ℕ). record_of (call_of x.0) ++ l) rest.0 ∙ sym (records-cons _ _),
            (t.0, rest.1),
          )

  head-took : IfOk (head_of s) (λ next. Spans s 0 next (bytes_of version))
  unfolding head_of
  head-took =
      if-know (λ (r : Result ℕ Stop). IfOk r (λ next. Spans s 0 next (bytes_of version))) _ _ _ (λ long. tt)
      (λ short. if_then (number_at s 0 most64) _ _ _ (number-held s oc 0 most64)
      (λ v h. if-know (λ (r : Result ℕ Stop). IfOk r (λ next. Spans s 0 next (bytes_of version))) _ _ _
      (λ one. subst (λ (x : ℕ). Spans s 0 v.1 (bytes_of x)) (eqb-true v.0 version one) h.1)
      (λ other. tt)))

  -- What the reader takes to the end, the writer writes again byte for byte, from calls in the reader's normal form.
  pub again : (trace_in s).ending ≡ ends → (trace_of (trace_in s).calls ≡ s) × AllNormal (trace_in s).calls
  unfolding trace_in trace_of
  again e = go (head_of s) head-took e
    where
      go : (r : Result ℕ Stop) → IfOk r (λ next. Spans s 0 next (bytes_of version)) → (from_head s r).ending ≡ ends →
          (bytes_of version ++ records_of (from_head s r).calls ≡ s) × AllNormal (from_head s r).calls
      go (Err stop) h q = absurd (not-ended stop.why stop.at q)
      go (Ok next) h q =
          let t = records-took (length s) next (spans-end s 0 next (bytes_of version) h) (omega arith) q in
          (sym (h.front ∙ ap (λ (l : List ℕ). bytes_of version ++ l) t.0), t.1)
