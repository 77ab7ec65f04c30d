-- A call that was written is read back, and so is a whole trace. Assumes nothing.
use Rattle.std.specs.Prelude.{Result, Ok}
use Prim.Native.Nat.{ℕ, zero, suc, ◌+◌, ◌≤◌, ◌<◌}
use mathlib.Core.Path.{◌≡◌, refl, sym, ap, ◌∙◌}
use mathlib.Core.Bool.{true, false}
use mathlib.Core.List.{List, [], ◌∷◌, ◌++◌}
use native.Mathlib.Omega.{arith}
use lib.ListN.{length, length-append, length-take}
use borrow.Author.Tests.{eqb-true, le-leb, lt-leb, le-ltb, eq-eqb}
use Rattle.panel.proofs.Follow.{if-true, if-false, if-know}
use Rattle.panel.specs.Points.{fingers}
use Rattle.panel.specs.Sizes.{max_points}
use Rattle.panel.specs.Tests.{when◌then◌else◌}
use Rattle.panel.specs.declared.points.Event.{Event}
use Rattle.panel.specs.declared.points.Point.{Point}
use Rattle.gesture.specs.Answers.{points_in_use}
use Rattle.gesture.specs.Calls.{Call, report, tick, capture, capture_direct, raw_next, set_grab_ms, call_of}
use Rattle.trace.specs.Calls.{coordinates, numbers_of, record_of, records_of, trace_of}
use Rattle.numbers.specs.Numbers.{◌>>=◌, bytes_of_all, bytes_of, number_at, read}
use Rattle.trace.specs.Normal.{Small, Normal, AllNormal}
use Rattle.trace.specs.Records.{no_points, points_from, event_of, report_from, tick_from, raw_from, grab_from, of_kind, record_at}
use Rattle.numbers.specs.Sizes.{most64}
use Rattle.trace.specs.Sizes.{most16, most8, most1, most_bytes, version, kind_report, kind_tick, kind_capture, kind_direct, kind_raw, kind_grab}
use Rattle.trace.specs.Traces.{Traced, ends, and_on, records_from, version_of, head_of, from_head, trace_in}
use Rattle.numbers.specs.declared.reading.Stop.{Stop}
use Rattle.gesture.specs.declared.making.Call as value
use Rattle.gesture.specs.declared.making.Call.TheVariants.{Report, Tick, Capture, CaptureDirect, RawNext, SetGrabMs}
use Rattle.numbers.proofs.Back.{Holds, holds_on, number-back, number-next}
use Rattle.numbers.proofs.Bytes.{bytes-some}

-- Points, one after another.
points-back : (s : List ℕ) (at : ℕ) (ps : List Point) (rest : List ℕ) → Small ps → Holds s at (bytes_of_all (coordinates ps) ++ rest) →
    (to : ℕ) × (points_from s at (length ps) ≡ Ok (ps, to)) × Holds s to (bytes_of_all [] ++ rest)
unfolding points_from coordinates
points-back s at [] rest small h = (at, refl, h)
points-back s at (p ∷ ps) rest small h =
    let x = number-next s at most16 p.x (p.y ∷ coordinates ps) rest small.0 (omega arith) h in
    let y = number-next s x.0 most16 p.y (coordinates ps) rest small.1 (omega arith) x.2 in
    let ih = points-back s y.0 ps rest small.2 y.2 in
    (ih.0, rw (x.1, y.1, ih.1), ih.2)

pub one-finger : fingers 1 ≡ 1
unfolding fingers
one-finger = refl

pub most-fingers : (n : ℕ) → fingers n ≤ max_points
unfolding fingers
most-fingers n = omega arith

-- A report. Its five points are there, and as many are in use as its count means.
five-of : (keys count : ℕ) (ps : List Point) → length (event_of keys count ps).pts ≡ max_points
unfolding event_of
five-of keys count ps =
    if-know (λ (l : List Point). length l ≡ max_points) _ _ _ (λ e. refl)
    (λ e. length-take max_points (ps ++ no_points) ∙ omega (arith, length-append ps no_points))

in_use : (e : Event) → length e.pts ≡ max_points → length (points_in_use e) ≡ fingers e.points
unfolding points_in_use
in_use e five =
    if-know (λ (l : List Point). length l ≡ fingers e.points) _ _ _
    (λ one. sym (ap fingers (eqb-true e.points 1 one) ∙ one-finger))
    (λ other. length-take (fingers e.points) e.pts ∙ omega (arith, five, most-fingers e.points))

report-back : (s : List ℕ) (at time : ℕ) (e : Event) (rest : List ℕ) → Normal (report time e) →
    Holds s at (bytes_of_all (time ∷ e.keys ∷ e.points ∷ coordinates (points_in_use e)) ++ rest) →
    (to : ℕ) × (report_from s at ≡ Ok (Report e time, to)) × Holds s to (bytes_of_all [] ++ rest)
unfolding report_from
report-back s at time e rest ok h =
    let t = number-next s at most64 time (e.keys ∷ e.points ∷ coordinates (points_in_use e)) rest ok.1 (omega arith) h in
    let k = number-next s t.0 most8 e.keys (e.points ∷ coordinates (points_in_use e)) rest ok.2 (omega arith) t.2 in
    let n = number-next s k.0 most8 e.points (coordinates (points_in_use e)) rest ok.3 (omega arith) k.2 in
    let ps = points-back s n.0 (points_in_use e) rest ok.4 n.2 in
    let five : length e.pts ≡ max_points = ap (λ (v : Event). length v.pts) ok.0 ∙ five-of e.keys e.points (points_in_use e) in
    let m = in_use e five in (
      ps.0,
      rw (t.1, k.1, n.1, ← m, ps.1) (ap (λ (v : Event). Ok (Report v time, ps.0)) (sym ok.0)),
      ps.2,
    )

-- what follows the kind of a record is read back
After : List ℕ → ℕ → ℕ → List ℕ → value.Call → List ℕ → Type 0
After s at kind vs c rest = (a : ℕ) → Holds s a (bytes_of_all vs ++ rest) → (to : ℕ) × (of_kind s at kind a ≡ Ok (c, to)) × Holds s to (bytes_of_all [] ++ rest)

-- the call as reading has it
as_read : Call → value.Call
as_read (report time e) = Report e time
as_read (tick time) = Tick time
as_read capture = Capture
as_read capture_direct = CaptureDirect
as_read (raw_next on) = RawNext on
as_read (set_grab_ms ms) = SetGrabMs ms

same-call : (c : Call) → call_of (as_read c) ≡ c
unfolding as_read
same-call (report time e) = refl
same-call (tick time) = refl
same-call capture = refl
same-call capture_direct = refl
same-call (raw_next on) = refl
same-call (set_grab_ms ms) = refl

module _ (s : List ℕ) (at : ℕ) (rest : List ℕ) where
  kind-back : (kind : ℕ) (vs : List ℕ) (c : value.Call) → kind ≤ most64 → After s at kind vs c rest → Holds s at (bytes_of_all (kind ∷ vs) ++ rest) →
      (to : ℕ) × (record_at s at ≡ Ok (c, to)) × Holds s to (bytes_of_all [] ++ rest)
  unfolding record_at After
  kind-back kind vs c small after h =
      let k = number-next s at most64 kind vs rest small (omega arith) h in
      let b = after k.0 k.2 in
      (b.0, rw k.1 b.1, b.2)

  -- a call is read back, at every place and whatever follows
  call_back : (c : Call) → Normal c → Holds s at (record_of c ++ rest) → (to : ℕ) × (record_at s at ≡ Ok (as_read c, to)) × Holds s to (bytes_of_all [] ++ rest)
  unfolding record_of numbers_of After of_kind when◌then◌else◌ tick_from raw_from grab_from as_read
  call_back (report time e) ok h = kind-back kind_report (time ∷ e.keys ∷ e.points ∷ coordinates (points_in_use e)) (Report e time) (omega arith) (λ a k. report-back s a time e rest ok k) h
  call_back (tick time) ok h =
      kind-back kind_tick (time ∷ []) (Tick time) (omega arith)
      (λ a k. let n = number-next s a most64 time [] rest ok (omega arith) k in (n.0, rw n.1, n.2)) h
  call_back capture ok h = kind-back kind_capture [] Capture (omega arith) (λ a k. (a, refl, k)) h
  call_back capture_direct ok h = kind-back kind_direct [] CaptureDirect (omega arith) (λ a k. (a, refl, k)) h
  call_back (raw_next true) ok h =
      kind-back kind_raw (1 ∷ []) (RawNext true) (omega arith)
      (λ a k. let n = number-next s a most1 1 [] rest (omega arith) (omega arith) k in (n.0, rw n.1, n.2)) h
  call_back (raw_next false) ok h =
      kind-back kind_raw (0 ∷ []) (RawNext false) (omega arith)
      (λ a k. let n = number-next s a most1 0 [] rest (omega arith) (omega arith) k in (n.0, rw n.1, n.2)) h
  call_back (set_grab_ms ms) ok h =
      kind-back kind_grab (ms ∷ []) (SetGrabMs ms) (omega arith)
      (λ a k. let n = number-next s a most16 ms [] rest ok (omega arith) k in (n.0, rw n.1, n.2)) h

  -- the same with the place where the next record begins
  record-back : (c : Call) → Normal c → Holds s at (record_of c ++ rest) → record_at s at ≡ Ok (as_read c, at + length (record_of c))
  record-back c ok h =
      let b = call_back c ok h in
      b.1 ∙ ap (λ (to : ℕ). Ok (as_read c, to)) (omega (arith, h.fill, b.2.fill, length-append (record_of c) rest))

-- A record has a byte or more.
pub record-some : (c : Call) → 0 < length (record_of c)
unfolding record_of numbers_of
record-some (report time e) = simp length-append (omega (arith, bytes-some kind_report))
record-some (tick time) = simp length-append (omega (arith, bytes-some kind_tick))
record-some capture = simp length-append (omega (arith, bytes-some kind_capture))
record-some capture_direct = simp length-append (omega (arith, bytes-some kind_direct))
record-some (raw_next on) = simp length-append (omega (arith, bytes-some kind_raw))
record-some (set_grab_ms ms) = simp length-append (omega (arith, bytes-some kind_grab))

-- The whole trace.

abbrev all_of : List Call → Traced
all_of cs = record { calls = cs; ending = ends }

module _ (s : List ℕ) where
  -- as many records are read as there are bytes left, at least
  records-back : (cs : List Call) (k at : ℕ) → AllNormal cs → length (records_of cs) ≤ k → Holds s at (records_of cs) → records_from k s at ≡ all_of cs
  unfolding records_of records_from
  records-back [] zero at ok hk h = refl
  records-back [] (suc k) at ok hk h = if-true _ _ _ (le-leb (length s) at (omega (arith, h.fill)))
  records-back (c ∷ cs) zero at ok hk h = absurd (omega (arith, hk, length-append (record_of c) (records_of cs), record-some c))
  records-back (c ∷ cs) (suc k) at ok hk h =
      let la = length-append (record_of c) (records_of cs) in
      let some = record-some c in
      let inside : at < length s = omega (arith, h.fill) in
      let ih = records-back cs k (at + length (record_of c)) ok.1 (omega arith) (holds_on s at (record_of c) (records_of cs) h) in
      if-false _ _ _ (lt-leb (length s) at inside)
      ∙ ap (and_on (λ next. records_from k s next)) (record-back s at (records_of cs) c ok.0 h)
      ∙ ap (λ (x : Call). record { calls = x ∷ (records_from k s (at + length (record_of c))).calls; ending = (records_from k s (at + length (record_of c))).ending }) (same-call c)
      ∙ ap (λ (t : Traced). record { calls = c ∷ t.calls; ending = t.ending }) ih

head-back : (s : List ℕ) (next : ℕ) → length s ≤ most_bytes → number_at s 0 most64 ≡ read version next → head_of s ≡ Ok next
unfolding head_of
head-back s next small e =
    if-false _ _ _ (le-ltb most_bytes (length s) small)
    ∙ ap (λ (r : Result (ℕ × ℕ) Stop). r >>= λ v. version_of v.0 v.1) e
    ∙ if-true _ _ _ (eq-eqb version version refl)

-- Reading a written trace of at most 65,536 bytes gives the calls back.
pub trip : (cs : List Call) → AllNormal cs → length (trace_of cs) ≤ most_bytes → trace_in (trace_of cs) ≡ all_of cs
unfolding trace_in trace_of
trip cs ok small =
    let s = bytes_of version ++ records_of cs in
    let h : Holds s 0 (bytes_of version ++ records_of cs) = record { front = refl; fill = omega arith } in
    let n = number-back s 0 most64 version (records_of cs) (omega arith) (omega arith) h in
    ap (from_head s) (head-back s n.0 small n.1)
    ∙ records-back s cs (length s) n.0 ok (omega (arith, length-append (bytes_of version) (records_of cs))) n.2
