-- The points of a report as the code reads them, one after another into an array of zeros, end where
-- specs/Records.antt says. Assumes nothing.
use Rattle.std.specs.Prelude.{Result, Ok, Err}
use Prim.Native.Nat.{ℕ, zero, suc, ◌+◌, ◌-◌, ◌≤◌, ◌<◌}
use mathlib.Core.Path.{◌≡◌, refl, sym, ap, ◌∙◌}
use mathlib.Core.List.{List, [], ◌∷◌, ◌++◌, append_assoc, append-nil}
use native.Mathlib.Omega.{arith}
use native.Mathlib.Numerals.{add-one}
use lib.ListN.{length, take, drop, get_or, set, replicate, length-set, length-take, take-append-drop}
use lib.Seq.{drop-cons, take-suc-set, drop-set-lt, take-append-add}
use Rattle.panel.specs.Sizes.{max_points}
use Rattle.panel.specs.declared.points.Point.{Point}
use Rattle.numbers.specs.Numbers.{◌>>=◌, number_at}
use Rattle.numbers.specs.declared.reading.Stop.{Stop}
use Rattle.trace.specs.Records.{nowhere, no_points, points_from, first_of, filled, event_of, report_from}
use Rattle.trace.specs.Sizes.{most16, most8}
use Rattle.trace.specs.code.Points.{point_from, filled_from, event_with, report_end, report_filled}
use Rattle.panel.specs.Points.{fingers}
use Rattle.panel.specs.declared.points.Event.{Event}
use Rattle.numbers.specs.Sizes.{most64}
use Rattle.gesture.specs.declared.making.Call.TheVariants.{Report}

abbrev Row : Type 0
Row = Result (List Point × ℕ) Stop

-- some points, and behind them a row
abbrev behind : List Point → Row → Row
behind ps row = row >>= λ r. Ok (ps ++ r.0, r.1)

-- So many points are in place, the others are zero, and what is left to read is the rest.
pub record Reading (s : List ℕ) (at n : ℕ) (pts : List Point) (to i : ℕ) : Type 0 where
  pub five : length pts ≡ max_points
  pub zeros : drop i pts ≡ replicate (max_points - i) nowhere
  pub rest : points_from s at n ≡ behind (take i pts) (points_from s to (n - i))

behind-none : (row : Row) → row ≡ behind [] row
behind-none (Ok r) = refl
behind-none (Err stop) = refl

pub none_read : (s : List ℕ) (at n : ℕ) → Reading s at n no_points at 0
none_read s at n = record {
  five = refl;
  zeros = refl;
  rest = behind-none (points_from s at n) ∙ ap (λ (k : ℕ). behind [] (points_from s at k)) (omega arith);
}

take-zeros : (m k : ℕ) → m ≤ k → take m (replicate k nowhere) ≡ replicate m nowhere
take-zeros zero k h = refl
take-zeros (suc m) zero h = absurd (omega arith)
take-zeros (suc m) (suc k) h = ap (λ (l : List Point). nowhere ∷ l) (take-zeros m k (omega arith))

-- One point more.
abbrev a_point : ℕ → Result (ℕ × ℕ) Stop → Result (Point × ℕ) Stop
a_point x y = y >>= λ b. Ok (record { x = x; y = b.0 }, b.1)

abbrev point_and : ℕ → Result (ℕ × ℕ) Stop → (ℕ → Row) → Row
point_and x y row = y >>= λ b. row b.1 >>= λ r. Ok (record { x = x; y = b.0 } ∷ r.0, r.1)

second : (x : ℕ) (y : Result (ℕ × ℕ) Stop) (row : ℕ → Row) → point_and x y row ≡ (a_point x y >>= λ p. behind (p.0 ∷ []) (row p.1))
second x (Ok b) row = refl
second x (Err stop) row = refl

both : (x : Result (ℕ × ℕ) Stop) (y : ℕ → Result (ℕ × ℕ) Stop) (row : ℕ → Row) → (x >>= λ a. point_and a.0 (y a.1) row) ≡ ((x >>= λ a. a_point a.0 (y a.1)) >>= λ p. behind (p.0 ∷ []) (row p.1))
both (Ok a) y row = second a.0 (y a.1) row
both (Err stop) y row = refl

points-more : (s : List ℕ) (to k : ℕ) → points_from s to (suc k) ≡ (point_from s to >>= λ p. behind (p.0 ∷ []) (points_from s p.1 k))
unfolding points_from point_from
points-more s to k = both (number_at s to most16) (λ next. number_at s next most16) (λ next. points_from s next k)

no_more : (s : List ℕ) (to : ℕ) → points_from s to 0 ≡ Ok ([], to)
unfolding points_from
no_more s to = refl

joined : (ps qs : List Point) (row : Row) → behind ps (behind qs row) ≡ behind (ps ++ qs) row
joined ps qs (Ok r) = ap (λ (l : List Point). Ok (l, r.1)) (sym (append_assoc ps qs r.0))
joined ps qs (Err stop) = refl

-- a zero less
zeros-less : (pts : List Point) (i k : ℕ) → i < length pts → drop i pts ≡ replicate (suc k) nowhere → drop (suc i) pts ≡ replicate k nowhere
zeros-less pts i k h e = let d = drop-cons pts i nowhere h in cc

module _ (s : List ℕ) (at n : ℕ) (pts : List Point) (to i : ℕ) (most : n ≤ max_points) (r : Reading s at n pts to i) where
  -- what is left, with the next point in front
  next-point : (p : Result (Point × ℕ) Stop) → i < n → p ≡ point_from s to →
      points_from s at n ≡ behind (take i pts) (p >>= λ x. behind (x.0 ∷ []) (points_from s x.1 (n - (i + 1))))
  next-point p h e =
      let k = n - suc i in
      let left : n - i ≡ suc k = omega arith in
      let rest : k ≡ n - (i + 1) = omega arith in
      r.rest
      ∙ ap (λ (j : ℕ). behind (take i pts) (points_from s to j)) left
      ∙ ap (behind (take i pts)) (points-more s to k)
      ∙ ap (λ (q : Result (Point × ℕ) Stop). behind (take i pts) (q >>= λ x. behind (x.0 ∷ []) (points_from s x.1 k))) (sym e)
      ∙ ap (λ (j : ℕ). behind (take i pts) (p >>= λ x. behind (x.0 ∷ []) (points_from s x.1 j))) rest

  pub one-read : (p : Point) (next : ℕ) → i < n → Ok (p, next) ≡ point_from s to → Reading s at n (set pts i p) next (i + 1)
  one-read p next h e =
      let room : i < length pts = omega (arith, r.five) in
      let less : max_points - i ≡ suc (max_points - suc i) = omega arith in
      record {
        five = length-set pts i p ∙ r.five;
        zeros =
            rw (add-one i, drop-set-lt (suc i) pts i p (omega arith))
            (zeros-less pts i (max_points - suc i) room (r.zeros ∙ ap (λ (j : ℕ). replicate j nowhere) less));
        rest =
            next-point (Ok (p, next)) h e
            ∙ joined (take i pts) (p ∷ []) (points_from s next (n - (i + 1)))
            ∙ ap (λ (l : List Point). behind l (points_from s next (n - (i + 1)))) (sym (ap (λ (j : ℕ). take j (set pts i p)) (add-one i) ∙ take-suc-set pts i p room));
      }

  pub stopped-read : (stop : Stop) → i < n → Err stop ≡ point_from s to → filled_from s at n ≡ Err stop
  unfolding filled_from
  stopped-read stop h e = ap (λ (row : Row). row >>= λ x. Ok (filled x.0, x.1)) (next-point (Err stop) h e)

  filled-up : i ≤ max_points → filled (take i pts) ≡ pts
  filled-up within =
      let front : length (take i pts) ≡ i = length-take i pts ∙ omega (arith, r.five) in
      let whole : max_points ≡ length (take i pts) + (max_points - i) = omega arith in
      ap (λ (j : ℕ). take j (take i pts ++ no_points)) whole
      ∙ take-append-add (take i pts) no_points (max_points - i)
      ∙ ap (λ (l : List Point). take i pts ++ l) (take-zeros (max_points - i) max_points (omega arith) ∙ sym r.zeros)
      ∙ take-append-drop i pts

  pub all_read : i ≡ n → filled_from s at n ≡ Ok (pts, to)
  unfolding filled_from
  all_read e =
      let none : n - i ≡ 0 = omega arith in
      let row : points_from s at n ≡ Ok (take i pts, to) =
      r.rest
      ∙ ap (λ (j : ℕ). behind (take i pts) (points_from s to j)) none
      ∙ ap (behind (take i pts)) (no_more s to)
      ∙ ap (λ (l : List Point). Ok (l, to)) (append-nil (take i pts)) in
      ap (λ (x : Row). x >>= λ y. Ok (filled y.0, y.1)) row ∙ ap (λ (l : List Point). Ok (l, to)) (filled-up (omega arith))

-- the first point, and none
first-filled : (ps : List Point) → first_of ps ≡ get_or (filled ps) 0 nowhere
first-filled [] = refl
first-filled (p ∷ ps) = refl

-- an event from points that are filled up is the event from the points
event-same : (keys count : ℕ) (ps : List Point) → event_with keys count (filled ps) ≡ event_of keys count ps
unfolding event_with event_of
event-same keys count ps = rw (first-filled ps)

-- a report read by the code is the document's
report-end : (time keys count : ℕ) (row : Row) → report_end time keys count (row >>= λ ps. Ok (filled ps.0, ps.1)) ≡ (row >>= λ ps. Ok (Report (event_of keys count ps.0) time, ps.1))
report-end time keys count (Ok ps) = ap (λ (e : Event). Ok (Report e time, ps.1)) (event-same keys count ps.0)
report-end time keys count (Err stop) = refl

pub report_same : (s : List ℕ) (at : ℕ) → report_filled s at ≡ report_from s at
unfolding report_filled report_from filled_from
report_same s at = go-time (number_at s at most64)
  where
    go-count : (time keys : ℕ) (count : Result (ℕ × ℕ) Stop) →
        (count >>= λ c. report_end time keys c.0 (points_from s c.1 (fingers c.0) >>= λ ps. Ok (filled ps.0, ps.1)))
        ≡ (count >>= λ c. points_from s c.1 (fingers c.0) >>= λ ps. Ok (Report (event_of keys c.0 ps.0) time, ps.1))
    go-count time keys (Ok c) = report-end time keys c.0 (points_from s c.1 (fingers c.0))
    go-count time keys (Err stop) = refl

    go-keys : (time : ℕ) (keys : Result (ℕ × ℕ) Stop) →
        (keys >>= λ k. number_at s k.1 most8 >>= λ c. report_end time k.0 c.0 (points_from s c.1 (fingers c.0) >>= λ ps. Ok (filled ps.0, ps.1)))
        ≡ (keys >>= λ k. number_at s k.1 most8 >>= λ c. points_from s c.1 (fingers c.0) >>= λ ps. Ok (Report (event_of k.0 c.0 ps.0) time, ps.1))
    go-keys time (Ok k) = go-count time k.0 (number_at s k.1 most8)
    go-keys time (Err stop) = refl

    go-time : (time : Result (ℕ × ℕ) Stop) →
        (time >>= λ t. number_at s t.1 most8 >>= λ k. number_at s k.1 most8 >>= λ c. report_end t.0 k.0 c.0 (points_from s c.1 (fingers c.0) >>= λ ps. Ok (filled ps.0, ps.1)))
        ≡ (time >>= λ t. number_at s t.1 most8 >>= λ k. number_at s k.1 most8 >>= λ c. points_from s c.1 (fingers c.0) >>= λ ps. Ok (Report (event_of k.0 c.0 ps.0) t.0, ps.1))
    go-time (Ok t) = go-keys t.0 (number_at s t.1 most8)
    go-time (Err stop) = refl
