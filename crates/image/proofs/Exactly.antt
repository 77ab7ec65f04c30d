-- What the code looks at is all there is to look at: an area of the image's length passes exactly if it is the image of
-- the tracker that is read from it. Assumes nothing.
use Rattle.std.specs.Prelude.{Option, Some, None}
use Prim.Native.Nat.{ℕ, zero, suc, ◌+◌, ◌*◌, ◌%◌, ◌≤◌}
use mathlib.Core.Path.{◌≡◌, refl, sym, ◌∙◌, ap}
use mathlib.Core.Bool.{Bool, true, false, true≢false}
use mathlib.Core.List.{List, [], ◌∷◌, ◌++◌}
use native.Mathlib.Omega.{arith}
use lib.Dec.{leb, eqb}
use lib.ListN.{length, get_or}
use borrow.Author.Tests.{eqb-true, eqb-false, leb-true}
use Rattle.panel.specs.Tests as tests
use Rattle.panel.specs.declared.points.Point.{Point}
use Rattle.panel.specs.declared.axes.Axis.{Axis}
use Rattle.panel.specs.declared.axes.Axis.TheVariants.{H, «V»}
use Rattle.panel.proofs.Follow.{if-true, if-false}
use Rattle.panel.proofs.Laws.{and_left, and_right}
use Rattle.fingers.specs.declared.one.One.{One}
use Rattle.fingers.specs.declared.one.App.{App}
use Rattle.fingers.specs.declared.several.Multi.{Multi}
use Rattle.panel.specs.Axes as axes
use Rattle.panel.specs.Axes.{axis_number}
use Rattle.gesture.specs.Trackers.{origin}
use Rattle.gesture.specs.declared.record.Touch.{Touch}
use Rattle.gesture.specs.declared.record.Touch.TheVariants as touch
use Rattle.gesture.specs.declared.record.Tracker.{Tracker}
use Rattle.image.specs.Rows.{Row, row, bytes_of, laid, total}
use Rattle.image.specs.Image.{touch_number, start_of, since_of, multi_of, pairing_of, pair_number, pair_of, end_number, end_time, lock_number, zero_multi, point_rows, down_rows, multi_rows, pair_rows, pairing_rows, touch_rows, finger_rows, one_rows, taken_rows, end_rows, key_rows, setting_rows, table, image_of}
use Rattle.image.specs.code.Numbers.{number_at, point_at, is_zero, is_flag}
use Rattle.image.specs.code.Touches.{at_touch, at_start, at_since, at_multi_n, at_multi_t0, at_multi_c1, at_multi_t1, at_pairs, at_pair_a, at_pair_b, at_pair_axis, at_span0, at_pair_c0, at_pair_state, axis_from, pairing_from, touch_from, multi_at, pair_at, touch_at, no_down, no_multi, no_pair, pairing_checked, single_checked, touch_checked}
use Rattle.image.specs.code.Finger.{at_last, at_moved, at_far, at_long_sent, at_axis, at_grabbed, at_direct, at_early, at_captured, at_raw, lock_from, one_at, app_at, one_checked, app_checked}
use Rattle.image.specs.code.Ended.{at_ended, at_end_time, end_from, end_checked}
use Rattle.image.specs.code.Keys.{keys_at}
use Rattle.image.specs.code.Settings.{at_end}
use Rattle.image.specs.code.Whole.{tracker_at, rest_checked, image_checked}
use Rattle.image.specs.Typed.{Bytes}
use Rattle.image.proofs.Layouts.{read, read-laid, widths_of}
use Rattle.image.proofs.Flags.{both, flag-passes, of_two, is-flag, flag-stands}
use Rattle.image.proofs.SettingLaws.{settings-pass, setting-rows}
use Rattle.fingers.specs.declared.pair.Pair.{Pair}

-- An image passes.

axis-passes : (a : Axis) → leb (axis_number a % 256 + 256 * 0) 1 ≡ true
unfolding axes.axis_number
axis-passes H = refl
axis-passes «V» = refl

lock-passes : (x : Option Axis) → leb (lock_number x % 256 + 256 * 0) 2 ≡ true
unfolding lock_number axes.axis_number
lock-passes None = refl
lock-passes (Some H) = refl
lock-passes (Some «V») = refl

touch-passes : (x : Touch) (rest : List Row) → touch_checked (laid (touch_rows x ++ rest)) ≡ true
unfolding touch_checked single_checked pairing_checked no_down no_multi no_pair is_zero is_flag number_at laid bytes_of touch_rows touch_number start_of since_of multi_of pairing_of pair_number pair_of down_rows multi_rows pairing_rows pair_rows point_rows axes.axis_number tests.when◌then◌else◌ tests.◌and◌
touch-passes touch.Idle rest = refl
touch-passes (touch.Down start since) rest = refl
touch-passes (touch.Multi m None) rest = refl
touch-passes (touch.Multi m (Some r)) rest = axis-passes r.axis
touch-passes touch.Residual rest = refl

module _ (x : Touch) (one : One) (app : App) where
  end-passes : (end : Option ℕ) (rest : List Row) → end_checked (laid (touch_rows x ++ finger_rows one app ++ end_rows end ++ rest)) ≡ true
  unfolding end_checked is_zero number_at laid bytes_of touch_rows down_rows multi_rows pairing_rows pair_rows point_rows finger_rows one_rows taken_rows end_rows end_number end_time tests.when◌then◌else◌
  end-passes None rest = refl
  end-passes (Some end) rest = refl

  one_passes : (rest : List Row) → one_checked (laid (touch_rows x ++ finger_rows one app ++ rest)) ≡ true
  unfolding one_checked is_flag number_at laid bytes_of touch_rows down_rows multi_rows pairing_rows pair_rows point_rows finger_rows one_rows taken_rows
  one_passes rest = both (flag-passes one.moved) (both (flag-passes one.long_sent) (both (lock-passes one.axis) (both (flag-passes one.grabbed) (flag-passes one.early))))

  app-passes : (rest : List Row) → app_checked (laid (touch_rows x ++ finger_rows one app ++ rest)) ≡ true
  unfolding app_checked is_flag number_at laid bytes_of touch_rows down_rows multi_rows pairing_rows pair_rows point_rows finger_rows one_rows taken_rows
  app-passes rest = both (flag-passes app.direct) (both (flag-passes app.captured) (flag-passes app.raw))

pub image-passes : (t : Tracker) → image_checked (image_of t) ≡ true
unfolding image_checked rest_checked image_of table touch_rows down_rows multi_rows pairing_rows pair_rows point_rows finger_rows one_rows taken_rows end_rows key_rows setting_rows
image-passes t =
    let ends = key_rows t.keys ++ setting_rows t.settings in
    let later = end_rows t.multi_end ++ ends in
    both (touch-passes t.touch (finger_rows t.one t.app ++ later))
    (both (one_passes t.touch t.one t.app later)
    (both (app-passes t.touch t.one t.app later)
    (both (end-passes t.touch t.one t.app t.multi_end ends) (settings-pass t))))

-- What passes is the image of its tracker. A number of few values stands for itself.

axis-same : (n : ℕ) → n ≤ 1 → axis_number (axis_from n) ≡ n
unfolding axis_from axes.axis_number tests.when◌then◌else◌
axis-same n h = of_two Axis axis_from axis_number refl refl n h

lock-same : (n : ℕ) → n ≤ 2 → lock_number (lock_from n) ≡ n
unfolding lock_from lock_number axes.axis_number tests.when◌then◌else◌
lock-same zero h = refl
lock-same (suc zero) h = refl
lock-same (suc (suc n)) h =
    let e : n ≡ 0 = omega (arith, h) in
    ap (λ (k : ℕ). lock_number (lock_from (suc (suc k)))) e ∙ sym (ap (λ (k : ℕ). suc (suc k)) e)

-- the rows of a touch, by their numbers
abbrev shape : ℕ → Point → ℕ → Multi → ℕ → Point → Point → ℕ → ℕ → Point → ℕ → List Row
shape n start since m k a b axis span0 c0 state =
    row 1 n ∷ (down_rows start since ++ (multi_rows m ++ (row 1 k ∷ (point_rows a ++ (point_rows b ++ (row 1 axis ∷ (row 2 span0 ∷ (point_rows c0 ++ (row 1 state ∷ [])))))))))

module _ (area : List ℕ) where
  is-zero : (at w : ℕ) → is_zero area at w ≡ true → number_at area at w ≡ 0
  unfolding is_zero
  is-zero at w e = eqb-true _ _ e

  -- What is zero is so in all its parts, and what is so in its parts.

  starts : (n at v : ℕ) → v ≤ n → number_at area at n ≡ 0 → number_at area at v ≡ 0
  unfolding number_at
  starts n at zero h e = refl
  starts zero at (suc v) h e = omega (arith, h)
  starts (suc n) at (suc v) h e =
      let low : get_or area at 0 ≡ 0 = omega (arith, e) in
      let high : number_at area (suc at) n ≡ 0 = omega (arith, e) in
      let ih = starts n (suc at) v (omega (arith, h)) high in
      omega (arith, low, ih)

  ends : (n at v w : ℕ) → v + w ≡ n → number_at area at n ≡ 0 → number_at area (at + v) w ≡ 0
  unfolding number_at
  ends n at zero w h e =
      let place : at + 0 ≡ at = omega arith in
      let width : w ≡ n = omega (arith, h) in
      (λ i. number_at area (place i) (width i)) ∙ e
  ends zero at (suc v) w h e = omega (arith, h)
  ends (suc n) at (suc v) w h e =
      let high : number_at area (suc at) n ≡ 0 = omega (arith, e) in
      let place : at + suc v ≡ suc at + v = omega arith in
      ap (λ (k : ℕ). number_at area k w) place ∙ ends n (suc at) v w (omega (arith, h)) high

  joins : (n at v w : ℕ) → v + w ≡ n → number_at area at v ≡ 0 → number_at area (at + v) w ≡ 0 → number_at area at n ≡ 0
  unfolding number_at
  joins n at zero w h e f =
      let place : at ≡ at + 0 = omega arith in
      let width : n ≡ w = omega (arith, h) in
      (λ i. number_at area (place i) (width i)) ∙ f
  joins zero at (suc v) w h e f = omega (arith, h)
  joins (suc n) at (suc v) w h e f =
      let low : get_or area at 0 ≡ 0 = omega (arith, e) in
      let high : number_at area (suc at) v ≡ 0 = omega (arith, e) in
      let place : suc at + v ≡ at + suc v = omega arith in
      let ih = joins n (suc at) v w (omega (arith, h)) high (ap (λ (k : ℕ). number_at area k w) place ∙ f) in
      omega (arith, low, ih)

  start-of-word : (at v w : ℕ) → number_at area at (v + w) ≡ 0 → number_at area at v ≡ 0
  start-of-word at v w = starts (v + w) at v (omega arith)

  rest-of-word : (at v w : ℕ) → number_at area at (v + w) ≡ 0 → number_at area (at + v) w ≡ 0
  rest-of-word at v w = ends (v + w) at v w refl

  part-of-word : (at u v w : ℕ) → number_at area at (u + (v + w)) ≡ 0 → number_at area (at + u) v ≡ 0
  part-of-word at u v w e = start-of-word (at + u) v w (rest-of-word at u (v + w) e)

  joined : (at v w : ℕ) → number_at area at v ≡ 0 → number_at area (at + v) w ≡ 0 → number_at area at (v + w) ≡ 0
  joined at v w = joins (v + w) at v w refl

  -- No finger is down.

  module _ (absent : no_down area ≡ true) where
    start-4 : number_at area at_start 4 ≡ 0
    unfolding no_down
    start-4 = is-zero at_start 4 (and_left _ _ absent)

    no_start : point_at area at_start ≡ origin
    no_start = λ i. record { x = start-of-word at_start 2 2 start-4 i; y = rest-of-word at_start 2 2 start-4 i }

    no-since : number_at area at_since 8 ≡ 0
    unfolding no_down
    no-since = is-zero at_since 8 (and_right _ _ absent)

  -- No several fingers.

  module _ (absent : no_multi area ≡ true) where
    word-0 : number_at area at_multi_n 8 ≡ 0
    unfolding no_multi
    word-0 = is-zero _ 8 (and_left _ _ absent)

    word-1 : number_at area (at_multi_n + 8) 8 ≡ 0
    unfolding no_multi
    word-1 = is-zero _ 8 (and_left _ _ (and_right _ _ absent))

    word-2 : number_at area (at_multi_n + 16) 8 ≡ 0
    unfolding no_multi
    word-2 = is-zero _ 8 (and_left _ _ (and_right _ _ (and_right _ _ absent)))

    word-3 : number_at area (at_multi_n + 24) 2 ≡ 0
    unfolding no_multi
    word-3 = is-zero _ 2 (and_right _ _ (and_right _ _ (and_right _ _ absent)))

    -- Numbers that two of the words share.

    no-t0 : number_at area at_multi_t0 8 ≡ 0
    no-t0 = joined at_multi_t0 3 5 (rest-of-word at_multi_n 5 3 word-0) (start-of-word (at_multi_n + 8) 5 3 word-1)

    no-y1 : number_at area (at_multi_c1 + 2) 2 ≡ 0
    no-y1 = joined (at_multi_c1 + 2) 1 1 (rest-of-word (at_multi_n + 8) 7 1 word-1) (start-of-word (at_multi_n + 16) 1 7 word-2)

    no-t1 : number_at area at_multi_t1 8 ≡ 0
    no-t1 = joined at_multi_t1 7 1 (rest-of-word (at_multi_n + 16) 1 7 word-2) (start-of-word (at_multi_n + 24) 1 1 word-3)

    no-several : multi_at area ≡ zero_multi
    unfolding multi_at
    no-several =
        λ i.
        record {
          n = start-of-word at_multi_n 1 7 word-0 i;
          c0 = record { x = part-of-word at_multi_n 1 2 5 word-0 i; y = part-of-word at_multi_n 3 2 3 word-0 i };
          t0 = no-t0 i;
          c1 = record { x = part-of-word (at_multi_n + 8) 5 2 1 word-1 i; y = no-y1 i };
          t1 = no-t1 i;
        }

    no-mark : number_at area at_pairs 1 ≡ 0
    no-mark = rest-of-word (at_multi_n + 24) 1 1 word-3

  -- No pair: the rows of the touch are then those of a touch without one.

  module _ (absent : no_pair area ≡ true) where
    word-4 : number_at area at_pair_a 8 ≡ 0
    unfolding no_pair
    word-4 = is-zero _ 8 (and_left _ _ absent)

    word-5 : number_at area at_pair_axis 8 ≡ 0
    unfolding no_pair
    word-5 = is-zero _ 8 (and_right _ _ absent)

    no-pair-rows : (n : ℕ) (start : Point) (since : ℕ) (m : Multi) (k : ℕ)
        → shape n start since m k origin origin 0 0 origin 0
        ≡ shape n start since m k (point_at area at_pair_a) (point_at area at_pair_b) (number_at area at_pair_axis 1) (number_at area at_span0 2) (point_at area at_pair_c0) (number_at area at_pair_state 1)
    no-pair-rows n start since m k =
        sym (λ i.
        shape n start since m k (record { x = start-of-word at_pair_a 2 6 word-4 i; y = part-of-word at_pair_a 2 2 4 word-4 i }) (record { x = part-of-word at_pair_a 4 2 2 word-4 i; y = rest-of-word at_pair_a 6 2 word-4 i })
        (start-of-word at_pair_axis 1 7 word-5 i)
        (part-of-word at_pair_axis 1 2 5 word-5 i)
        (record { x = part-of-word at_pair_axis 3 2 3 word-5 i; y = part-of-word at_pair_axis 5 2 1 word-5 i })
        (rest-of-word at_pair_axis 7 1 word-5 i))

  -- The rows of the touch.

  abbrev at_n : ℕ
  at_n = number_at area at_touch 1

  abbrev at_k : ℕ
  at_k = number_at area at_pairs 1

  abbrev pairs_from : ℕ → Option Pair
  pairs_from k = pairing_from k (pair_at area)

  -- what stands in the area
  abbrev stands : List Row
  stands =
      shape at_n (point_at area at_start) (number_at area at_since 8) (multi_at area) at_k (point_at area at_pair_a) (point_at area at_pair_b) (number_at area at_pair_axis 1) (number_at area at_span0 2) (point_at area at_pair_c0)
      (number_at area at_pair_state 1)

  abbrev reads : ℕ → ℕ → List Row
  reads n k = touch_rows (touch_from n (point_at area at_start) (number_at area at_since 8) (multi_at area) (pairs_from k))

  touch_reads : touch_rows (touch_at area) ≡ reads at_n at_k
  unfolding touch_at
  touch_reads = refl

  module _ (none : no_multi area ≡ true) (no-pair : no_pair area ≡ true) where
    alone-rows : (n : ℕ) → at_n ≡ n → (start : Point) → (since : ℕ) → point_at area at_start ≡ start → number_at area at_since 8 ≡ since → shape n start since zero_multi 0 origin origin 0 0 origin 0 ≡ stands
    alone-rows n e start since p s =
        (λ i. shape (sym e i) (sym p i) (sym s i) (sym (no-several none) i) (sym (no-mark none) i) origin origin 0 0 origin 0)
        ∙ no-pair-rows no-pair at_n (point_at area at_start) (number_at area at_since 8) (multi_at area) at_k

    down-rows : at_n ≡ 1 → reads at_n at_k ≡ stands
    unfolding touch_from touch_rows touch_number start_of since_of multi_of pairing_of pair_number pair_of pairing_rows pair_rows down_rows multi_rows point_rows axes.axis_number tests.when◌then◌else◌
    down-rows e = ap (λ (n : ℕ). reads n at_k) e ∙ alone-rows 1 e (point_at area at_start) (number_at area at_since 8) refl refl

    module _ (none-down : no_down area ≡ true) where
      idle-rows : at_n ≡ 0 → reads at_n at_k ≡ stands
      unfolding touch_from touch_rows touch_number start_of since_of multi_of pairing_of pair_number pair_of pairing_rows pair_rows down_rows multi_rows point_rows axes.axis_number tests.when◌then◌else◌
      idle-rows e = ap (λ (n : ℕ). reads n at_k) e ∙ alone-rows 0 e origin 0 (no_start none-down) (no-since none-down)

      residual-rows : at_n ≡ 3 → reads at_n at_k ≡ stands
      unfolding touch_from touch_rows touch_number start_of since_of multi_of pairing_of pair_number pair_of pairing_rows pair_rows down_rows multi_rows point_rows axes.axis_number tests.when◌then◌else◌
      residual-rows e = ap (λ (n : ℕ). reads n at_k) e ∙ alone-rows 3 e origin 0 (no_start none-down) (no-since none-down)

      other-rows : (b : Bool) → eqb at_n 0 ≡ b → at_n ≤ 3 → eqb at_n 1 ≡ false → eqb at_n 2 ≡ false → reads at_n at_k ≡ stands
      other-rows true e h n1 n2 = idle-rows (eqb-true _ _ e)
      other-rows false e h n1 n2 =
          let a = eqb-false at_n 0 e in
          let b = eqb-false at_n 1 n1 in
          let c = eqb-false at_n 2 n2 in
          residual-rows (omega (arith, h, a, b, c))

  single-rows : (b : Bool) → eqb at_n 1 ≡ b → at_n ≤ 3 → eqb at_n 2 ≡ false → single_checked area at_n ≡ true → reads at_n at_k ≡ stands
  unfolding single_checked
  single-rows true e h n2 passes = down-rows (and_left _ _ passes) (and_left _ _ (and_right _ _ passes)) (eqb-true _ _ e)
  single-rows false e h n2 passes =
      let none-down = sym (if-false _ _ _ e) ∙ and_right _ _ (and_right _ _ passes) in
      other-rows (and_left _ _ passes) (and_left _ _ (and_right _ _ passes)) none-down (eqb at_n 0) refl h e n2

  module _ (e : at_n ≡ 2) (none-down : no_down area ≡ true) where
    several-rows : (k : ℕ) (a b : Point) (axis span0 : ℕ) (c0 : Point) (state : ℕ) → shape 2 origin 0 (multi_at area) k a b axis span0 c0 state ≡ shape at_n (point_at area at_start) (number_at area at_since 8) (multi_at area) k a b axis span0 c0 state
    several-rows k a b axis span0 c0 state = λ i. shape (sym e i) (sym (no_start none-down) i) (sym (no-since none-down) i) (multi_at area) k a b axis span0 c0 state

    unpaired-rows : at_k ≡ 0 → no_pair area ≡ true → reads at_n at_k ≡ stands
    unfolding touch_from pairing_from touch_rows touch_number start_of since_of multi_of pairing_of pair_number pair_of pairing_rows pair_rows down_rows multi_rows point_rows axes.axis_number tests.when◌then◌else◌
    unpaired-rows f no-pair =
        (λ i. reads (e i) (f i)) ∙ several-rows 0 origin origin 0 0 origin 0
        ∙ no-pair-rows no-pair at_n (point_at area at_start) (number_at area at_since 8) (multi_at area) 0
        ∙ ap (λ (k : ℕ). shape at_n (point_at area at_start) (number_at area at_since 8) (multi_at area) k (point_at area at_pair_a) (point_at area at_pair_b) (number_at area at_pair_axis 1) (number_at area at_span0 2) (point_at area at_pair_c0) (number_at area at_pair_state 1)) (sym f)

    paired-rows : at_k ≡ 1 → is_flag area at_pair_axis ≡ true → reads at_n at_k ≡ stands
    unfolding touch_from pairing_from pair_at touch_rows touch_number start_of since_of multi_of pairing_of pair_number pair_of pairing_rows pair_rows down_rows multi_rows point_rows tests.when◌then◌else◌
    paired-rows f flag =
        (λ i. reads (e i) (f i)) ∙ several-rows 1 (point_at area at_pair_a) (point_at area at_pair_b) (axis_number (axis_from (number_at area at_pair_axis 1))) (number_at area at_span0 2) (point_at area at_pair_c0) (number_at area at_pair_state 1)
        ∙ (λ i. shape at_n (point_at area at_start) (number_at area at_since 8) (multi_at area) (sym f i) (point_at area at_pair_a) (point_at area at_pair_b) (axis-same _ (is-flag area at_pair_axis flag) i) (number_at area at_span0 2) (point_at area at_pair_c0) (number_at area at_pair_state 1))

    pairing-rows : (a b : Bool) → eqb at_k 0 ≡ a → eqb at_k 1 ≡ b → pairing_checked area ≡ true → reads at_n at_k ≡ stands
    unfolding pairing_checked
    pairing-rows true b k0 k1 passes = unpaired-rows (eqb-true _ _ k0) (sym (if-true _ _ _ k0) ∙ passes)
    pairing-rows false true k0 k1 passes = paired-rows (eqb-true _ _ k1) (sym (if-true _ _ _ k1) ∙ sym (if-false _ _ _ k0) ∙ passes)
    pairing-rows false false k0 k1 passes = absurd (true≢false (sym passes ∙ if-false _ _ _ k0 ∙ if-false _ _ _ k1))

  by_number : (a b : Bool) → eqb at_n 2 ≡ a → leb at_n 3 ≡ b → touch_checked area ≡ true → reads at_n at_k ≡ stands
  unfolding touch_checked
  by_number true b n2 n3 passes =
      let both-pass = sym (if-true _ _ _ n2) ∙ passes in
      pairing-rows (eqb-true _ _ n2) (and_left _ _ both-pass) (eqb at_k 0) (eqb at_k 1) refl refl (and_right _ _ both-pass)
  by_number false true n2 n3 passes = single-rows (eqb at_n 1) refl (leb-true _ _ n3) n2 (sym (if-true _ _ _ n3) ∙ sym (if-false _ _ _ n2) ∙ passes)
  by_number false false n2 n3 passes = absurd (true≢false (sym passes ∙ if-false _ _ _ n2 ∙ if-false _ _ _ n3))

  touch-rows : touch_checked area ≡ true → touch_rows (touch_at area) ≡ stands
  touch-rows passes = touch_reads ∙ by_number (eqb at_n 2) (leb at_n 3) refl refl passes

  -- The other rows.

  module _ (one : one_checked area ≡ true) (app : app_checked area ≡ true) where
    lock-stands : lock_number (lock_from (number_at area at_axis 1)) ≡ number_at area at_axis 1
    unfolding one_checked
    lock-stands = lock-same _ (leb-true _ _ (and_left _ _ (and_right _ _ (and_right _ _ one))))

    finger-rows : finger_rows (one_at area) (app_at area) ≡ read area (widths_of (finger_rows (one_at area) (app_at area))) at_last
    unfolding finger_rows one_rows taken_rows one_at app_at one_checked app_checked widths_of point_rows
    finger-rows =
        let one2 = and_right _ _ one in
        let one4 = and_right _ _ (and_right _ _ one2) in
        let app2 = and_right _ _ app in
        λ i.
        point_rows (point_at area at_last) ++ (row 1 (flag-stands area at_moved (and_left _ _ one) i)
        ∷ row 2 (number_at area at_far 2)
        ∷ row 1 (flag-stands area at_long_sent (and_left _ _ one2) i)
        ∷ row 1 (lock-stands i)
        ∷ row 1 (flag-stands area at_grabbed (and_left _ _ one4) i)
        ∷ row 1 (flag-stands area at_direct (and_left _ _ app) i)
        ∷ row 1 (flag-stands area at_early (and_right _ _ one4) i)
        ∷ row 1 (flag-stands area at_captured (and_left _ _ app2) i)
        ∷ row 1 (flag-stands area at_raw (and_right _ _ app2) i)
        ∷ [])

  abbrev at_e : ℕ
  at_e = number_at area at_ended 1

  end-rows : (b : Bool) → eqb at_e 0 ≡ b → end_checked area ≡ true → end_rows (end_from at_e (number_at area at_end_time 8)) ≡ row 1 at_e ∷ row 8 (number_at area at_end_time 8) ∷ []
  unfolding end_checked end_rows end_from end_number end_time tests.when◌then◌else◌
  end-rows true e passes =
      let f : at_e ≡ 0 = eqb-true _ _ e in
      let zero-time = is-zero at_end_time 8 (sym (if-true _ _ _ e) ∙ passes) in
      (λ i. end_rows (end_from (f i) (number_at area at_end_time 8))) ∙ (λ i. row 1 (sym f i) ∷ row 8 (sym zero-time i) ∷ [])
  end-rows false e passes =
      let f : at_e ≡ 1 = eqb-true _ _ (sym (if-false _ _ _ e) ∙ passes) in
      (λ i. end_rows (end_from (f i) (number_at area at_end_time 8))) ∙ (λ i. row 1 (sym f i) ∷ row 8 (number_at area at_end_time 8) ∷ [])

  -- the widths of the table
  abbrev widths : List ℕ
  widths = widths_of (table (tracker_at area))

  table-stands : image_checked area ≡ true → table (tracker_at area) ≡ read area widths 0
  unfolding image_checked rest_checked table tracker_at widths_of touch_rows pairing_rows pair_rows multi_at point_rows down_rows multi_rows finger_rows one_rows taken_rows end_rows key_rows setting_rows
  table-stands passes =
      let rest = and_right _ _ passes in
      let app = and_left _ _ (and_right _ _ rest) in
      let end = and_left _ _ (and_right _ _ (and_right _ _ rest)) in
      let set = and_right _ _ (and_right _ _ (and_right _ _ rest)) in
      λ i. touch-rows (and_left _ _ passes) i ++ finger-rows (and_left _ _ rest) app i ++ end-rows (eqb at_e 0) refl end i ++ key_rows (keys_at area) ++ setting-rows area set i

  module _ (bytes : Bytes area) (long : length area ≡ at_end) where
    as_read : laid (read area widths 0) ≡ area
    unfolding total table widths_of touch_rows pairing_rows pair_rows point_rows down_rows multi_rows finger_rows one_rows taken_rows end_rows key_rows setting_rows
    as_read = read-laid area bytes widths 0 (sym long)

    pub image-again : image_checked area ≡ true → image_of (tracker_at area) ≡ area
    unfolding image_of
    image-again passes = ap laid (table-stands passes) ∙ as_read
