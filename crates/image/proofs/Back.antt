-- The tracker read from the image of a tracker is that tracker; and what is read from bytes is within its types. Assumes
-- nothing.
use Rattle.std.specs.Prelude.{Option, Some, None}
use Prim.Native.Nat.{ℕ, ◌+◌, ◌<◌}
use mathlib.Core.Path.{◌≡◌, refl, ◌∙◌, ap}
use mathlib.Core.List.{List, [], ◌∷◌, ◌++◌}
use lib.Dec.{lit<}
use lib.ListN.{get_or}
use Rattle.panel.specs.Tests as tests
use Rattle.panel.specs.declared.points.Point.{Point}
use Rattle.panel.specs.declared.axes.Axis.{Axis}
use Rattle.panel.specs.declared.axes.Axis.TheVariants.{H, «V»}
use Rattle.fingers.specs.declared.one.One.{One}
use Rattle.fingers.specs.declared.one.App.{App}
use Rattle.fingers.specs.declared.several.Multi.{Multi}
use Rattle.fingers.specs.declared.pair.Pair.{Pair}
use Rattle.panel.proofs.Follow.{if-all}
use Rattle.panel.specs.Axes as axes
use Rattle.panel.specs.Axes.{axis_number}
use Rattle.gesture.specs.Trackers.{origin}
use Rattle.gesture.specs.declared.record.Touch.{Touch}
use Rattle.gesture.specs.declared.record.Touch.TheVariants as touch
use Rattle.gesture.specs.declared.record.Tracker.{Tracker}
use Rattle.image.specs.Image.{touch_number, start_of, since_of, multi_of, pairing_of, pair_number, pair_of, end_number, end_time, lock_number, zero_multi, zero_pair, point_rows, down_rows, multi_rows, pair_rows, pairing_rows, touch_rows, finger_rows, one_rows, taken_rows, end_rows, key_rows, setting_rows, table, image_of}
use Rattle.image.specs.Rows.{row, total, Fits}
use Rattle.image.specs.code.Numbers.{point_at, flag_from}
use Rattle.image.specs.code.Touches.{at_touch, axis_from, pairing_from, touch_from, multi_at, pair_at, touch_at}
use Rattle.image.specs.code.Finger.{at_last, lock_from, one_at, app_at}
use Rattle.image.specs.code.Ended.{at_ended, end_from, end_at}
use Rattle.image.specs.code.Keys.{at_told, keys_at}
use Rattle.image.specs.code.Settings.{at_grab}
use Rattle.image.specs.code.Whole.{tracker_at}
use Rattle.image.specs.Typed.{Byte, Time, Bytes, TypedPoint, TypedMulti, TypedPair, TypedPairing, TypedTouch, TypedOne, TypedEnd, Typed}
use Rattle.image.proofs.Flags.{bit-fits, bit-back}
use Rattle.image.proofs.SettingLaws.{settings-fit, settings-same, settings-typed}
use Rattle.image.proofs.Layouts.{fits-join, numbers_at, numbers_in, part-back, number_fits}

-- Each number of a part fits its row.

axis-fits : (a : Axis) → axis_number a < 256
unfolding axes.axis_number
axis-fits H = lit< tt
axis-fits «V» = lit< tt

lock-fits : (x : Option Axis) → lock_number x < 256
unfolding lock_number axes.axis_number
lock-fits None = lit< tt
lock-fits (Some H) = lit< tt
lock-fits (Some «V») = lit< tt

zero-point : TypedPoint origin
zero-point = (lit< tt, lit< tt)

down_fits : (p : Point) (since : ℕ) → TypedPoint p → Time since → Fits (down_rows p since)
unfolding down_rows point_rows
down_fits p since h time = (h.0, (h.1, (time, tt)))

multi-fits : (m : Multi) → TypedMulti m → Fits (multi_rows m)
unfolding multi_rows point_rows
multi-fits m h = (h.0, (h.1.0, (h.1.1, (h.2, (h.3.0, (h.3.1, (h.4, tt)))))))

pair_fits : (r : Pair) → TypedPair r → Fits (pair_rows r)
unfolding pair_rows point_rows
pair_fits r h = (h.0.0, (h.0.1, (h.1.0, (h.1.1, (axis-fits r.axis, (h.2, (h.3.0, (h.3.1, (h.4, tt)))))))))

pairing-fits : (pair : Option Pair) → TypedPairing pair → Fits (pairing_rows pair)
unfolding pairing_rows pair_number pair_of
pairing-fits None h = (lit< tt, pair_fits zero_pair (zero-point, zero-point, lit< tt, zero-point, lit< tt))
pairing-fits (Some r) h = (lit< tt, pair_fits r h)

no-down : Fits (down_rows origin 0)
no-down = down_fits origin 0 zero-point (lit< tt)

no-multi : Fits (multi_rows zero_multi)
no-multi = multi-fits zero_multi (lit< tt, zero-point, lit< tt, zero-point, lit< tt)

absent-fits : Fits (pairing_rows None)
absent-fits = pairing-fits None tt

module _ (n : ℕ) (known : Byte n) (start : Point) (since : ℕ) (m : Multi) (pair : Option Pair) where
  parts-fit : Fits (down_rows start since) → Fits (multi_rows m) → Fits (pairing_rows pair) → Fits (row 1 n ∷ (down_rows start since ++ (multi_rows m ++ pairing_rows pair)))
  parts-fit d f r = (known, fits-join (down_rows start since) (multi_rows m ++ pairing_rows pair) d (fits-join (multi_rows m) (pairing_rows pair) f r))

touch-fits : (x : Touch) → TypedTouch x → Fits (touch_rows x)
unfolding touch_rows touch_number start_of since_of multi_of pairing_of down_rows multi_rows point_rows
touch-fits touch.Idle h = parts-fit 0 (lit< tt) origin 0 zero_multi None no-down no-multi absent-fits
touch-fits (touch.Down start since) h = parts-fit 1 (lit< tt) start since zero_multi None (down_fits start since h.0 h.1) no-multi absent-fits
touch-fits (touch.Multi m pair) h = parts-fit 2 (lit< tt) origin 0 m pair no-down (multi-fits m h.0) (pairing-fits pair h.1)
touch-fits touch.Residual h = parts-fit 3 (lit< tt) origin 0 zero_multi None no-down no-multi absent-fits

finger-fits : (one : One) (app : App) → TypedOne one → Fits (finger_rows one app)
unfolding finger_rows one_rows taken_rows point_rows
finger-fits one app h = (h.0.0, (h.0.1, (bit-fits one.moved, (h.1, (bit-fits one.long_sent, (lock-fits one.axis, (bit-fits one.grabbed, (bit-fits app.direct, (bit-fits one.early, (bit-fits app.captured, (bit-fits app.raw, tt)))))))))))

end_fits : (end : Option ℕ) → TypedEnd end → Fits (end_rows end)
unfolding end_rows end_number end_time
end_fits None h = (lit< tt, (lit< tt, tt))
end_fits (Some end) h = (lit< tt, (h, tt))

-- Each part is what was written.

axis-back : (a : Axis) → axis_from (axis_number a) ≡ a
unfolding axis_from axes.axis_number tests.when◌then◌else◌
axis-back H = refl
axis-back «V» = refl

lock-back : (x : Option Axis) → lock_from (lock_number x) ≡ x
unfolding lock_from lock_number axes.axis_number tests.when◌then◌else◌
lock-back None = refl
lock-back (Some H) = refl
lock-back (Some «V») = refl

touch-back : (x : Touch) → touch_from (touch_number x) (start_of x) (since_of x) (multi_of x) (pairing_from (pair_number (pairing_of x)) (pair_of (pairing_of x))) ≡ x
unfolding touch_from touch_number start_of since_of multi_of pairing_of pairing_from pair_number pair_of tests.when◌then◌else◌
touch-back touch.Idle = refl
touch-back (touch.Down start since) = refl
touch-back (touch.Multi m None) = refl
touch-back (touch.Multi m (Some r)) = refl
touch-back touch.Residual = refl

end_back : (end : Option ℕ) → end_from (end_number end) (end_time end) ≡ end
unfolding end_from end_number end_time tests.when◌then◌else◌
end_back None = refl
end_back (Some end) = refl

-- Reading a part of the image, by the places of its rows.

module _ (t : Tracker) (typed : Typed t) where
  touch-read : numbers_at (touch_rows t.touch) (image_of t) at_touch ≡ numbers_in (touch_rows t.touch)
  unfolding image_of table total touch_rows down_rows multi_rows pairing_rows pair_rows point_rows finger_rows one_rows taken_rows end_rows key_rows setting_rows
  touch-read = part-back [] (touch_rows t.touch) (finger_rows t.one t.app ++ end_rows t.multi_end ++ key_rows t.keys ++ setting_rows t.settings) (touch-fits t.touch typed.touching)

  finger-read : numbers_at (finger_rows t.one t.app) (image_of t) at_last ≡ numbers_in (finger_rows t.one t.app)
  unfolding image_of table total touch_rows down_rows multi_rows pairing_rows pair_rows point_rows finger_rows one_rows taken_rows end_rows key_rows setting_rows
  finger-read = part-back (touch_rows t.touch) (finger_rows t.one t.app) (end_rows t.multi_end ++ key_rows t.keys ++ setting_rows t.settings) (finger-fits t.one t.app typed.finger)

  end_read : numbers_at (end_rows t.multi_end) (image_of t) at_ended ≡ numbers_in (end_rows t.multi_end)
  unfolding image_of table total touch_rows down_rows multi_rows pairing_rows pair_rows point_rows finger_rows one_rows taken_rows end_rows key_rows setting_rows
  end_read = part-back (touch_rows t.touch ++ finger_rows t.one t.app) (end_rows t.multi_end) (key_rows t.keys ++ setting_rows t.settings) (end_fits t.multi_end typed.ended)

  keys-read : numbers_at (key_rows t.keys) (image_of t) at_told ≡ numbers_in (key_rows t.keys)
  unfolding image_of table total touch_rows down_rows multi_rows pairing_rows pair_rows point_rows finger_rows one_rows taken_rows end_rows key_rows setting_rows
  keys-read = part-back (touch_rows t.touch ++ finger_rows t.one t.app ++ end_rows t.multi_end) (key_rows t.keys) (setting_rows t.settings) (typed.keying.0, (typed.keying.1, tt))

  settings-read : numbers_at (setting_rows t.settings) (image_of t) at_grab ≡ numbers_in (setting_rows t.settings)
  unfolding image_of table total touch_rows down_rows multi_rows pairing_rows pair_rows point_rows finger_rows one_rows taken_rows end_rows key_rows setting_rows
  settings-read = part-back (touch_rows t.touch ++ finger_rows t.one t.app ++ end_rows t.multi_end ++ key_rows t.keys) (setting_rows t.settings) [] (settings-fit t.settings typed.setting)

  at : (k : ℕ) {l m : List ℕ} → l ≡ m → get_or l k 0 ≡ get_or m k 0
  at k e = ap (λ (l : List ℕ). get_or l k 0) e

  touch-same : touch_at (image_of t) ≡ t.touch
  unfolding touch_at multi_at pair_at numbers_at numbers_in touch_rows down_rows multi_rows pairing_rows pair_rows point_rows
  touch-same =
      let e = touch-read in
      (λ i.
      touch_from (at 0 e i) (record { x = at 1 e i; y = at 2 e i }) (at 3 e i)
      (record { n = at 4 e i; c0 = record { x = at 5 e i; y = at 6 e i }; t0 = at 7 e i; c1 = record { x = at 8 e i; y = at 9 e i }; t1 = at 10 e i })
      (pairing_from (at 11 e i) (record { a = record { x = at 12 e i; y = at 13 e i }; b = record { x = at 14 e i; y = at 15 e i }; axis = (ap axis_from (at 16 e) ∙ axis-back _) i; span0 = at 17 e i; c0 = record { x = at 18 e i; y = at 19 e i }; state = at 20 e i })))
      ∙ touch-back t.touch

  one_same : one_at (image_of t) ≡ t.one
  unfolding one_at numbers_at numbers_in finger_rows one_rows taken_rows point_rows
  one_same =
      let e = finger-read in
      λ i.
      record {
        last = record { x = at 0 e i; y = at 1 e i };
        moved = (ap flag_from (at 2 e) ∙ bit-back _) i;
        far = at 3 e i;
        long_sent = (ap flag_from (at 4 e) ∙ bit-back _) i;
        axis = (ap lock_from (at 5 e) ∙ lock-back _) i;
        grabbed = (ap flag_from (at 6 e) ∙ bit-back _) i;
        early = (ap flag_from (at 8 e) ∙ bit-back _) i;
      }

  app-same : app_at (image_of t) ≡ t.app
  unfolding app_at numbers_at numbers_in finger_rows one_rows taken_rows point_rows
  app-same =
      let e = finger-read in
      λ i.
      record {
        captured = (ap flag_from (at 9 e) ∙ bit-back _) i;
        raw = (ap flag_from (at 10 e) ∙ bit-back _) i;
        direct = (ap flag_from (at 7 e) ∙ bit-back _) i;
      }

  keys-same : keys_at (image_of t) ≡ t.keys
  unfolding numbers_at numbers_in key_rows
  keys-same =
      let e = keys-read in
      λ i. record { told = at 0 e i; wanted = at 1 e i }

  end_same : end_at (image_of t) ≡ t.multi_end
  unfolding numbers_at numbers_in end_rows
  end_same =
      let e = end_read in
      (λ i. end_from (at 0 e i) (at 1 e i)) ∙ end_back t.multi_end

  pub tracker-back : tracker_at (image_of t) ≡ t
  unfolding tracker_at
  tracker-back =
      let set = settings-same t.settings (image_of t) settings-read in
      λ i. record { touch = touch-same i; one = one_same i; app = app-same i; multi_end = end_same i; keys = keys-same i; settings = set i }

-- What is read from bytes is within its types.

module _ (area : List ℕ) (bytes : Bytes area) where
  point-typed : (at : ℕ) → TypedPoint (point_at area at)
  point-typed at = (number_fits area bytes at 2, number_fits area bytes (at + 2) 2)

  multi-typed : TypedMulti (multi_at area)
  unfolding multi_at
  multi-typed = (number_fits area bytes _ 1, point-typed _, number_fits area bytes _ 8, point-typed _, number_fits area bytes _ 8)

  pair_typed : TypedPair (pair_at area)
  unfolding pair_at
  pair_typed = (point-typed _, point-typed _, number_fits area bytes _ 2, point-typed _, number_fits area bytes _ 1)

  pairing-typed : (n : ℕ) → TypedPairing (pairing_from n (pair_at area))
  unfolding pairing_from
  pairing-typed n = if-all TypedPairing _ tt pair_typed

  touch-typed : TypedTouch (touch_at area)
  unfolding touch_at touch_from
  touch-typed = if-all TypedTouch _ tt (if-all TypedTouch _ (point-typed _, number_fits area bytes _ 8) (if-all TypedTouch _ (multi-typed, pairing-typed _) tt))

  one_typed : TypedOne (one_at area)
  unfolding one_at
  one_typed = (point-typed _, number_fits area bytes _ 2)

  end-typed : (n time : ℕ) → Time time → TypedEnd (end_from n time)
  unfolding end_from
  end-typed n time h = if-all TypedEnd _ tt h

  pub tracker-typed : Typed (tracker_at area)
  unfolding tracker_at
  tracker-typed =
      record {
        touching = touch-typed;
        finger = one_typed;
        ended = end-typed _ _ (number_fits area bytes _ 8);
        keying = (number_fits area bytes _ 1, number_fits area bytes _ 1);
        setting = settings-typed area bytes;
      }
