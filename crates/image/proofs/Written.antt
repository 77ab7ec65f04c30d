-- Each part of the tracker, written number by number, is its rows put. Assumes nothing.
use Rattle.std.specs.Prelude.{Option}
use Prim.Native.Nat.{ℕ}
use mathlib.Core.Path.{◌≡◌, ◌∙◌}
use mathlib.Core.Bool.{Bool}
use mathlib.Core.List.{List}
use lib.Seq.{sets}
use Rattle.panel.specs.declared.points.Point.{Point}
use Rattle.fingers.specs.declared.one.One.{One}
use Rattle.fingers.specs.declared.one.App.{App}
use Rattle.fingers.specs.declared.keys.Keys.{Keys}
use Rattle.fingers.specs.declared.several.Multi.{Multi}
use Rattle.fingers.specs.declared.pair.Pair.{Pair}
use Rattle.panel.specs.Axes.{axis_number}
use Rattle.panel.specs.Tests.{bit}
use Rattle.image.specs.Rows.{bytes_of}
use Rattle.image.specs.Image.{lock_number, end_number, end_time, point_rows, down_rows, multi_rows, pair_rows, finger_rows, one_rows, taken_rows, end_rows, key_rows}
use Rattle.image.specs.code.Puts.{puts}
use Rattle.image.specs.code.Touches.{at_start, at_since, at_multi_n, at_multi_c0, at_multi_t0, at_multi_c1, at_multi_t1, at_pair_a, at_pair_b, at_pair_axis, at_span0, at_pair_c0, at_pair_state}
use Rattle.image.specs.code.Finger.{at_last, at_moved, at_far, at_long_sent, at_axis, at_grabbed, at_direct, at_early, at_captured, at_raw}
use Rattle.image.specs.code.Ended.{at_ended, at_end_time}
use Rattle.image.specs.code.Keys.{at_told, at_wanted}

pub down-put : (start : Point) (since : ℕ) (a0 a1 a2 : List ℕ)
    → a1 ≡ puts a0 at_start (point_rows start)
    → a2 ≡ sets a1 at_since (bytes_of 8 since)
    → a2 ≡ puts a0 at_start (down_rows start since)
unfolding puts point_rows down_rows
down-put start since a0 a1 a2 h1 h2 =
    let e1 = h1 in
    h2 ∙ (λ i. sets (e1 i) at_since (bytes_of 8 since))

pub multi-put : (m : Multi) (a0 a1 a2 a3 a4 a5 : List ℕ)
    → a1 ≡ sets a0 at_multi_n (bytes_of 1 m.n)
    → a2 ≡ puts a1 at_multi_c0 (point_rows m.c0)
    → a3 ≡ sets a2 at_multi_t0 (bytes_of 8 m.t0)
    → a4 ≡ puts a3 at_multi_c1 (point_rows m.c1)
    → a5 ≡ sets a4 at_multi_t1 (bytes_of 8 m.t1)
    → a5 ≡ puts a0 at_multi_n (multi_rows m)
unfolding puts point_rows multi_rows
multi-put m a0 a1 a2 a3 a4 a5 h1 h2 h3 h4 h5 =
    let e1 = h1 in
    let e2 = h2 ∙ (λ i. puts (e1 i) at_multi_c0 (point_rows m.c0)) in
    let e3 = h3 ∙ (λ i. sets (e2 i) at_multi_t0 (bytes_of 8 m.t0)) in
    let e4 = h4 ∙ (λ i. puts (e3 i) at_multi_c1 (point_rows m.c1)) in
    h5 ∙ (λ i. sets (e4 i) at_multi_t1 (bytes_of 8 m.t1))

pub pair_put : (r : Pair) (a0 a1 a2 a3 a4 a5 a6 : List ℕ) (n3 : ℕ)
    → a1 ≡ puts a0 at_pair_a (point_rows r.a)
    → a2 ≡ puts a1 at_pair_b (point_rows r.b)
    → n3 ≡ axis_number r.axis
    → a3 ≡ sets a2 at_pair_axis (bytes_of 1 n3)
    → a4 ≡ sets a3 at_span0 (bytes_of 2 r.span0)
    → a5 ≡ puts a4 at_pair_c0 (point_rows r.c0)
    → a6 ≡ sets a5 at_pair_state (bytes_of 1 r.state)
    → a6 ≡ puts a0 at_pair_a (pair_rows r)
unfolding puts point_rows pair_rows
pair_put r a0 a1 a2 a3 a4 a5 a6 n3 h1 h2 c3 h3 h4 h5 h6 =
    let e1 = h1 in
    let e2 = h2 ∙ (λ i. puts (e1 i) at_pair_b (point_rows r.b)) in
    let e3 = h3 ∙ (λ i. sets (e2 i) at_pair_axis (bytes_of 1 (c3 i))) in
    let e4 = h4 ∙ (λ i. sets (e3 i) at_span0 (bytes_of 2 r.span0)) in
    let e5 = h5 ∙ (λ i. puts (e4 i) at_pair_c0 (point_rows r.c0)) in
    h6 ∙ (λ i. sets (e5 i) at_pair_state (bytes_of 1 r.state))

pub one-put : (one : One) (a0 a1 a2 a3 a4 a5 a6 : List ℕ) (n5 : ℕ)
    → a1 ≡ puts a0 at_last (point_rows one.last)
    → a2 ≡ sets a1 at_moved (bytes_of 1 (bit one.moved))
    → a3 ≡ sets a2 at_far (bytes_of 2 one.far)
    → a4 ≡ sets a3 at_long_sent (bytes_of 1 (bit one.long_sent))
    → n5 ≡ lock_number one.axis
    → a5 ≡ sets a4 at_axis (bytes_of 1 n5)
    → a6 ≡ sets a5 at_grabbed (bytes_of 1 (bit one.grabbed))
    → a6 ≡ puts a0 at_last (one_rows one)
unfolding puts point_rows one_rows
one-put one a0 a1 a2 a3 a4 a5 a6 n5 h1 h2 h3 h4 c5 h5 h6 =
    let e2 = h2 ∙ (λ i. sets (h1 i) at_moved (bytes_of 1 (bit one.moved))) in
    let e3 = h3 ∙ (λ i. sets (e2 i) at_far (bytes_of 2 one.far)) in
    let e4 = h4 ∙ (λ i. sets (e3 i) at_long_sent (bytes_of 1 (bit one.long_sent))) in
    let e5 = h5 ∙ (λ i. sets (e4 i) at_axis (bytes_of 1 (c5 i))) in
    h6 ∙ (λ i. sets (e5 i) at_grabbed (bytes_of 1 (bit one.grabbed)))

pub taken-put : (early : Bool) (app : App) (a0 a1 a2 a3 a4 : List ℕ)
    → a1 ≡ sets a0 at_direct (bytes_of 1 (bit app.direct))
    → a2 ≡ sets a1 at_early (bytes_of 1 (bit early))
    → a3 ≡ sets a2 at_captured (bytes_of 1 (bit app.captured))
    → a4 ≡ sets a3 at_raw (bytes_of 1 (bit app.raw))
    → a4 ≡ puts a0 at_direct (taken_rows early app)
unfolding puts taken_rows
taken-put early app a0 a1 a2 a3 a4 h1 h2 h3 h4 =
    let e2 = h2 ∙ (λ i. sets (h1 i) at_early (bytes_of 1 (bit early))) in
    let e3 = h3 ∙ (λ i. sets (e2 i) at_captured (bytes_of 1 (bit app.captured))) in
    h4 ∙ (λ i. sets (e3 i) at_raw (bytes_of 1 (bit app.raw)))

pub finger-put : (one : One) (app : App) (a0 a1 a2 : List ℕ) → a1 ≡ puts a0 at_last (one_rows one) → a2 ≡ puts a1 at_direct (taken_rows one.early app) → a2 ≡ puts a0 at_last (finger_rows one app)
unfolding puts point_rows one_rows taken_rows finger_rows
finger-put one app a0 a1 a2 h1 h2 = h2 ∙ (λ i. puts (h1 i) at_direct (taken_rows one.early app))

pub end-put : (end : Option ℕ) (a0 a1 a2 : List ℕ) (n1 n2 : ℕ)
    → n1 ≡ end_number end
    → a1 ≡ sets a0 at_ended (bytes_of 1 n1)
    → n2 ≡ end_time end
    → a2 ≡ sets a1 at_end_time (bytes_of 8 n2)
    → a2 ≡ puts a0 at_ended (end_rows end)
unfolding puts end_rows
end-put end a0 a1 a2 n1 n2 c1 h1 c2 h2 =
    let e1 = h1 ∙ (λ i. sets a0 at_ended (bytes_of 1 (c1 i))) in
    h2 ∙ (λ i. sets (e1 i) at_end_time (bytes_of 8 (c2 i)))

pub keys-put : (keys : Keys) (a0 a1 a2 : List ℕ)
    → a1 ≡ sets a0 at_told (bytes_of 1 keys.told)
    → a2 ≡ sets a1 at_wanted (bytes_of 1 keys.wanted)
    → a2 ≡ puts a0 at_told (key_rows keys)
unfolding puts key_rows
keys-put keys a0 a1 a2 h1 h2 = h2 ∙ (λ i. sets (h1 i) at_wanted (bytes_of 1 keys.wanted))
