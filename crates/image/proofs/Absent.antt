-- Parts that may be absent: an image that is zero there is as if their rows had been written. Assumes nothing.
use Rattle.std.specs.Prelude.{Option, Some, None}
use Prim.Native.Nat.{ℕ}
use mathlib.Core.Path.{◌≡◌, refl, sym, ◌∙◌, ap}
use mathlib.Core.List.{List}
use lib.ListN.{replicate}
use lib.Seq.{sets}
use Rattle.panel.specs.declared.points.Point.{Point}
use Rattle.fingers.specs.declared.several.Multi.{Multi}
use Rattle.fingers.specs.declared.pair.Pair.{Pair}
use Rattle.gesture.specs.declared.record.Touch.{Touch}
use Rattle.gesture.specs.declared.record.Touch.TheVariants as touch
use Rattle.panel.specs.Axes.{axis_number}
use Rattle.image.specs.Rows.{bytes_of}
use Rattle.image.specs.Image.{touch_number, start_of, since_of, multi_of, pairing_of, pair_number, pair_of, point_rows, down_rows, multi_rows, pair_rows, pairing_rows, touch_rows}
use Rattle.image.specs.code.Puts.{puts}
use Rattle.image.specs.code.Touches.{at_touch, at_start, at_multi_n, at_pairs, at_pair_a}
use Rattle.image.specs.code.Settings.{at_end}

abbrev pub blank : List ℕ
blank = replicate at_end 0

-- an image of which only the touch's number is written
abbrev pub marked : ℕ → List ℕ
marked n = sets blank at_touch (bytes_of 1 n)

idle : puts blank at_touch (touch_rows touch.Idle) ≡ blank
unfolding puts bytes_of touch_number start_of since_of multi_of pairing_of pair_number pair_of point_rows down_rows multi_rows pair_rows pairing_rows touch_rows axis_number
idle = refl

down : (start : Point) (since : ℕ) → puts blank at_touch (touch_rows (touch.Down start since)) ≡ puts (marked 1) at_start (down_rows start since)
unfolding puts bytes_of touch_number start_of since_of multi_of pairing_of pair_number pair_of point_rows down_rows multi_rows pair_rows pairing_rows touch_rows axis_number
down start since = refl

multi : (m : Multi) (pair : Option Pair) → puts blank at_touch (touch_rows (touch.Multi m pair)) ≡ puts (puts (marked 2) at_multi_n (multi_rows m)) at_pairs (pairing_rows pair)
unfolding puts bytes_of touch_number start_of since_of multi_of pairing_of point_rows down_rows multi_rows pair_rows pairing_rows touch_rows
multi m pair = refl

residual : puts blank at_touch (touch_rows touch.Residual) ≡ marked 3
unfolding puts bytes_of touch_number start_of since_of multi_of pairing_of pair_number pair_of point_rows down_rows multi_rows pair_rows pairing_rows touch_rows axis_number
residual = refl

unpaired : (m : Multi) → puts (puts (marked 2) at_multi_n (multi_rows m)) at_pairs (pairing_rows None) ≡ puts (marked 2) at_multi_n (multi_rows m)
unfolding puts bytes_of pair_number pair_of point_rows multi_rows pair_rows pairing_rows axis_number
unpaired m = refl

-- What the code writes by cases is the rows of the case.

module _ (pair : Option Pair) where
  pub unpaired-put : (area : List ℕ) → puts area at_pairs (pairing_rows None) ≡ area → pair ≡ None → area ≡ puts area at_pairs (pairing_rows pair)
  unpaired-put area zero e = sym (ap (λ (x : Option Pair). puts area at_pairs (pairing_rows x)) e ∙ zero)

  pub paired-put : (r : Pair) (a0 a1 a2 : List ℕ) → pair ≡ Some r → a1 ≡ sets a0 at_pairs (bytes_of 1 1) → a2 ≡ puts a1 at_pair_a (pair_rows r) → a2 ≡ puts a0 at_pairs (pairing_rows pair)
  unfolding puts pairing_rows pair_number pair_of
  paired-put r a0 a1 a2 e h1 h2 = h2 ∙ ap (λ (l : List ℕ). puts l at_pair_a (pair_rows r)) h1 ∙ ap (λ (x : Option Pair). puts a0 at_pairs (pairing_rows x)) (sym e)

module _ (x : Touch) (a0 : List ℕ) (zero : a0 ≡ blank) where
  with_rows : (y : Touch) → x ≡ y → puts blank at_touch (touch_rows y) ≡ puts a0 at_touch (touch_rows x)
  with_rows y e = λ i. puts (sym zero i) at_touch (touch_rows (sym e i))

  mark : (n : ℕ) (a1 : List ℕ) → a1 ≡ sets a0 at_touch (bytes_of 1 n) → a1 ≡ marked n
  mark n a1 h = h ∙ ap (λ (l : List ℕ). sets l at_touch (bytes_of 1 n)) zero

  pub idle-put : x ≡ touch.Idle → a0 ≡ puts a0 at_touch (touch_rows x)
  idle-put e = zero ∙ sym idle ∙ with_rows touch.Idle e

  pub down-put : (start : Point) (since : ℕ) (a1 a2 : List ℕ) → x ≡ touch.Down start since → a1 ≡ sets a0 at_touch (bytes_of 1 1) → a2 ≡ puts a1 at_start (down_rows start since) → a2 ≡ puts a0 at_touch (touch_rows x)
  down-put start since a1 a2 e h1 h2 = h2 ∙ ap (λ (l : List ℕ). puts l at_start (down_rows start since)) (mark 1 a1 h1) ∙ sym (down start since) ∙ with_rows (touch.Down start since) e

  module _ (m : Multi) (a1 a2 : List ℕ) (h1 : a1 ≡ sets a0 at_touch (bytes_of 1 2)) (h2 : a2 ≡ puts a1 at_multi_n (multi_rows m)) where
    several : a2 ≡ puts (marked 2) at_multi_n (multi_rows m)
    several = h2 ∙ ap (λ (l : List ℕ). puts l at_multi_n (multi_rows m)) (mark 2 a1 h1)

    pub no-pair-yet : puts a2 at_pairs (pairing_rows None) ≡ a2
    no-pair-yet = ap (λ (l : List ℕ). puts l at_pairs (pairing_rows None)) several ∙ unpaired m ∙ sym several

    pub multi-put : (pair : Option Pair) (a3 : List ℕ) → x ≡ touch.Multi m pair → a3 ≡ puts a2 at_pairs (pairing_rows pair) → a3 ≡ puts a0 at_touch (touch_rows x)
    multi-put pair a3 e h3 = h3 ∙ ap (λ (l : List ℕ). puts l at_pairs (pairing_rows pair)) several ∙ sym (multi m pair) ∙ with_rows (touch.Multi m pair) e

  pub residual-put : (a1 : List ℕ) → x ≡ touch.Residual → a1 ≡ sets a0 at_touch (bytes_of 1 3) → a1 ≡ puts a0 at_touch (touch_rows x)
  residual-put a1 e h1 = mark 3 a1 h1 ∙ sym residual ∙ with_rows touch.Residual e
