-- The laws of a table of rows, whatever its rows are: written row by row it is the table laid out, and where each number
-- fits its width, reading at the rows' places gives the numbers back. Assumes nothing.
use Prim.Native.Nat.{ℕ, zero, suc, ◌+◌, ◌*◌, ◌%◌, ◌/◌, ◌^◌, ◌≤◌, ◌<◌}
use mathlib.Core.Path.{◌≡◌, refl, sym, ◌∙◌, ap}
use mathlib.Core.List.{List, [], ◌∷◌, ◌++◌, append_assoc, append-nil}
use native.Mathlib.Nat.{add-zero, pow-suc, div-add-mod, div-lt_iff_lt-mul}
use native.Mathlib.Omega.{arith}
use lib.Dec.{lit<}
use lib.ListN.{length, get_or, take, drop, length-append}
use lib.Seq.{length-take-le, sets, length-sets, sets-eq, take_at, take-length, get_or_at, drop-cons, drop-length}
use Rattle.image.specs.Rows.{Row, row, bytes_of, laid, total, Fits}
use Rattle.image.specs.code.Numbers.{number_at}
use Rattle.image.specs.code.Puts.{puts}

pub length-bytes : (width n : ℕ) → length (bytes_of width n) ≡ width
unfolding bytes_of
length-bytes zero n = refl
length-bytes (suc width) n = ap suc (length-bytes width (n / 256))

pub length-laid : (rows : List Row) → length (laid rows) ≡ total rows
unfolding laid total
length-laid [] = refl
length-laid (r ∷ rows) = length-append (bytes_of r.width r.number) (laid rows) ∙ (λ i. length-bytes r.width r.number i + length-laid rows i)

-- Writing.

take-sets : (area vs : List ℕ) (at w : ℕ) → length vs ≡ w → at + w ≤ length area → take (at + w) (sets area at vs) ≡ take at area ++ vs
take-sets area vs at w e h =
    let h' : at + length vs ≤ length area = omega (arith, e, h) in
    let t : length (take at area) ≡ at = length-take-le at area (omega (arith, h)) in
    let n : length (take at area ++ vs) ≡ at + w = length-append (take at area) vs ∙ (λ i. t i + e i) in
    ap (take (at + w)) (sets-eq vs area at h') ∙ take_at (take at area ++ vs) (drop (at + length vs) area) (at + w) n

pub put-laid : (rows : List Row) (area : List ℕ) (at : ℕ) → at + total rows ≡ length area → puts area at rows ≡ take at area ++ laid rows
unfolding puts laid total
put-laid [] area at fits = sym (append-nil (take at area) ∙ ap (λ (m : ℕ). take m area) (sym (add-zero at) ∙ fits) ∙ take-length area)
put-laid (r ∷ rows) area at fits =
    let vs = bytes_of r.width r.number in
    let room : at + r.width ≤ length area = omega (arith, fits) in
    let fits' : at + r.width + total rows ≡ length (sets area at vs) = let z : at + r.width + total rows ≡ length area = omega (arith, fits) in z ∙ sym (length-sets area at vs) in
    put-laid rows (sets area at vs) (at + r.width) fits'
    ∙ ap (λ (l : List ℕ). l ++ laid rows) (take-sets area vs at r.width (length-bytes r.width r.number) room)
    ∙ append_assoc (take at area) vs (laid rows)

-- Reading.

number-back : (w n : ℕ) (pre rest : List ℕ) (at : ℕ) → length pre ≡ at → n < 256 ^ w → number_at (pre ++ (bytes_of w n ++ rest)) at w ≡ n
unfolding number_at bytes_of
number-back zero n pre rest at e h = omega (arith, h)
number-back (suc w) n pre rest at e h =
    let h' : n < 256 ^ w * 256 = rw pow-suc at h in
    let hd : n / 256 < 256 ^ w = (div-lt_iff_lt-mul (lit< tt)).1 h' in
    let l : length (pre ++ (n % 256 ∷ [])) ≡ suc at = length-append pre (n % 256 ∷ []) ∙ omega (arith, e) in
    let ih = number-back w (n / 256) (pre ++ (n % 256 ∷ [])) rest (suc at) l hd in
    let b : pre ++ (n % 256 ∷ (bytes_of w (n / 256) ++ rest)) ≡ (pre ++ (n % 256 ∷ [])) ++ (bytes_of w (n / 256) ++ rest) = sym (append_assoc pre (n % 256 ∷ []) (bytes_of w (n / 256) ++ rest)) in
    ap (λ (x : ℕ). x + 256 * number_at (pre ++ (n % 256 ∷ (bytes_of w (n / 256) ++ rest))) (suc at) w) (get_or_at pre (n % 256) (bytes_of w (n / 256) ++ rest) 0 at e)
    ∙ ap (λ (l : List ℕ). n % 256 + 256 * number_at l (suc at) w) b
    ∙ ap (λ (x : ℕ). n % 256 + 256 * x) ih
    ∙ omega (arith, div-add-mod n 256)

-- the numbers at a table's places
unfoldable pub numbers_at : List Row → List ℕ → ℕ → List ℕ
numbers_at [] area at = []
numbers_at (r ∷ rows) area at = number_at area at r.width ∷ numbers_at rows area (at + r.width)

unfoldable pub numbers_in : List Row → List ℕ
numbers_in [] = []
numbers_in (r ∷ rows) = r.number ∷ numbers_in rows

pub fits-join : (xs ys : List Row) → Fits xs → Fits ys → Fits (xs ++ ys)
fits-join [] ys f g = g
fits-join (r ∷ xs) ys f g = (f.0, fits-join xs ys f.1 g)

read_back : (rows : List Row) (pre rest : List ℕ) (at : ℕ) → length pre ≡ at → Fits rows → numbers_at rows (pre ++ (laid rows ++ rest)) at ≡ numbers_in rows
unfolding numbers_at numbers_in laid
read_back [] pre rest at e f = refl
read_back (r ∷ rows) pre rest at e f =
    let vs = bytes_of r.width r.number in
    let c : pre ++ ((vs ++ laid rows) ++ rest) ≡ pre ++ (vs ++ (laid rows ++ rest)) = ap (λ (l : List ℕ). pre ++ l) (append_assoc vs (laid rows) rest) in
    let b : pre ++ (vs ++ (laid rows ++ rest)) ≡ (pre ++ vs) ++ (laid rows ++ rest) = sym (append_assoc pre vs (laid rows ++ rest)) in
    let ih = read_back rows (pre ++ vs) rest (at + r.width) (length-append pre vs ∙ (λ i. e i + length-bytes r.width r.number i)) f.1 in
    let here = ap (λ (l : List ℕ). number_at l at r.width) c ∙ number-back r.width r.number pre (laid rows ++ rest) at e f.0 in
    let later = ap (λ (l : List ℕ). numbers_at rows l (at + r.width)) (c ∙ b) ∙ ih in
    λ i. here i ∷ later i

laid-join : (xs ys : List Row) → laid (xs ++ ys) ≡ laid xs ++ laid ys
unfolding laid
laid-join [] ys = refl
laid-join (r ∷ xs) ys = ap (λ (l : List ℕ). bytes_of r.width r.number ++ l) (laid-join xs ys) ∙ sym (append_assoc (bytes_of r.width r.number) (laid xs) (laid ys))

-- the numbers of a part of a table, read where the part stands
pub part-back : (before rows after : List Row) → Fits rows → numbers_at rows (laid (before ++ (rows ++ after))) (total before) ≡ numbers_in rows
part-back before rows after f =
    ap (λ (l : List ℕ). numbers_at rows l (total before)) (laid-join before (rows ++ after) ∙ ap (λ (l : List ℕ). laid before ++ l) (laid-join rows after))
    ∙ read_back rows (laid before) (laid after) (total before) (length-laid before) f

-- a number read from bytes fits its width
pub number_fits : (area : List ℕ) → ((k : ℕ) → get_or area k 0 < 256) → (at w : ℕ) → number_at area at w < 256 ^ w
unfolding number_at
number_fits area byte at zero = lit< tt
number_fits area byte at (suc w) =
    let here = byte at in
    let later = number_fits area byte (suc at) w in
    rw pow-suc (omega (arith, here, later))

-- A number's bytes are those that it was read from.

low_byte : (b n : ℕ) → b < 256 → (b + 256 * n) % 256 ≡ b
low_byte b n h = omega (arith, h)

next-bytes : (b n : ℕ) → b < 256 → (b + 256 * n) / 256 ≡ n
next-bytes b n h = omega (arith, h)

unfoldable pub widths_of : List Row → List ℕ
widths_of [] = []
widths_of (r ∷ rows) = r.width ∷ widths_of rows

-- an area as a table of given widths
abbrev pub read : List ℕ → List ℕ → ℕ → List Row
read area [] at = []
read area (w ∷ ws) at = row w (number_at area at w) ∷ read area ws (at + w)

module _ (area : List ℕ) (bytes : (k : ℕ) → get_or area k 0 < 256) where
  bytes_back : (w at : ℕ) (rest : List ℕ) → at + w ≤ length area → rest ≡ drop (at + w) area → bytes_of w (number_at area at w) ++ rest ≡ drop at area
  unfolding bytes_of number_at
  bytes_back zero at rest h e =
      let place : at + 0 ≡ at = omega arith in
      e ∙ ap (λ (k : ℕ). drop k area) place
  bytes_back (suc w) at rest h e =
      let n = number_at area (suc at) w in
      let b = get_or area at 0 in
      let more : at < length area = omega (arith, h) in
      let place : at + suc w ≡ suc at + w = omega arith in
      let ih = bytes_back w (suc at) rest (omega (arith, h)) (e ∙ ap (λ (k : ℕ). drop k area) place) in
      (λ i. low_byte b n (bytes at) i ∷ (bytes_of w (next-bytes b n (bytes at) i) ++ rest)) ∙ ap (λ (l : List ℕ). b ∷ l) ih ∙ sym (drop-cons area at 0 more)

  pub read-laid : (ws : List ℕ) (at : ℕ) → at + total (read area ws at) ≡ length area → laid (read area ws at) ≡ drop at area
  unfolding laid total
  read-laid [] at e =
      let place : at ≡ length area = omega (arith, e) in
      sym (ap (λ (k : ℕ). drop k area) place ∙ drop-length area)
  read-laid (w ∷ ws) at e = bytes_back w at (laid (read area ws (at + w))) (omega (arith, e)) (read-laid ws (at + w) (omega (arith, e)))
