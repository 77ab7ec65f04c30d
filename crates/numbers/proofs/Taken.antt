-- What the reader takes as a number is what the writer writes for it: the shortest form is the only one.
-- Assumes nothing.
use Rattle.std.specs.Prelude.{Result, Ok, Err}
use Prim.Native.Nat.{ℕ, zero, suc, ◌+◌, ◌-◌, ◌*◌, ◌/◌, ◌%◌, ◌≤◌, ◌<◌, min}
use mathlib.Core.Path.{◌≡◌, refl, sym, ap, subst, ◌∙◌}
use mathlib.Core.Bool.{Bool, true, false}
use mathlib.Core.List.{List, [], ◌∷◌, ◌++◌, append_assoc}
use native.Mathlib.Omega.{arith}
use native.Mathlib.Nat.{mod-eq_of_lt, div-eq_of_lt, add-mul-mod_self_left, add-mul-div_left}
use lib.Dec.{ltb, lit<}
use lib.ListN.{length, drop, length-append, length-drop}
use lib.Seq.{drop-drop}
use Rattle.panel.proofs.Follow.{if-true, if-false}
use Rattle.panel.specs.Tests.{◌and◌}
use Rattle.panel.specs.declared.refusals.Refusal.{Refusal}
use Rattle.panel.specs.declared.refusals.Refusal.TheVariants.{Cut, Form, Big}
use Rattle.numbers.specs.Numbers.{Groups, whole, endless, early, after, groups_by, bytes_of, groups_in, value_of, needless, judged, read, stopped, number_at, number_from}
use Rattle.numbers.specs.Sizes.{group, most_groups}
use Rattle.numbers.specs.declared.reading.Stop.{Stop}
use Rattle.numbers.proofs.Back.{last-in, more-in}
use Rattle.numbers.proofs.Bytes.{by-lt, groups-one, groups-step}
use Rattle.numbers.proofs.Grouping.{longer, not-zero, value-more, value-one}

-- bytes, as a slice holds them
abbrev pub Octets : List ℕ → Type 0
Octets [] = Unit {0}
Octets (b ∷ bs) = (b < 256) × Octets bs

pub octets-drop : (n : ℕ) (s : List ℕ) → Octets s → Octets (drop n s)
octets-drop zero s oc = oc
octets-drop (suc n) [] oc = tt
octets-drop (suc n) (b ∷ s) oc = octets-drop n s oc.1

-- groups with their high bits on again
raw : List ℕ → List ℕ
raw [] = []
raw (g ∷ []) = g ∷ []
raw (g ∷ h ∷ gs) = (group + g) ∷ raw (h ∷ gs)

abbrev Digits : List ℕ → Type 0
Digits [] = Unit {0}
Digits (g ∷ gs) = (g < group) × Digits gs

raw-length : (g : ℕ) (gs : List ℕ) → length (raw (g ∷ gs)) ≡ length (g ∷ gs)
unfolding raw
raw-length g [] = refl
raw-length g (h ∷ gs) = ap suc (raw-length h gs)

-- the groups that were read stand at the front of the bytes
record Front (k : ℕ) (bytes : List ℕ) (g : ℕ) (gs : List ℕ) : Type 0 where
  bytes-are : bytes ≡ raw (g ∷ gs) ++ drop (length (g ∷ gs)) bytes
  digits : Digits (g ∷ gs)
  many : length (g ∷ gs) ≤ k

after-whole : (g : ℕ) (r : Groups) (l : List ℕ) → after g r ≡ whole l → (gs : List ℕ) × (r ≡ whole gs) × (l ≡ g ∷ gs)
after-whole g (whole gs) l e = (gs, refl, cc)
after-whole g endless l e = let z : ◌≡◌ {A = ℕ} 0 1 = cc in absurd (omega arith)
after-whole g early l e = let z : ◌≡◌ {A = ℕ} 0 1 = cc in absurd (omega arith)

-- what the groups at the front of the bytes come to is no empty list
none-whole : (k : ℕ) (bytes : List ℕ) → groups_in k bytes ≡ whole [] → ⊥
unfolding groups_in
none-whole zero bytes e = let z : ◌≡◌ {A = ℕ} 0 1 = cc in omega arith
none-whole (suc k) [] e = let z : ◌≡◌ {A = ℕ} 0 1 = cc in omega arith
none-whole (suc k) (b ∷ bytes) e =
    by-lt b group
    (λ h. let l = last-in k b bytes h in let z : ◌≡◌ {A = ℕ} 0 1 = cc in omega arith)
    (λ h. let a = after-whole (b - group) (groups_in k bytes) [] (sym (more-in k b bytes h) ∙ e) in let m = a.2 in let z : ◌≡◌ {A = ℕ} 0 1 = cc in omega arith)

one-front : (k b : ℕ) (bytes : List ℕ) → b < group → Front (suc k) (b ∷ bytes) b []
unfolding raw
one-front k b bytes h = record { bytes-are = refl; digits = (h, tt); many = omega arith }

more-front : (k b : ℕ) (bytes : List ℕ) (h : ℕ) (hs : List ℕ) → b < 256 → group ≤ b → Front k bytes h hs → Front (suc k) (b ∷ bytes) (b - group) (h ∷ hs)
unfolding raw
more-front k b bytes h hs o l f =
    let e : b ≡ group + (b - group) = omega arith in
    record {
      bytes-are = ap (λ (x : ℕ). x ∷ bytes) e ∙ ap (λ (x : List ℕ). (group + (b - group)) ∷ x) f.bytes-are;
      digits = (omega arith, f.digits);
      many = omega (arith, f.many);
    }

same-front : (k : ℕ) (bytes : List ℕ) (g g' : ℕ) (gs gs' : List ℕ) → g ∷ gs ≡ g' ∷ gs' → Front k bytes g gs → Front k bytes g' gs'
same-front k bytes g g' gs gs' e f =
    let x : g ≡ g' = cc in
    let y : gs ≡ gs' = cc in
    subst (λ (n : ℕ). Front k bytes n gs') x (subst (λ (l : List ℕ). Front k bytes g l) y f)

front : (k : ℕ) (bytes : List ℕ) (g : ℕ) (gs : List ℕ) → Octets bytes → groups_in k bytes ≡ whole (g ∷ gs) → Front k bytes g gs
unfolding groups_in
front zero bytes g gs oc e = let z : ◌≡◌ {A = ℕ} 0 1 = cc in absurd (omega arith)
front (suc k) [] g gs oc e = let z : ◌≡◌ {A = ℕ} 0 1 = cc in absurd (omega arith)
front (suc k) (b ∷ bytes) g gs oc e =
    by-lt b group
    (λ h. let l = last-in k b bytes h in let m : b ∷ [] ≡ g ∷ gs = cc in same-front (suc k) (b ∷ bytes) b g [] gs m (one-front k b bytes h))
    (λ h.
    let a = after-whole (b - group) (groups_in k bytes) (g ∷ gs) (sym (more-in k b bytes h) ∙ e) in
    go h (λ x hs r. front k bytes x hs oc.1 r) a.0 a.1 a.2)
  where
    go : group ≤ b → ((x : ℕ) (hs : List ℕ) → groups_in k bytes ≡ whole (x ∷ hs) → Front k bytes x hs) → (hs : List ℕ) → groups_in k bytes ≡ whole hs → g ∷ gs ≡ (b - group) ∷ hs → Front (suc k) (b ∷ bytes) g gs
    go h ih [] r m = absurd (none-whole k bytes r)
    go h ih (x ∷ hs) r m = same-front (suc k) (b ∷ bytes) (b - group) g (x ∷ hs) gs (sym m) (more-front k b bytes x hs oc.0 h (ih x hs r))

and-off : (a b : Bool) → b ≡ false → ◌and◌ a b ≡ false
unfolding ◌and◌
and-off true b e = e
and-off false b e = refl

-- such groups are those that the writer makes of their value
ends-needless : (g h : ℕ) (gs : List ℕ) → needless (g ∷ h ∷ gs) ≡ false → needless (h ∷ gs) ≡ false
unfolding needless
ends-needless g h gs e = and-off _ _ (sym (longer g h gs) ∙ e)

raw-is : (k g : ℕ) (gs : List ℕ) → Digits (g ∷ gs) → needless (g ∷ gs) ≡ false → length (g ∷ gs) ≤ k → raw (g ∷ gs) ≡ groups_by k (value_of (g ∷ gs))
unfolding raw
raw-is zero g gs d e m = absurd (omega arith)
raw-is (suc k) g [] d e m = sym (groups-one k g d.0) ∙ ap (groups_by (suc k)) (value-one g)
raw-is (suc k) g (h ∷ gs) d e m =
    let rest = value_of (h ∷ gs) in
    let some : 0 < rest = not-zero (h ∷ gs) (sym (longer g h gs) ∙ e) in
    let value : value_of (g ∷ h ∷ gs) ≡ g + group * rest = value-more g (h ∷ gs) in
    let low : (g + group * rest) % group ≡ g = add-mul-mod_self_left g group rest ∙ mod-eq_of_lt d.0 in
    let high : (g + group * rest) / group ≡ rest = add-mul-div_left g rest (lit< tt) ∙ ap (λ (n : ℕ). n + rest) (div-eq_of_lt d.0) ∙ omega arith in
    sym (
    ap (groups_by (suc k)) value
    ∙ groups-step k (g + group * rest) (omega arith)
    ∙ ap (λ (n : ℕ). (group + n) ∷ groups_by k ((g + group * rest) / group)) low
    ∙ ap (λ (n : ℕ). (group + g) ∷ groups_by k n) high
    ∙ ap (λ (l : List ℕ). (group + g) ∷ l) (sym (raw-is k h gs d.1 (ends-needless g h gs e) (omega arith))))

-- What is read as a number.
not-read : (why : Refusal) (at v next : ℕ) → stopped why at ≡ read v next → ⊥
not-read why at v next e = let z : ◌≡◌ {A = ℕ} 0 1 = cc in omega arith

pub same-read : (v next w to : ℕ) → read v next ≡ read w to → (v ≡ w) × (next ≡ to)
same-read v next w to e =
    let p : (v, next) ≡ (w, to) = cc in
    (ap (λ (r : ℕ × ℕ). r.0) p, ap (λ (r : ℕ × ℕ). r.1) p)

judged-took : (at most : ℕ) (gs : Groups) (v next : ℕ) → judged at most gs ≡ read v next →
    (l : List ℕ) × (gs ≡ whole l) × (needless l ≡ false) × (v ≡ value_of l) × (next ≡ at + length l)
judged-took at most endless v next e = absurd (not-read Big at v next e)
judged-took at most early v next e = absurd (not-read Cut at v next e)
judged-took at most (whole l) v next e = by_form (needless l) refl
  where
    by_size : (t : Bool) → ltb most (value_of l) ≡ t → needless l ≡ false → (m : List ℕ) × (whole l ≡ whole m) × (needless m ≡ false) × (v ≡ value_of m) × (next ≡ at + length m)
    by_size true q n = absurd (not-read Big at v next (sym (if-false _ _ _ n ∙ if-true _ _ _ q) ∙ e))
    by_size false q n =
        let f : read (value_of l) (at + length l) ≡ read v next = sym (if-false _ _ _ n ∙ if-false _ _ _ q) ∙ e in
        let p = same-read v next (value_of l) (at + length l) (sym f) in
        (l, refl, n, p.0, p.1)

    by_form : (t : Bool) → needless l ≡ t → (m : List ℕ) × (whole l ≡ whole m) × (needless m ≡ false) × (v ≡ value_of m) × (next ≡ at + length m)
    by_form true n = absurd (not-read Form at v next (sym (if-true _ _ _ n) ∙ e))
    by_form false n = by_size (ltb most (value_of l)) refl n

-- Some bytes stand in s from one place to another.
pub record Spans (s : List ℕ) (at to : ℕ) (bytes : List ℕ) : Type 0 where
  pub within : at ≤ length s
  pub front : drop at s ≡ bytes ++ drop to s
  pub ends : to ≡ at + length bytes

pub spans-none : (s : List ℕ) (at : ℕ) → at ≤ length s → Spans s at at []
spans-none s at h = record { within = h; front = refl; ends = omega arith }

pub spans-join : (s : List ℕ) (a b c : ℕ) (xs ys : List ℕ) → Spans s a b xs → Spans s b c ys → Spans s a c (xs ++ ys)
spans-join s a b c xs ys p q =
    record {
      within = p.within;
      front = p.front ∙ ap (λ (l : List ℕ). xs ++ l) q.front ∙ sym (append_assoc xs ys (drop c s));
      ends = omega (arith, p.ends, q.ends, length-append xs ys);
    }

-- a number that was read at a place within s is there as the writer writes it
pub number-took : (s : List ℕ) (at most v next : ℕ) → Octets s → number_at s at most ≡ read v next → Spans s at next (bytes_of v)
unfolding number_at bytes_of
number-took s at most v next oc e =
    let j = judged-took (min at (length s)) most (groups_in most_groups (drop at s)) v next e in
    go j.0 j.1 j.2 j.3 j.4
  where
    go : (l : List ℕ) → groups_in most_groups (drop at s) ≡ whole l → needless l ≡ false → v ≡ value_of l → next ≡ min at (length s) + length l → Spans s at next (groups_by most_groups v)
    go [] r n ev en = absurd (none-whole most_groups (drop at s) r)
    go (g ∷ gs) r n ev en =
        let f = front most_groups (drop at s) g gs (octets-drop at s oc) r in
        let w = raw-is most_groups g gs f.digits n f.many ∙ ap (groups_by most_groups) (sym ev) in
        let many = length (g ∷ gs) in
        let inside : at < length s =
        omega (arith, ap length f.bytes-are, length-append (raw (g ∷ gs)) (drop many (drop at s)), raw-length g gs, length-drop at s) in
        let to : next ≡ at + many = omega arith in
        record {
          within = omega arith;
          front =
              f.bytes-are
              ∙ ap (λ (l : List ℕ). l ++ drop many (drop at s)) w
              ∙ ap (λ (l : List ℕ). groups_by most_groups v ++ l) (drop-drop many at s ∙ ap (λ (k : ℕ). drop k s) (sym to));
          ends = omega (arith, raw-length g gs, ap length w);
        }

-- and one that was read where an earlier reading had come to: that one had not stopped
pub number-took-from : (s : List ℕ) (from : Result ℕ Stop) (most v next : ℕ) → Octets s → number_from s from most ≡ read v next →
    (at : ℕ) × (from ≡ Ok at) × Spans s at next (bytes_of v)
number-took-from s (Ok at) most v next oc e = (at, refl, number-took s at most v next oc e)
number-took-from s (Err stop) most v next oc e = absurd (not-read stop.why stop.at v next e)
