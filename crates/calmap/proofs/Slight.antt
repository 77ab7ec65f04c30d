-- Few pixels through a slight calibration: no product and no partial sum leaves i32. And a line that fits, taken apart.
-- Assumes nothing.
use Prim.Native.Nat.{suc, ◌*◌, ◌≤◌, ◌<◌}
use mathlib.Core.Path.{◌≡◌, ◌∙◌}
use mathlib.Core.Bool.{true}
use native.Mathlib.Nat.{le_refl, le_trans, mul-le-mul}
use native.Mathlib.Omega.{arith}
use lib.IntN.{ℤ, pos, ◌+ℤ◌, ◌*ℤ◌}
use lib.Signed.{mag}
use borrow.Author.Tests.{ltb-true, lt-ltb}
use Rattle.panel.proofs.Follow.{and-true}
use Rattle.panel.proofs.Laws.{and_left, and_right}
use Rattle.calmap.specs.Maps.{line, line_fits}
use Rattle.calmap.specs.Sizes.{end16, one}
use Rattle.calmap.specs.Units.{whole_steps, ◌·◌, ◌⊞◌, steps_fit}
use Rattle.calmap.specs.Wide.{in16}
use Rattle.calmap.specs.code.Checked.{both_fit, map_fits, near_end, short_end, few_pixels, few_steps, small, slight}
use Rattle.calmap.specs.declared.units.Cal.{Cal}
use Rattle.calmap.specs.declared.units.Q16.{Q16}
use Rattle.calmap.proofs.Signed.{mag-add, mag-mul, in32-yes}

-- 2^29 and a little, 2^28, 2^28 and 2^29
slight-line : (v : ℤ) (p q k : Q16) (x y : ℤ) → mag v < near_end → mag p.0 < end16 → mag q.0 < end16 → mag k.0 < short_end → mag x < near_end → mag y < near_end → line_fits v p q k x y ≡ true
unfolding line_fits line
slight-line v p q k x y hv hp hq hk hx hy =
    let whole = v *ℤ pos one in
    let part = p.0 *ℤ x in
    let other = q.0 *ℤ y in
    let a : mag whole ≤ near_end * suc one = le_trans (mag-mul v (pos one)) (mul-le-mul hv (le_refl (suc one))) in
    let b : mag part ≤ end16 * near_end = le_trans (mag-mul p.0 x) (mul-le-mul hp hx) in
    let c : mag other ≤ end16 * near_end = le_trans (mag-mul q.0 y) (mul-le-mul hq hy) in
    let ab = mag-add whole part in
    let abc = mag-add (whole +ℤ part) other in
    let all = mag-add (whole +ℤ part +ℤ other) k.0 in
    and-true _ _ (in32-yes whole (omega arith)) ∙ and-true _ _ (in32-yes part (omega arith)) ∙ and-true _ _ (in32-yes (whole +ℤ part) (omega arith))
    ∙ and-true _ _ (in32-yes other (omega arith)) ∙ and-true _ _ (in32-yes (whole +ℤ part +ℤ other) (omega arith)) ∙ in32-yes (whole +ℤ part +ℤ other +ℤ k.0) (omega arith)

few-in16 : (v : ℤ) → mag v < near_end → in16 v ≡ true
unfolding in16
few-in16 v h = let l : mag v < end16 = omega arith in lt-ltb _ _ l

pub slight-fits : (c : Cal) (x y : ℤ) → slight c ≡ true → few_pixels x ≡ true → few_pixels y ≡ true → map_fits c x y ≡ true
unfolding slight few_pixels few_steps small in16 map_fits both_fit
slight-fits c x y h ex ey =
    let hx : mag x < near_end = ltb-true _ _ ex in
    let hy : mag y < near_end = ltb-true _ _ ey in
    let h1 = and_right _ _ h in
    let h3 = and_right _ _ h1 in
    let h4 = and_right _ _ h3 in
    let h2 = and_right _ _ h4 in
    let a : mag c.c0.0 < end16 = ltb-true _ _ (and_left _ _ h) in
    let b : mag c.c1.0 < end16 = ltb-true _ _ (and_left _ _ h1) in
    let d : mag c.c3.0 < end16 = ltb-true _ _ (and_left _ _ h3) in
    let e : mag c.c4.0 < end16 = ltb-true _ _ (and_left _ _ h4) in
    let k : mag c.c2.0 < short_end = ltb-true _ _ (and_left _ _ h2) in
    let l : mag c.c5.0 < short_end = ltb-true _ _ (and_right _ _ h2) in
    and-true _ _ (few-in16 x hx) ∙ and-true _ _ (few-in16 y hy)
    ∙ and-true _ _ (slight-line x c.c0 c.c1 c.c2 x y hx a b k hx hy) ∙ slight-line y c.c3 c.c4 c.c5 x y hy d e l hx hy

-- where a point has a place, its two lines fit
pub line-of-x : (c : Cal) (x y : ℤ) → map_fits c x y ≡ true → line_fits x c.c0 c.c1 c.c2 x y ≡ true
unfolding map_fits both_fit
line-of-x c x y h = and_left _ _ (and_right _ _ (and_right _ _ h))

pub line-of-y : (c : Cal) (x y : ℤ) → map_fits c x y ≡ true → line_fits y c.c3 c.c4 c.c5 x y ≡ true
unfolding map_fits both_fit
line-of-y c x y h = and_right _ _ (and_right _ _ (and_right _ _ h))

-- each product and each partial sum of a line that fits
pub record Fits (v : ℤ) (p q k : Q16) (x y : ℤ) : Type 0 where
  pub whole : steps_fit (whole_steps v) ≡ true
  pub part : steps_fit (p · x) ≡ true
  pub both : steps_fit (whole_steps v ⊞ p · x) ≡ true
  pub other : steps_fit (q · y) ≡ true
  pub three : steps_fit (whole_steps v ⊞ p · x ⊞ q · y) ≡ true
  pub all : steps_fit (whole_steps v ⊞ p · x ⊞ q · y ⊞ k) ≡ true

pub apart : (v : ℤ) (p q k : Q16) (x y : ℤ) → line_fits v p q k x y ≡ true → Fits v p q k x y
unfolding line_fits line
apart v p q k x y h =
    let a = and_right _ _ h in
    let b = and_right _ _ a in
    let c = and_right _ _ b in
    let d = and_right _ _ c in
    record { whole = and_left _ _ h; part = and_left _ _ a; both = and_left _ _ b; other = and_left _ _ c; three = and_left _ _ d; all = and_right _ _ d }
