-- `calmap::arrays::side_by_side` meets its contract. Assumes nothing.
use Prim.Native.Nat.{ℕ, ◌+◌, ◌≤◌, ◌<◌}
use mathlib.Core.Path.{◌≡◌, refl, sym, ap, ◌∙◌}
use mathlib.Core.List.{List, [], ◌∷◌, ◌++◌}
use native.Mathlib.Numerals.{add-one}
use native.Mathlib.Omega.{arith}
use lib.ListN.{length, take, get_or, set, length-set}
use lib.Seq.{take-suc, take-suc-set}
use Rattle.calmap.specs.Resids.{pairs_of}
use Rattle.calmap.specs.Sizes.{longest}
use Rattle.calmap.specs.code.Arrays.{tap0}
use Rattle.calmap.specs.declared.units.Aim.{Aim}
use Rattle.calmap.specs.declared.units.Tap.{Tap}
use Rattle.calmap.proofs.Holding.{pairs-length, pairs-at, take_all}
use Rattle.calmap.proofs.arrays.side_by_side.Goals as goal

module _ (a b : List Tap) (r : List Aim) (i : ℕ) where
  -- a turn
  more : i < length a → i < length b → i < length r → take i r ≡ take i (pairs_of a b) → take (i + 1) (set r i (record { raw = get_or a i tap0; tgt = get_or b i tap0 })) ≡ take (i + 1) (pairs_of a b)
  more ha hb hr e =
      let p : Aim = record { raw = get_or a i tap0; tgt = get_or b i tap0 } in
      let h : i < length (pairs_of a b) = omega (arith, pairs-length a b) in
      rw (add-one, take-suc-set r i p hr, take-suc (pairs_of a b) i p h, pairs-at a b i p ha hb) (ap (λ (l : List Aim). l ++ (p ∷ [])) e)

  -- after the last
  all : length a ≤ i → length b ≤ i → length r ≤ i → take i r ≡ take i (pairs_of a b) → r ≡ pairs_of a b
  all ha hb hr e = sym (take_all i r hr) ∙ e ∙ take_all i (pairs_of a b) (omega (arith, pairs-length a b))

pub loop-i-init : goal.loop-i-init
loop-i-init c = (refl, refl)

pub loop-i-preserved : goal.loop-i-preserved
loop-i-preserved c =
    let s = c.args in
    (length-set c.loop-i.r c.loop-i.i _ ∙ c.loop-i.invariant.0, more s.a s.b c.loop-i.r c.loop-i.i (omega arith) (omega arith) (omega arith) c.loop-i.invariant.1)

pub returns : goal.returns
returns c =
    let s = c.args in
    let e : c.loop-i.i ≡ longest = omega arith in
    all s.a s.b c.loop-i.r c.loop-i.i (omega arith) (omega arith) (omega (arith, c.loop-i.invariant.0)) c.loop-i.invariant.1
