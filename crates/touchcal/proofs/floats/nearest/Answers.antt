-- Below 0 it is the negative of what it is for -s (proofs/Cuts.antt).
use Rattle.std.proofs.Common.{◌≡◌, ℕ, ◌^◌, ◌<◌, ℤ, pos, ◌-ℤ◌, neg_ℤ, sym, ap, ◌∙◌, subst, w32, SFits, to_z}
use lib.Ieee.{Float, of_bits}
use lib.Ieee.Casts.{to_signed_in}
use lib.Signed.{mag}
use mir.ValLaws.{to_z-of_z}
use Rattle.panel.proofs.Follow.{if-true, if-false}
use Rattle.touchcal.specs.Binary32.{◌⊕◌, ◌⊖◌, cut}
use Rattle.touchcal.specs.Floats.{half_away}
use Rattle.touchcal.specs.Sizes.{half32}
use Rattle.touchcal.proofs.Cuts.{up_ends, down_ends, down_is, cut-neg, less-fits, less-is}
use Rattle.touchcal.proofs.floats.nearest.Goals as goal

-- s below 0

pub whole-requires : goal.whole-requires
unfolding of_bits
whole-requires c = down_ends c.args.s c.requires.0 c.requires.1 c.if-s.true

-- what is cut fits
cut-in : {n : ℕ} (x : Float) → pos n ≡ cut x → SFits w32 (pos n)
cut-in x e = record { sfits = subst (λ (z : ℤ). mag z < 2 ^ 31) (sym e) (to_signed_in 31 _) }

read : {n : ℕ} → SFits w32 (pos n) → to_z w32 n ≡ pos n
read {n} f = to_z-of_z w32 (pos n) f

pub overflow_cast-result : goal.overflow_cast-result
overflow_cast-result c = cut-in _ c.whole.ensures

pub overflow_sub-result : goal.overflow_sub-result
overflow_sub-result c = subst (λ (z : ℤ). SFits w32 (pos 0 -ℤ z)) (sym (read (cut-in _ c.whole.ensures))) (less-fits c.whole.result (cut-in _ c.whole.ensures))

pub returns-then-s : goal.returns-then-s
unfolding of_bits half_away
returns-then-s c =
    let s = c.args.s in
    let below = c.if-s.true in
    let pre = c.requires in
    let f : SFits w32 (pos c.whole.result) = cut-in _ c.whole.ensures in
    let less = subst (λ (z : ℤ). SFits w32 (pos 0 -ℤ z)) (sym (read f)) (less-fits c.whole.result f) in
    to_z-of_z w32 _ less ∙ ap (λ (z : ℤ). pos 0 -ℤ z) (read f) ∙ less-is c.whole.result ∙ ap neg_ℤ c.whole.ensures ∙ sym (cut-neg _ (down_ends s pre.0 pre.1 below))
    ∙ ap cut (sym (down_is s pre.0 pre.1 below)) ∙ ap cut (sym (if-true _ (s ⊖ half32) (s ⊕ half32) below))

-- and not
pub whole-requires-else-s : goal.whole-requires-else-s
unfolding of_bits
whole-requires-else-s c = up_ends c.args.s c.requires.0 c.requires.1 c.if-s.false

pub overflow_cast-result-else-s : goal.overflow_cast-result-else-s
overflow_cast-result-else-s c = cut-in _ c.whole-else-s.ensures

pub returns-else-s : goal.returns-else-s
unfolding of_bits half_away
returns-else-s c =
    let s = c.args.s in
    to_z-of_z w32 (pos c.whole-else-s.result) (cut-in _ c.whole-else-s.ensures) ∙ c.whole-else-s.ensures ∙ ap cut (sym (if-false _ (s ⊖ half32) (s ⊕ half32) c.if-s.false))
