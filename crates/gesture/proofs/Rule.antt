-- The state rule of specs/States.antt is all the parts of specs/Parts.antt together: the same tests, in the order in which
-- the code goes through the record. Assumes nothing.
use Rattle.std.specs.Prelude.{Some, None}
use mathlib.Core.Path.{◌≡◌, refl, sym}
use mathlib.Core.Bool.{Bool, true, false}
use mathlib.Core.List.{◌∷◌}
use Prim.Native.Nat.{ℕ}
use Rattle.panel.specs.Tests as tests
use Rattle.panel.specs.Tests.{◌and◌, ◌≤?◌, ◌<?◌}
use Rattle.panel.specs.Sizes.{width}
use Rattle.panel.specs.Points.{all_on_panel}
use Rattle.panel.proofs.Laws.{and_left, and_right}
use Rattle.fingers.specs.Thresholds.{grab_most}
use Rattle.fingers.specs.declared.one.One.{One}
use Rattle.fingers.specs.declared.one.App.{App}
use Rattle.gesture.specs.code.Parts.{touch_part, several_part, multi_part, multi_places, pairing_part, pair_part, pair_places, one_part, all_parts}
use Rattle.gesture.specs.States.{state_rule, held_points, centroids, span_rule, pair_rule, most_rule, raw_rule}
use Rattle.gesture.specs.declared.record.Touch.{Touch}
use Rattle.gesture.specs.declared.record.Touch.TheVariants.{Idle, Down, Multi, Residual}
use Rattle.gesture.specs.declared.record.Tracker.{Tracker}

-- Tests that are passed together (panel's and_left and and_right take them apart).

pub both : {a b : Bool} → a ≡ true → b ≡ true → ◌and◌ a b ≡ true
unfolding tests.◌and◌
both {a} {b} p q = simp (p, q)

-- two tests of which each passes where the other does are the same
same : (a b : Bool) → (a ≡ true → b ≡ true) → (b ≡ true → a ≡ true) → a ≡ b
same true b f g = sym (f refl)
same false true f g = g refl
same false false f g = refl

-- The rule and the parts, of a touch, what its finger did, what the app made of it, and the grab time.

abbrev rule_at : Touch → One → App → ℕ → Bool
rule_at x o app grab =
    all_on_panel (o.last ∷ held_points x) and all_on_panel (centroids x) and (o.far <? width) and span_rule x and pair_rule x and most_rule x and (grab ≤? grab_most) and raw_rule app

abbrev parts_at : Touch → One → App → ℕ → Bool
parts_at x o app grab = touch_part x and one_part o and raw_rule app and (grab ≤? grab_most)

parts-if-rule : (x : Touch) (o : One) (app : App) (grab : ℕ) → rule_at x o app grab ≡ true → parts_at x o app grab ≡ true
unfolding all_on_panel held_points centroids span_rule pair_rule most_rule touch_part several_part multi_part multi_places pairing_part pair_part pair_places one_part
parts-if-rule Idle o app grab h =
    let g = and_right _ _ (and_right _ _ (and_right _ _ (and_right _ _ (and_right _ _ (and_right _ _ h))))) in
    both refl (both (both (and_left _ _ (and_left _ _ h)) (and_left _ _ (and_right _ _ (and_right _ _ h)))) (both (and_right _ _ g) (and_left _ _ g)))
parts-if-rule Residual o app grab h =
    let g = and_right _ _ (and_right _ _ (and_right _ _ (and_right _ _ (and_right _ _ (and_right _ _ h))))) in
    both refl (both (both (and_left _ _ (and_left _ _ h)) (and_left _ _ (and_right _ _ (and_right _ _ h)))) (both (and_right _ _ g) (and_left _ _ g)))
parts-if-rule (Down start since) o app grab h =
    let g = and_right _ _ (and_right _ _ (and_right _ _ (and_right _ _ (and_right _ _ (and_right _ _ h))))) in
    both (and_left _ _ (and_right _ _ (and_left _ _ h))) (both (both (and_left _ _ (and_left _ _ h)) (and_left _ _ (and_right _ _ (and_right _ _ h)))) (both (and_right _ _ g) (and_left _ _ g)))
parts-if-rule (Multi m None) o app grab h =
    let c = and_left _ _ (and_right _ _ h) in
    let n = and_left _ _ (and_right _ _ (and_right _ _ (and_right _ _ (and_right _ _ (and_right _ _ h))))) in
    let g = and_right _ _ (and_right _ _ (and_right _ _ (and_right _ _ (and_right _ _ (and_right _ _ h))))) in
    both (both (both (and_left _ _ n) (both (and_right _ _ n) (both (and_left _ _ c) (and_left _ _ (and_right _ _ c))))) refl) (both (both (and_left _ _ (and_left _ _ h)) (and_left _ _ (and_right _ _ (and_right _ _ h)))) (both (and_right _ _ g) (and_left _ _ g)))
parts-if-rule (Multi m (Some r)) o app grab h =
    let p = and_right _ _ (and_left _ _ h) in
    let c = and_left _ _ (and_right _ _ h) in
    let s = and_right _ _ (and_right _ _ (and_right _ _ h)) in
    let n = and_left _ _ (and_right _ _ (and_right _ _ s)) in
    let g = and_right _ _ (and_right _ _ (and_right _ _ s)) in
    both (both (both (and_left _ _ n) (both (and_right _ _ n) (both (and_left _ _ c) (and_left _ _ (and_right _ _ c))))) (both (both (and_left _ _ p) (both (and_left _ _ (and_right _ _ p)) (and_left _ _ (and_right _ _ (and_right _ _ c))))) (both (and_left _ _ s) (and_left _ _ (and_right _ _ s))))) (both (both (and_left _ _ (and_left _ _ h)) (and_left _ _ (and_right _ _ (and_right _ _ h)))) (both (and_right _ _ g) (and_left _ _ g)))

rule-if-parts : (x : Touch) (o : One) (app : App) (grab : ℕ) → parts_at x o app grab ≡ true → rule_at x o app grab ≡ true
unfolding all_on_panel held_points centroids span_rule pair_rule most_rule touch_part several_part multi_part multi_places pairing_part pair_part pair_places one_part
rule-if-parts Idle o app grab h =
    let w = and_left _ _ (and_right _ _ h) in
    both (both (and_left _ _ w) refl) (both refl (both (and_right _ _ w) (both refl (both refl (both refl (both (and_right _ _ (and_right _ _ (and_right _ _ h))) (and_left _ _ (and_right _ _ (and_right _ _ h)))))))))
rule-if-parts Residual o app grab h =
    let w = and_left _ _ (and_right _ _ h) in
    both (both (and_left _ _ w) refl) (both refl (both (and_right _ _ w) (both refl (both refl (both refl (both (and_right _ _ (and_right _ _ (and_right _ _ h))) (and_left _ _ (and_right _ _ (and_right _ _ h)))))))))
rule-if-parts (Down start since) o app grab h =
    let w = and_left _ _ (and_right _ _ h) in
    both (both (and_left _ _ w) (both (and_left _ _ h) refl)) (both refl (both (and_right _ _ w) (both refl (both refl (both refl (both (and_right _ _ (and_right _ _ (and_right _ _ h))) (and_left _ _ (and_right _ _ (and_right _ _ h)))))))))
rule-if-parts (Multi m None) o app grab h =
    let w = and_left _ _ (and_right _ _ h) in
    let m = and_left _ _ (and_left _ _ h) in
    let c = and_right _ _ (and_right _ _ m) in
    both (both (and_left _ _ w) refl) (both (both (and_left _ _ c) (both (and_right _ _ c) refl)) (both (and_right _ _ w) (both refl (both refl (both (both (and_left _ _ m) (and_left _ _ (and_right _ _ m))) (both (and_right _ _ (and_right _ _ (and_right _ _ h))) (and_left _ _ (and_right _ _ (and_right _ _ h)))))))))
rule-if-parts (Multi m (Some r)) o app grab h =
    let w = and_left _ _ (and_right _ _ h) in
    let m = and_left _ _ (and_left _ _ h) in
    let c = and_right _ _ (and_right _ _ m) in
    let p = and_left _ _ (and_right _ _ (and_left _ _ h)) in
    let s = and_right _ _ (and_right _ _ (and_left _ _ h)) in
    both (both (and_left _ _ w) (both (and_left _ _ p) (both (and_left _ _ (and_right _ _ p)) refl))) (both (both (and_left _ _ c) (both (and_right _ _ c) (both (and_right _ _ (and_right _ _ p)) refl))) (both (and_right _ _ w) (both (and_left _ _ s) (both (and_right _ _ s) (both (both (and_left _ _ m) (and_left _ _ (and_right _ _ m))) (both (and_right _ _ (and_right _ _ (and_right _ _ h))) (and_left _ _ (and_right _ _ (and_right _ _ h)))))))))

pub rule_is_parts : (t : Tracker) → state_rule t ≡ all_parts t
unfolding state_rule all_parts
rule_is_parts t =
    same (state_rule t) (all_parts t) (parts-if-rule t.touch t.one t.app t.settings.grab_ms) (rule-if-parts t.touch t.one t.app t.settings.grab_ms)
