-- The state rule as facts of the touch, of its finger, of what the app made of it and of the grab time, which the laws of the steps are about; and
-- back to the tests. Assumes nothing.
use Rattle.std.specs.Prelude.{Option, Some, None}
use mathlib.Core.Path.{◌≡◌, refl, sym, ◌∙◌}
use mathlib.Core.Bool.{true}
use Prim.Native.Nat.{◌≤◌}
use borrow.Author.Tests.{ltb-true, leb-true, lt-ltb, le-leb}
use Rattle.panel.specs.Points.{on_panel}
use Rattle.panel.proofs.Laws.{and_left, and_right}
use Rattle.fingers.specs.Thresholds.{grab_most}
use Rattle.fingers.specs.declared.one.One.{One}
use Rattle.fingers.proofs.Kept.{FineOne, FineApp, FinePairing, FineMulti}
use Rattle.gesture.specs.code.Parts.{touch_part, several_part, multi_part, multi_places, pairing_part, pair_part, pair_places, one_part, all_parts}
use Rattle.gesture.specs.States.{state_rule, raw_rule}
use Rattle.gesture.specs.declared.record.Touch.{Touch}
use Rattle.gesture.specs.declared.record.Touch.TheVariants.{Idle, Down, Multi, Residual}
use Rattle.gesture.specs.declared.record.Tracker.{Tracker}
use Rattle.gesture.proofs.Rule.{both, rule_is_parts}
use Rattle.fingers.specs.declared.pair.Pair.{Pair}

abbrev pub FineTouch : Touch → Type 0
FineTouch Idle = Unit {0}
FineTouch (Down start since) = on_panel start ≡ true
FineTouch (Multi m pair) = FineMulti m × FinePairing pair
FineTouch Residual = Unit {0}

abbrev pub Fine : Tracker → Type 0
Fine t = FineTouch t.touch × FineOne t.one × FineApp t.app × (t.settings.grab_ms ≤ grab_most)

one-facts : (o : One) → one_part o ≡ true → FineOne o
unfolding one_part
one-facts o h = (and_left _ _ h, ltb-true _ _ (and_right _ _ h))

one-tests : (o : One) → FineOne o → one_part o ≡ true
unfolding one_part
one-tests o h = both h.0 (lt-ltb _ _ h.1)

pairing-facts : (pair : Option Pair) → pairing_part pair ≡ true → FinePairing pair
unfolding pairing_part pair_part pair_places
pairing-facts None h = tt
pairing-facts (Some r) h =
    let p = and_left _ _ h in
    let s = and_right _ _ h in
    (and_left _ _ p, and_left _ _ (and_right _ _ p), and_right _ _ (and_right _ _ p), ltb-true _ _ (and_left _ _ s), leb-true _ _ (and_right _ _ s))

pairing-tests : (pair : Option Pair) → FinePairing pair → pairing_part pair ≡ true
unfolding pairing_part pair_part pair_places
pairing-tests None h = refl
pairing-tests (Some r) h = both (both h.0 (both h.1 h.2)) (both (lt-ltb _ _ h.3) (le-leb _ _ h.4))

touch-facts : (x : Touch) → touch_part x ≡ true → FineTouch x
unfolding touch_part several_part multi_part multi_places
touch-facts Idle h = tt
touch-facts (Down start since) h = h
touch-facts (Multi m pair) h =
    let n = and_left _ _ h in
    let c = and_right _ _ (and_right _ _ n) in
    ((leb-true _ _ (and_left _ _ n), leb-true _ _ (and_left _ _ (and_right _ _ n)), and_left _ _ c, and_right _ _ c), pairing-facts pair (and_right _ _ h))
touch-facts Residual h = tt

touch-tests : (x : Touch) → FineTouch x → touch_part x ≡ true
unfolding touch_part several_part multi_part multi_places
touch-tests Idle h = refl
touch-tests (Down start since) h = h
touch-tests (Multi m pair) h =
    let m = h.0 in
    both (both (le-leb _ _ m.0) (both (le-leb _ _ m.1) (both m.2 m.3))) (pairing-tests pair h.1)
touch-tests Residual h = refl

pub facts : (t : Tracker) → state_rule t ≡ true → Fine t
unfolding all_parts raw_rule
facts t h =
    let k = sym (rule_is_parts t) ∙ h in
    let rest = and_right _ _ (and_right _ _ k) in
    (touch-facts t.touch (and_left _ _ k), one-facts t.one (and_left _ _ (and_right _ _ k)), and_left _ _ rest, leb-true _ _ (and_right _ _ rest))

pub kept : (t : Tracker) → Fine t → state_rule t ≡ true
unfolding all_parts raw_rule
kept t f = rule_is_parts t ∙ both (touch-tests t.touch f.0) (both (one-tests t.one f.1) (both f.2 (le-leb _ _ f.3)))
