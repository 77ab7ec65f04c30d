-- Laws of the words that definitions are written in, beyond those that panel's `follow` has: a choice by two tests, a choice whose test is
-- known inside, and two tests that both fail. Assumes nothing.
use Rattle.std.proofs.Common.{◌≡◌, Bool, true, false, refl, true≢false}
use Rattle.panel.specs.Tests.{when◌then◌else◌, ◌and◌, ◌or◌}

pub if-and : {A : Type 0} (a b : Bool) (x y : A) → (when a and b then x else y) ≡ (when a then (when b then x else y) else y)
unfolding when◌then◌else◌ ◌and◌
if-and true b x y = refl
if-and false b x y = refl

-- a choice, where its test is known inside
pub if-then : {A : Type 0} (b : Bool) (x x' y : A) → (b ≡ true → x ≡ x') → (when b then x else y) ≡ (when b then x' else y)
unfolding when◌then◌else◌
if-then true x x' y h = h refl
if-then false x x' y h = refl

pub if-else : {A : Type 0} (b : Bool) (x y y' : A) → (b ≡ false → y ≡ y') → (when b then x else y) ≡ (when b then x else y')
unfolding when◌then◌else◌
if-else true x y y' h = refl
if-else false x y y' h = h refl

pub neither_left : (a b : Bool) → a or b ≡ false → a ≡ false
unfolding ◌or◌
neither_left true b e = e
neither_left false b e = refl

pub neither_right : (a b : Bool) → a or b ≡ false → b ≡ false
unfolding ◌or◌
neither_right true b e = absurd (true≢false e)
neither_right false b e = e
