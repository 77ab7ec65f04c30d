-- What `search follow` needs to follow a definition of specs/ by the tests that the code took: the laws of
-- the words of specs/Tests.antt, and the step from a fact about two numbers to the test of it.
-- Assumes nothing.
use mathlib.Core.Path.{◌≡◌, refl}
use mathlib.Core.Bool.{Bool, true, false, not, ◌&&◌}
use borrow.Author.Tests.{lt-ltb, le-ltb, le-leb, lt-leb, eq-eqb, ne_eqb}
use Rattle.panel.specs.Tests.{when◌then◌else◌, ◌and◌, ◌or◌}

pub if-true : {A : Type 0} (b : Bool) (x y : A) → b ≡ true → when◌then◌else◌ b x y ≡ x
unfolding when◌then◌else◌
if-true b x y e = simp e

pub if-false : {A : Type 0} (b : Bool) (x y : A) → b ≡ false → when◌then◌else◌ b x y ≡ y
unfolding when◌then◌else◌
if-false b x y e = simp e

pub and-true : (a b : Bool) → a ≡ true → ◌and◌ a b ≡ b
unfolding ◌and◌
and-true a b e = simp e

pub and-false : (a b : Bool) → a ≡ false → ◌and◌ a b ≡ false
unfolding ◌and◌
and-false a b e = simp e

pub or-true : (a b : Bool) → a ≡ true → ◌or◌ a b ≡ true
unfolding ◌or◌
or-true a b e = simp e

pub or-false : (a b : Bool) → a ≡ false → ◌or◌ a b ≡ b
unfolding ◌or◌
or-false a b e = simp e

pub not-true : (a : Bool) → a ≡ true → not a ≡ false
not-true a e = simp e

pub not-false : (a : Bool) → a ≡ false → not a ≡ true
not-false a e = simp e

-- `&` of the code is `and`; the code joins to the left, specs/ to the right

pub both : (a b : Bool) → a && b ≡ ◌and◌ a b
unfolding ◌and◌
both true b = refl
both false b = refl

pub joined : (a b c : Bool) → ◌and◌ (a && b) c ≡ ◌and◌ a (◌and◌ b c)
unfolding ◌and◌
joined true b c = refl
joined false b c = refl

-- a function of a choice is the choice of its values
pub if-of : {A B : Type 0} (f : A → B) (b : Bool) (x y : A) → f (when◌then◌else◌ b x y) ≡ when◌then◌else◌ b (f x) (f y)
unfolding when◌then◌else◌
if-of f true x y = refl
if-of f false x y = refl

-- what holds of each side of a choice, where its test goes that way, holds of the choice
pub if-know : {A : Type 0} (P : A → Type 0) (b : Bool) (x y : A) → (b ≡ true → P x) → (b ≡ false → P y) → P (when◌then◌else◌ b x y)
unfolding when◌then◌else◌
if-know P true x y yes-x no-y = yes-x refl
if-know P false x y yes-x no-y = no-y refl

-- what holds of both sides of a choice holds of the choice
pub if-all : {A : Type 0} (P : A → Type 0) (b : Bool) {x y : A} → P x → P y → P (when◌then◌else◌ b x y)
if-all P b {x} {y} both-x both-y = if-know P b x y (λ yes. both-x) (λ no. both-y)

-- two choices by one test
pub if-two : {A B : Type 0} (P : A → B → Type 0) (b : Bool) (x y : A) (u v : B) → (b ≡ true → P x u) → (b ≡ false → P y v) → P (when◌then◌else◌ b x y) (when◌then◌else◌ b u v)
unfolding when◌then◌else◌
if-two P true x y u v yes-x no-y = yes-x refl
if-two P false x y u v yes-x no-y = no-y refl

pub ruleset follow = (if-true, if-false, and-true, and-false, or-true, or-false, not-true, not-false, lt-ltb, le-ltb, le-leb, lt-leb, eq-eqb, ne_eqb)
