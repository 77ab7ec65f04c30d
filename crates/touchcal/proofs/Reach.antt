-- Six coefficients at once: HUGE exactly where one of them is out of reach, and the place of the first that is. Assumes nothing.
use Rattle.std.specs.Prelude.{Result, Ok, Err}
use Rattle.std.proofs.Common.{◌≡◌, ℕ, suc, ◌<◌, Bool, true, false, not, List, [], ◌∷◌, length, sym, refl, ap, ◌∙◌, subst, true≢false, arith}
use lib.Ieee.{Float}
use Rattle.panel.specs.Tests.{when◌then◌else◌, ◌and◌, ◌or◌}
use Rattle.panel.specs.declared.refusals.Refusal.TheVariants.{Huge}
use Rattle.panel.proofs.Follow.{if-of, if-true, if-false}
use Rattle.calmap.specs.declared.units.Q16.{Q16}
use Rattle.calmap.specs.declared.units.Cal.{Cal}
use Rattle.touchcal.specs.Floats.{in_reach, nearest_step, q16_of, in_steps, steps_of}
use Rattle.touchcal.specs.Solutions.{passing, first_refused, in_order, place, or_place, stepped_of}
use Rattle.touchcal.specs.Nones.{ends, rust_steep, First, here, behind}
use Rattle.touchcal.specs.declared.floats.Coefs.{Coefs}
use Rattle.touchcal.specs.declared.floats.CoefPlace.{CoefPlace}
use Rattle.touchcal.proofs.Choices.{if-and}
use Rattle.panel.specs.declared.refusals.Refusal.{Refusal}

one-step : (v : Float) (next : Q16 → Result Cal Refusal) → in_steps (q16_of v) next ≡ (when in_reach v then next (nearest_step v) else Err Huge)
unfolding q16_of in_steps
one-step v next = if-of (λ x. in_steps x next) (in_reach v) _ _

abbrev every : List Float → Bool
every [] = true
every (v ∷ vs) = in_reach v and every vs

abbrev pub all_reach : Coefs → Bool
all_reach v = every (in_order v)

abbrev pub nearest_cal : Coefs → Cal
nearest_cal v = record {
  c0 = nearest_step v.a;
  c1 = nearest_step v.b;
  c2 = nearest_step v.c;
  c3 = nearest_step v.d;
  c4 = nearest_step v.e;
  c5 = nearest_step v.f;
}

pub steps-are : (v : Coefs) → steps_of v ≡ (when all_reach v then Ok (nearest_cal v) else Err Huge)
unfolding steps_of
steps-are v = simp (one-step, if-and, if-true)

-- ---- the steps, or the place of the first that has none

pub stepped-are : (v : Coefs) → stepped_of v ≡ (when all_reach v then Ok (nearest_cal v) else Err (place (first_refused (in_order v))))
unfolding stepped_of
stepped-are v = rw (steps-are v) (if-of (λ a. or_place a (place (first_refused (in_order v)))) (all_reach v) _ _)

are-back : (near : Bool) (c d : Cal) (p : CoefPlace) → (when near then Ok d else Err p) ≡ Ok c → (when near then Ok d else Err Huge) ≡ Ok c
unfolding when◌then◌else◌
are-back true c d p e = cc
are-back false c d p e = cc

beyond-back : (near : Bool) (d : Cal) (p q : CoefPlace) → (when near then Ok d else Err p) ≡ Err q → (when near then Ok d else Err Huge) ≡ Err Huge
unfolding when◌then◌else◌
beyond-back true d p q e = cc
beyond-back false d p q e = refl

pub steps-answered : (v : Coefs) (c : Cal) → stepped_of v ≡ Ok c → steps_of v ≡ Ok c
steps-answered v c e = steps-are v ∙ are-back (all_reach v) c (nearest_cal v) _ (sym (stepped-are v) ∙ e)

pub steps-refused : (v : Coefs) (p : CoefPlace) → stepped_of v ≡ Err p → steps_of v ≡ Err Huge
steps-refused v p e = steps-are v ∙ beyond-back (all_reach v) (nearest_cal v) _ p (sym (stepped-are v) ∙ e)

-- ---- the steps, each or its place

abbrev go_on : Result Q16 CoefPlace → (Q16 → Result Cal CoefPlace) → Result Cal CoefPlace
go_on (Ok q) next = next q
go_on (Err p) next = Err p

abbrev step : Result Q16 Refusal → ℕ → (Q16 → Result Cal CoefPlace) → Result Cal CoefPlace
step x k next = go_on (or_place x (place k)) next

chained : (x0 x1 x2 x3 x4 x5 : Result Q16 Refusal)
    → or_place
    (in_steps x0 (λ c0. in_steps x1 (λ c1. in_steps x2 (λ c2. in_steps x3 (λ c3. in_steps x4 (λ c4. in_steps x5 (λ c5.
    Ok (record { c0 = c0; c1 = c1; c2 = c2; c3 = c3; c4 = c4; c5 = c5 }))))))))
    (place (passing x0 (passing x1 (passing x2 (passing x3 (passing x4 (passing x5 0)))))))
    ≡ step x0 0 (λ c0. step x1 1 (λ c1. step x2 2 (λ c2. step x3 3 (λ c3. step x4 4 (λ c4. step x5 5 (λ c5.
    Ok (record { c0 = c0; c1 = c1; c2 = c2; c3 = c3; c4 = c4; c5 = c5 })))))))
unfolding in_steps
chained (Err r) x1 x2 x3 x4 x5 = refl
chained (Ok c0) (Err r) x2 x3 x4 x5 = refl
chained (Ok c0) (Ok c1) (Err r) x3 x4 x5 = refl
chained (Ok c0) (Ok c1) (Ok c2) (Err r) x4 x5 = refl
chained (Ok c0) (Ok c1) (Ok c2) (Ok c3) (Err r) x5 = refl
chained (Ok c0) (Ok c1) (Ok c2) (Ok c3) (Ok c4) (Err r) = refl
chained (Ok c0) (Ok c1) (Ok c2) (Ok c3) (Ok c4) (Ok c5) = refl

pub stepped-by : (v : Coefs)
    → stepped_of v
    ≡ step (q16_of v.a) 0 (λ c0. step (q16_of v.b) 1 (λ c1. step (q16_of v.c) 2 (λ c2. step (q16_of v.d) 3 (λ c3. step (q16_of v.e) 4 (λ c4. step (q16_of v.f) 5 (λ c5.
    Ok (record { c0 = c0; c1 = c1; c2 = c2; c3 = c3; c4 = c4; c5 = c5 })))))))
unfolding stepped_of steps_of first_refused
stepped-by v = chained (q16_of v.a) (q16_of v.b) (q16_of v.c) (q16_of v.d) (q16_of v.e) (q16_of v.f)

-- ---- which of them is the first

first_next : (v : Float) (vs : List Float) → first_refused (v ∷ vs) ≡ (when in_reach v then suc (first_refused vs) else 0)
unfolding first_refused q16_of
first_next v vs = if-of (λ x. passing x (first_refused vs)) (in_reach v) _ _

pub first-is : {k : ℕ} {vs : List Float} → First k vs → first_refused vs ≡ k
first-is (here {v} {vs} e) = first_next v vs ∙ if-false _ _ _ e
first-is (behind {k} {v} {vs} e f) = first_next v vs ∙ if-true _ _ _ e ∙ ap suc (first-is f)

pub first_below : {k : ℕ} {vs : List Float} → First k vs → k < length vs
first_below (here e) = omega arith
first_below (behind e f) = omega (arith, first_below f)

-- where not all are in reach there is a first
first_of : (v : Float) (vs : List Float) (b : Bool) → in_reach v ≡ b → b and every vs ≡ false → (every vs ≡ false → First (first_refused vs) vs) → First (first_refused (v ∷ vs)) (v ∷ vs)
unfolding ◌and◌
first_of v vs true e h f = subst (λ (k : ℕ). First k (v ∷ vs)) (sym (first_next v vs ∙ if-true _ _ _ e)) (behind e (f h))
first_of v vs false e h f = subst (λ (k : ℕ). First k (v ∷ vs)) (sym (first_next v vs ∙ if-false _ _ _ e)) (here e)

first-there : (vs : List Float) → every vs ≡ false → First (first_refused vs) vs
first-there [] h = absurd (true≢false h)
first-there (v ∷ vs) h = first_of v vs (in_reach v) refl h (first-there vs)

-- ---- one of the six `q16(..)?` ends the call exactly where not all are in reach

turned : (b : Bool) → (when b then false else true) ≡ not b
unfolding when◌then◌else◌
turned true = refl
turned false = refl

ends_is : (v : Float) → ends (q16_of v) ≡ not (in_reach v)
unfolding q16_of
ends_is v = if-of ends (in_reach v) _ _ ∙ turned (in_reach v)

not-both : (a b : Bool) → not a or not b ≡ not (a and b)
unfolding ◌and◌ ◌or◌
not-both true b = refl
not-both false b = refl

some_end : (vs : List Float) → rust_steep vs ≡ not (every vs)
some_end [] = refl
some_end (v ∷ vs) = rw (ends_is v, some_end vs) (not-both (in_reach v) (every vs))

pub steep-is : (v : Coefs) → rust_steep (in_order v) ≡ not (all_reach v)
steep-is v = some_end (in_order v)

pub steep-first : (v : Coefs) → all_reach v ≡ false → First (first_refused (in_order v)) (in_order v)
steep-first v h = first-there (in_order v) h
