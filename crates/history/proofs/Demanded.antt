-- Demand 3, proved of every run of accepted calls on a fresh tracker. Assumes nothing.
use Prim.Native.Nat.{ℕ}
use mathlib.Core.Path.{◌≡◌, refl, sym, subst}
use mathlib.Core.List.{List, [], ◌∷◌}
use native.Mathlib.Omega.{arith}
use Rattle.gesture.proofs.Keeps.{fresh_kept}
use Rattle.gesture.specs.Answers.{given}
use Rattle.gesture.specs.Runs.{run}
use Rattle.gesture.specs.Calls.{Call, report, tick, capture, capture_direct, raw_next, set_grab_ms, answer_of}
use Rattle.gesture.specs.Trackers.{whole, fresh_tracker}
use Rattle.gesture.specs.declared.record.Tracker.{Tracker}
use Rattle.history.specs.Demand.{Tells, TellsAll, KeysTold, Kept, Demand}
use Rattle.history.specs.Keys.{changes}
use Rattle.history.specs.Runs.{sayings, history, Accepted, AllAccepted}
use Rattle.history.specs.Touches.{Seen, start, watch}
use Rattle.history.proofs.Calls.{Together, call-answered, call-good, call-leaves, report-leaves}

-- while reports repeat the mask that is wanted, the changes to it are told
tells_all : (cs : List Call) (t : Tracker) (s : Seen) (mask : ℕ) → Together t s → t.keys.wanted ≡ mask → AllAccepted cs → TellsAll mask (changes t.keys.told mask) (sayings t cs)
unfolding run TellsAll
tells_all [] t s mask i w a = tt
tells_all (c ∷ cs) t s mask i w a =
    λ r.
    let u = (answer_of t c).tracker in
    let l = call-leaves t s i c mask w a.0 r in
    l.tells (λ left. TellsAll mask left (sayings u cs)) (tells_all cs u (watch s c (given (answer_of t c))) mask (call-good t s i c a.0).together l.want a.1)

keys-told : (c : Call) (cs : List Call) (t : Tracker) (s : Seen) → Together t s → Accepted c → AllAccepted cs → KeysTold s c (sayings t (c ∷ cs))
unfolding run TellsAll
keys-told (report now ev) cs t s i a as' =
    λ r.
    let c = report now ev in
    let u = (answer_of t c).tracker in
    let l = report-leaves t s i now ev a in
    subst (λ (k : ℕ). Tells (changes k ev.keys) c (given (answer_of t c)) (λ left. TellsAll ev.keys left (sayings u cs))) (sym i.keys)
    (l.tells (λ left. TellsAll ev.keys left (sayings u cs)) (tells_all cs u (watch s c (given (answer_of t c))) ev.keys (call-good t s i c a).together l.want as'))
keys-told (tick now) cs t s i a as' = tt
keys-told capture cs t s i a as' = tt
keys-told capture_direct cs t s i a as' = tt
keys-told (raw_next wish) cs t s i a as' = tt
keys-told (set_grab_ms ms) cs t s i a as' = tt

kept : (cs : List Call) (t : Tracker) (s : Seen) → Together t s → AllAccepted cs → Kept s (sayings t cs)
unfolding run Kept
kept [] t s i a = tt
kept (c ∷ cs) t s i a =
    let g = call-good t s i c a.0 in (
      record {
        answered = call-answered t s i c a.0;
        keys = keys-told c cs t s i a.0 a.1;
        several = g.several;
        down = g.down;
        excepted = g.excepted;
      },
      kept cs (answer_of t c).tracker (watch s c (given (answer_of t c))) g.together a.1,
    )

pub fresh-together : Together fresh_tracker start
unfolding fresh_tracker whole start
fresh-together = record { valid = fresh_kept; keys = refl; byte = omega arith; want = omega arith; touch = refl; end = tt }

pub demand-3 : Demand
unfolding Demand history
demand-3 cs a = kept cs fresh_tracker start fresh-together a
