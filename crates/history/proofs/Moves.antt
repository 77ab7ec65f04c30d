-- How a report's fingers and a tick move the tracker and an observer of calls and answers together. Assumes nothing.
use Rattle.std.specs.Prelude.{Option, Some, None}
use Prim.Native.Nat.{ℕ, ◌+◌, ◌-◌}
use mathlib.Core.Path.{◌≡◌, refl, sym, ap, subst, ◌∙◌}
use mathlib.Core.Bool.{Bool, true, false, not, true≢false}
use native.Mathlib.Omega.{arith}
use borrow.Author.Tests.{ltb-true, ltb-false, lt-ltb, le-ltb, eq-eqb, ne_eqb}
use Rattle.fingers.specs.Thresholds.{lift_gap}
use Rattle.fingers.specs.declared.gestures.Gesture.TheVariants.{Down}
use Rattle.fingers.specs.declared.gestures.Outcome.{Outcome}
use Rattle.fingers.specs.declared.gestures.Outcome.TheVariants.{Quiet}
use Rattle.fingers.specs.declared.several.MultiStep.{MultiStep}
use Rattle.gesture.specs.Answers.{given_by}
use Rattle.gesture.specs.Reports.{up_outcome, end_stored, all_up, is_last_finger, residual_touch, new_touch, touch_down, goes_on, one_finger, two_start, two, more_start, more, two_of, more_of, fingers_of}
use Rattle.gesture.specs.Reports as reports
use Rattle.gesture.specs.Ticks.{still_down}
use Rattle.gesture.specs.Trackers.{whole, touched}
use Rattle.gesture.specs.declared.record.Step.{Step}
use Rattle.gesture.specs.declared.record.Touch as record-touch
use Rattle.gesture.specs.declared.record.Touch.TheVariants as touch
use Rattle.gesture.specs.declared.record.Tracker.{Tracker}
use Rattle.panel.proofs.Follow.{or-false, if-true, if-false, if-know, if-two, if-all}
use Rattle.panel.specs.Tests.{◌and◌, ◌or◌, ◌<?◌}
use Rattle.panel.specs.Tests as tests
use Rattle.panel.specs.declared.points.Event.{Event}
use Rattle.panel.specs.declared.points.Point.{Point}
use Rattle.history.specs.Demand.{had_several, SeveralSilent, excepted_with_one, excepted_never_more, ExceptedSilent}
use Rattle.history.specs.Gestures.{tells_key, tells_keys_only}
use Rattle.history.specs.Touches.{gap, Touch, On, off, on, Before, plain, many_until, Seen, close, with_one, with_several, over, counted}
use Rattle.history.proofs.Plain.{NoOne, later-plain, still-plain, release-plain, end-plain, two-plain, three-plain}

-- The touch that the tracker holds, and the one that is seen.
abbrev pub Fits : record-touch.Touch → On → Type 0
Fits touch.Idle o = o ≡ off
Fits (touch.Down start since) o = o ≡ on (record { several = false; one = true; excepted = false })
Fits touch.Residual o = o ≡ on (record { several = false; one = true; excepted = true })
Fits (touch.Multi m pair) o = had_several o ≡ true

-- The stored end of several fingers, and the touch before.
abbrev pub EndFits : record-touch.Touch → Option ℕ → Before → Type 0
EndFits touch.Idle None plain = Unit {0}
EndFits touch.Idle None (many_until release) = ⊥
EndFits touch.Idle (Some e) plain = ⊥
EndFits touch.Idle (Some e) (many_until release) = e ≡ release
EndFits (touch.Down start since) None b = Unit {0}
EndFits (touch.Down start since) (Some e) b = ⊥
EndFits touch.Residual None b = Unit {0}
EndFits touch.Residual (Some e) b = ⊥
EndFits (touch.Multi m pair) e b = Unit {0}

-- what fingers do: no key is told of, and the two stay together
pub record Moved (t : Tracker) (s : Seen) (out : Outcome) (t' : Tracker) (s' : Seen) : Type 0 where
  pub no_key : tells_key (given_by out) ≡ false
  pub keys : t'.keys.told ≡ t.keys.told
  pub want : t'.keys.wanted ≡ t.keys.wanted
  pub seen : s'.keys ≡ s.keys
  pub touch : Fits t'.touch s'.touch
  pub end : EndFits t'.touch t'.multi_end s'.before
  pub several : SeveralSilent s.touch s'.touch (given_by out)
  pub excepted : ExceptedSilent s.touch s'.touch (given_by out)

-- nothing is given and the tracker stays, while s' is seen
quiet-moved : (t : Tracker) (s s' : Seen) → s'.keys ≡ s.keys → Fits t.touch s'.touch → EndFits t.touch t.multi_end s'.before → Moved t s Quiet t s'
unfolding given_by
quiet-moved t s s' k f e = record { no_key = refl; keys = refl; want = refl; seen = k; touch = f; end = e; several = λ h. refl; excepted = λ h. refl }

no_way : {P : Type 0} → true ≡ false → P
no_way e = absurd (true≢false e)

-- a touch that has had several is excepted in no way that counts while it has not one finger
pub never-more : (x : Bool) → ◌and◌ x false ≡ false
unfolding tests.◌and◌
never-more true = refl
never-more false = refl

-- hypotheses that cannot be
neither : (a b : Bool) → a ≡ false → b ≡ false → ◌or◌ a b ≡ true → ⊥
neither a b p q e = true≢false (sym e ∙ or-false a b p ∙ q)

excepted-several : (t : Touch) → t.several ≡ true → ◌and◌ t.excepted (not t.several) ≡ false
excepted-several t e = ap (λ (x : Bool). ◌and◌ t.excepted (not x)) e ∙ never-more t.excepted

-- the touch of several that is on
on-several : (o : On) → had_several o ≡ true → (u : Touch) × (o ≡ on u) × (u.several ≡ true)
on-several off e = no_way (sym e)
on-several (on u) e = (u, refl, e)

over-several : (o : On) (b : Before) (now : ℕ) → had_several o ≡ true → over o b now ≡ many_until now
unfolding tests.when◌then◌else◌
over-several off b now e = no_way (sym e)
over-several (on u) b now e = rw e

never-excepted : (o : On) → had_several o ≡ true → excepted_never_more o ≡ false
never-excepted off e = refl
never-excepted (on u) e = excepted-several u e

-- after a touch of one finger no end of several is stored
after-residual : (e : Option ℕ) (b : Before) → EndFits touch.Residual e b → EndFits touch.Idle e plain
after-residual None b h = tt
after-residual (Some x) b h = absurd h

after-down : (start : Point) (since : ℕ) (e : Option ℕ) (b : Before) → EndFits (touch.Down start since) e b → EndFits touch.Idle e plain
after-down start since None b h = tt
after-down start since (Some x) b h = absurd h

-- Count 0.

module _ (s : Seen) (now : ℕ) where
  -- what is seen when all fingers are up
  abbrev up : Seen
  up = record { keys = s.keys; touch = off; before = over s.touch s.before now }

  up-moved : (x : record-touch.Touch) (t : Tracker) → Fits x s.touch → EndFits x t.multi_end s.before → Moved t s (up_outcome x t.one t.app now) (touched t touch.Idle t.one t.app (end_stored x t.multi_end now)) up
  unfolding up_outcome end_stored touched whole given_by tests.when◌then◌else◌ tests.◌and◌
  up-moved touch.Idle t f e = record {
    no_key = refl;
    keys = refl;
    want = refl;
    seen = refl;
    touch = refl;
    end = subst (λ (o : On). EndFits touch.Idle t.multi_end (over o s.before now)) (sym f) e;
    several = λ h. refl;
    excepted = λ h. refl;
  }
  up-moved touch.Residual t f e = record {
    no_key = refl;
    keys = refl;
    want = refl;
    seen = refl;
    touch = refl;
    end = subst (λ (o : On). EndFits touch.Idle t.multi_end (over o s.before now)) (sym f) (after-residual t.multi_end s.before e);
    several = λ h. refl;
    excepted = λ h. refl;
  }
  up-moved (touch.Multi m pair) t f e = record {
    no_key = (end-plain m pair).0;
    keys = refl;
    want = refl;
    seen = refl;
    touch = refl;
    end = subst (λ (b : Before). EndFits touch.Idle (Some now) b) (sym (over-several s.touch s.before now f)) refl;
    several = λ h. (end-plain m pair).1;
    excepted = λ h. absurd (neither false (excepted_never_more s.touch) refl (never-excepted s.touch f) h);
  }
  up-moved (touch.Down start since) t f e = record {
    no_key = release-plain t.one t.app start since now;
    keys = refl;
    want = refl;
    seen = refl;
    touch = refl;
    end = subst (λ (o : On). EndFits touch.Idle t.multi_end (over o s.before now)) (sym f) (after-down start since t.multi_end s.before e);
    several = λ h. absurd (neither (had_several s.touch) false (ap had_several f) refl h);
    excepted = λ h. absurd (neither false (excepted_never_more s.touch) refl (ap excepted_never_more f) h);
  }

-- Count 1.

one-several : (o : On) (b : Before) (now : ℕ) → had_several o ≡ true → (with_one o b now).several ≡ true
one-several off b now e = no_way (sym e)
one-several (on u) b now e = e

-- "under 300 ms back or ahead of the clock": on ℕ a difference stops at 0
gap_same : (now e : ℕ) → (now - e <? lift_gap) ≡ (now <? e + gap)
gap_same now e = go (now <? e + gap) refl
  where
    go : (t : Bool) → (now <? e + gap) ≡ t → (now - e <? lift_gap) ≡ (now <? e + gap)
    go true q = lt-ltb (now - e) lift_gap (omega (arith, ltb-true now (e + gap) q)) ∙ sym q
    go false q = le-ltb (now - e) lift_gap (omega (arith, ltb-false now (e + gap) q)) ∙ sym q

last-is-close : (e : Option ℕ) (b : Before) (now : ℕ) → EndFits touch.Idle e b → is_last_finger e now ≡ close b now
unfolding is_last_finger
last-is-close None plain now h = refl
last-is-close None (many_until r) now h = absurd h
last-is-close (Some x) plain now h = absurd h
last-is-close (Some x) (many_until r) now h = gap_same now x ∙ ap (λ (n : ℕ). now <? n + gap) h

module _ (s : Seen) (now : ℕ) where
  -- what is seen of a report with one finger
  abbrev single : Seen
  single = record { keys = s.keys; touch = on (with_one s.touch s.before now); before = s.before }

  touch-down : (t : Tracker) (p : Point) → s.touch ≡ off → EndFits touch.Idle t.multi_end s.before → Moved t s (touch_down t p now).out (touch_down t p now).tracker single
  unfolding touch_down residual_touch new_touch touched whole given_by tests.◌and◌
  touch-down t p f e =
      let same = last-is-close t.multi_end s.before now e in
      if-know (λ (st : Step). Moved t s st.out st.tracker single) _ _ _
      (λ yes'. record {
        no_key = refl;
        keys = refl;
        want = refl;
        seen = refl;
        touch = ap (λ (o : On). on (with_one o s.before now)) f ∙ ap (λ (x : Bool). on (record { several = false; one = true; excepted = x })) (sym same ∙ yes');
        end = tt;
        several = λ h. refl;
        excepted = λ h. refl;
      })
      (λ no'. record {
        no_key = refl;
        keys = refl;
        want = refl;
        seen = refl;
        touch = ap (λ (o : On). on (with_one o s.before now)) f ∙ ap (λ (x : Bool). on (record { several = false; one = true; excepted = x })) (sym same ∙ no');
        end = tt;
        several = λ h. absurd (neither (had_several s.touch) (with_one s.touch s.before now).several (ap had_several f) (ap (λ (o : On). (with_one o s.before now).several) f) h);
        excepted = λ h.
            absurd (neither (excepted_with_one single.touch) (excepted_never_more s.touch)
            (ap (λ (o : On). excepted_with_one (on (with_one o s.before now))) f ∙ ap (λ (x : Bool). ◌and◌ x true) (sym same ∙ no'))
            (ap excepted_never_more f) h);
      })

  one-moved : (x : record-touch.Touch) (t : Tracker) (p : Point) → Fits x s.touch → EndFits x t.multi_end s.before → x ≡ t.touch →
      Moved t s (one_finger x t p now).out (one_finger x t p now).tracker single
  unfolding one_finger goes_on touched whole given_by tests.◌and◌
  one-moved touch.Idle t p f e q = touch-down t p f e
  one-moved touch.Residual t p f e q =
      quiet-moved t s single refl (subst (λ (x : record-touch.Touch). Fits x single.touch) q (ap (λ (o : On). on (with_one o s.before now)) f))
      (subst (λ (x : record-touch.Touch). EndFits x t.multi_end s.before) q e)
  one-moved (touch.Multi m pair) t p f e q =
      quiet-moved t s single refl (subst (λ (x : record-touch.Touch). Fits x single.touch) q (one-several s.touch s.before now f))
      (subst (λ (x : record-touch.Touch). EndFits x t.multi_end s.before) q tt)
  one-moved (touch.Down start since) t p f e q = record {
    no_key = later-plain t.one t.app start since p now t.settings;
    keys = refl;
    want = refl;
    seen = refl;
    touch = ap (λ (o : On). on (with_one o s.before now)) f;
    end = e;
    several = λ h. absurd (neither (had_several s.touch) (with_one s.touch s.before now).several (ap had_several f) (ap (λ (o : On). (with_one o s.before now).several) f) h);
    excepted = λ h.
        absurd (neither (excepted_with_one single.touch) (excepted_never_more s.touch)
        (ap (λ (o : On). excepted_with_one (on (with_one o s.before now))) f) (ap excepted_never_more f) h);
  }

-- Two or more.

several-now : (o : On) → (with_several o).several ≡ true
several-now off = refl
several-now (on u) = refl

with-several-none : (o : On) → excepted_with_one (on (with_several o)) ≡ false
with-several-none off = never-more false
with-several-none (on u) = never-more u.excepted

module _ (s : Seen) (now : ℕ) where
  -- what is seen of a report with several
  abbrev many : Seen
  many = record { keys = s.keys; touch = on (with_several s.touch); before = s.before }

  -- a touch of several, after an answer that gives no one-finger gesture, and none at all where the touch was excepted
  several-moved : (t : Tracker) (st : MultiStep) → NoOne st.out → (excepted_never_more s.touch ≡ true → tells_keys_only (given_by st.out) ≡ true) →
      Moved t s (reports.several st t).out (reports.several st t).tracker many
  unfolding reports.several touched whole
  several-moved t st n ex = record {
    no_key = n.0;
    keys = refl;
    want = refl;
    seen = refl;
    touch = several-now s.touch;
    end = tt;
    several = λ h. n.1;
    excepted = λ h. ex (sym (or-false _ _ (with-several-none s.touch)) ∙ h);
  }

  never : {P : Type 0} → excepted_never_more s.touch ≡ false → excepted_never_more s.touch ≡ true → P
  never e h = no_way (sym h ∙ e)

  two-moved : (x : record-touch.Touch) (t : Tracker) (p q c : Point) → Fits x s.touch → Moved t s (reports.several (two x p q c now) t).out (reports.several (two x p q c now) t).tracker many
  unfolding two two_start given_by tests.◌and◌
  two-moved touch.Idle t p q c f = several-moved t _ (refl, refl) (λ h. refl)
  two-moved touch.Residual t p q c f = several-moved t _ (refl, refl) (λ h. refl)
  two-moved (touch.Down start since) t p q c f = several-moved t _ (refl, refl) (never (ap excepted_never_more f))
  two-moved (touch.Multi m pair) t p q c f = several-moved t _ (two-plain pair m p q c now) (never (never-excepted s.touch f))

  more-moved : (x : record-touch.Touch) (t : Tracker) (n : ℕ) (c : Point) → Fits x s.touch → Moved t s (reports.several (more x n c now) t).out (reports.several (more x n c now) t).tracker many
  unfolding more more_start given_by tests.◌and◌
  more-moved touch.Idle t n c f = several-moved t _ (refl, refl) (λ h. refl)
  more-moved touch.Residual t n c f = several-moved t _ (refl, refl) (λ h. refl)
  more-moved (touch.Down start since) t n c f = several-moved t _ (refl, refl) (never (ap excepted_never_more f))
  more-moved (touch.Multi m pair) t n c f = several-moved t _ (three-plain pair m n c now) (never (never-excepted s.touch f))

-- The fingers of an unspent report.
pub fingers-moved : (t : Tracker) (s : Seen) (ev : Event) (now : ℕ) → Fits t.touch s.touch → EndFits t.touch t.multi_end s.before →
    Moved t s (fingers_of t ev now).out (fingers_of t ev now).tracker (counted s ev.points now)
unfolding fingers_of counted all_up two_of more_of
fingers-moved t s ev now f e =
    if-two (λ (st : Step) (s' : Seen). Moved t s st.out st.tracker s') _ _ _ _ _
    (λ none. up-moved s now t.touch t f e)
    (λ some. if-two (λ (st : Step) (s' : Seen). Moved t s st.out st.tracker s') _ _ _ _ _
    (λ one. one-moved s now t.touch t ev.p f e refl)
    (λ many'. if-all (λ (st : Step). Moved t s st.out st.tracker (many s now)) _ (two-moved s now t.touch t _ _ _ f) (more-moved s now t.touch t _ _ f)))

-- "A touch that starts with one finger gives Down at once, unless ..".
pub starts-down : (t : Tracker) (s : Seen) (ev : Event) (now : ℕ) → Fits t.touch s.touch → EndFits t.touch t.multi_end s.before →
    s.touch ≡ off → ev.points ≡ 1 → close s.before now ≡ false → given_by (fingers_of t ev now).out ≡ Some (Down ev.p)
unfolding fingers_of one_finger touch_down new_touch given_by
starts-down t s ev now f e o n c = go t.touch refl f e
  where
    go : (x : record-touch.Touch) → t.touch ≡ x → Fits x s.touch → EndFits x t.multi_end s.before → given_by (fingers_of t ev now).out ≡ Some (Down ev.p)
    go touch.Idle q g h =
        ap (λ (st : Step). given_by st.out)
        (if-false _ _ _ (ne_eqb ev.points 0 (λ z. omega arith))
        ∙ if-true _ _ _ (eq-eqb ev.points 1 n)
        ∙ ap (λ (x : record-touch.Touch). one_finger x t ev.p now) q
        ∙ if-false _ _ _ (last-is-close t.multi_end s.before now h ∙ c))
    go touch.Residual q g h = let z : ◌≡◌ {A = ℕ} 0 1 = cc in absurd (omega arith)
    go (touch.Multi m pair) q g h = no_way (sym g ∙ ap had_several o)
    go (touch.Down start since) q g h = let z : ◌≡◌ {A = ℕ} 0 1 = cc in absurd (omega arith)

-- A tick that tells of no key.

-- with no finger down by itself it changes nothing
tick-quiet : (t : Tracker) (s : Seen) (x : record-touch.Touch) → x ≡ t.touch → Fits x s.touch → EndFits x t.multi_end s.before → Moved t s Quiet t s
tick-quiet t s x q f e =
    quiet-moved t s s refl (subst (λ (x : record-touch.Touch). Fits x s.touch) q f) (subst (λ (x : record-touch.Touch). EndFits x t.multi_end s.before) q e)

pub tick-moved : (t : Tracker) (s : Seen) (now : ℕ) (x : record-touch.Touch) → x ≡ t.touch → Fits x s.touch → EndFits x t.multi_end s.before →
    Moved t s (still_down x t now).out (still_down x t now).tracker s
unfolding still_down goes_on touched whole given_by tests.◌and◌
tick-moved t s now touch.Idle q f e = tick-quiet t s touch.Idle q f e
tick-moved t s now touch.Residual q f e = tick-quiet t s touch.Residual q f e
tick-moved t s now (touch.Multi m pair) q f e = tick-quiet t s (touch.Multi m pair) q f e
tick-moved t s now (touch.Down start since) q f e = record {
  no_key = still-plain t.one t.app start since now t.settings;
  keys = refl;
  want = refl;
  seen = refl;
  touch = f;
  end = e;
  several = λ h. absurd (neither (had_several s.touch) (had_several s.touch) (ap had_several f) (ap had_several f) h);
  excepted = λ h. absurd (neither (excepted_with_one s.touch) (excepted_never_more s.touch) (ap excepted_with_one f) (ap excepted_never_more f) h);
}
