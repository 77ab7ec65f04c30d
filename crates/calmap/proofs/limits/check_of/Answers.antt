-- `calmap::limits::check_of` meets its contract. Assumes nothing.
use Rattle.std.specs.Prelude.{Ok}
use mathlib.Core.Path.{sym, ap, ◌∙◌}
use Rattle.panel.proofs.Follow.{if-true, if-false}
use Rattle.calmap.proofs.Firsts.{check-long, check-first}
use Rattle.calmap.proofs.limits.check_of.Goals as goal

pub returns-then-n-gt-MAX_TAPS : goal.returns-then-n-gt-MAX_TAPS
returns-then-n-gt-MAX_TAPS c = sym (check-long _ _ _ c.if-n-gt-MAX_TAPS.true)

pub returns-then-not-each_on_panel : goal.returns-then-not-each_on_panel
returns-then-not-each_on_panel c =
    let off = sym c.each_on_panel.ensures ∙ c.if-not-each_on_panel.true in
    sym (check-first _ _ _ c.if-n-gt-MAX_TAPS.false ∙ if-false _ _ _ off)

pub returns : goal.returns
returns c =
    let on = sym c.each_on_panel.ensures ∙ c.if-not-each_on_panel.false in
    ap Ok c.judge.ensures ∙ sym (check-first _ _ _ c.if-n-gt-MAX_TAPS.false ∙ if-true _ _ _ on)
