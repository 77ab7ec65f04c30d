-- `touchcal::fitting::fit_by` meets its contract, by any rule of tenths. Assumes nothing.
use Rattle.std.proofs.Common.{sym, ap, ◌∙◌, arith}
use Rattle.std.proofs.lemmas.Result.{err_from_is_err_and}
use Rattle.calmap.specs.Checks.{check_first}
use Rattle.calmap.specs.declared.units.Cal.{Cal}
use Rattle.touchcal.specs.Floats.{identity}
use Rattle.touchcal.proofs.Firsts.{fit-long, fit_refused, fit-goes-on, resid-first, check-first, found-is}
use Rattle.touchcal.proofs.fitting.fit_by.Goals as goal

pub returns-then-n-gt-MAX_TAPS : goal.returns-then-n-gt-MAX_TAPS
returns-then-n-gt-MAX_TAPS g c =
    let a = c.args in
    sym (fit-long g.R.Rule.tenths a.n a.pairs a.m a.targets (omega arith))

pub returns-in_err-verdict : goal.returns-in_err-verdict
returns-in_err-verdict g c =
    let a = c.args in
    let refused = sym c.check_of.ensures ∙ c.in_err-verdict.was in
    let p = err_from_is_err_and c.from_residual.result c.from_residual.ensures.1 in
    rw (p.1, p.2) (sym (fit_refused g.R.Rule.tenths a.n a.pairs a.m a.targets (omega arith) _ _ refused))

pub returns-in_err-c : goal.returns-in_err-c
returns-in_err-c g c =
    let a = c.args in
    let judged = sym c.check_of.ensures ∙ c.in_ok-verdict.was in
    let p = err_from_is_err_and c.from_residual-in_err-c.result c.from_residual-in_err-c.ensures.1 in
    rw (p.1, p.2, fit-goes-on g.R.Rule.tenths a.n a.pairs a.m a.targets (omega arith) _ _ judged, ← c.solve-solved.ensures, c.in_err-c.was)

pub returns : goal.returns
returns g c =
    let a = c.args in
    let cal = c.in_ok-c.c in
    let judged = sym c.check_of.ensures ∙ c.in_ok-verdict.was in
    let first = resid-first g.R.Rule.tenths a.n a.pairs a.m a.targets (omega arith) in
    let same = c.cal_or_identity.ensures ∙ found-is _ cal c.in_ok-c.was in
    let checked = ap (λ (d : Cal). check_first d a.m a.targets) same ∙ check-first g.R.Rule.tenths a.n a.pairs a.m a.targets (omega arith) cal _ _ judged in
    rw (
      fit-goes-on g.R.Rule.tenths a.n a.pairs a.m a.targets (omega arith) _ _ judged,
      ← c.solve-solved.ensures,
      c.in_ok-c.was,
      ← first cal,
      ← first identity,
      ← checked,
      judged,
      c.weigh.ensures,
      c.resid_by-before.ensures,
      c.resid_by-after.ensures,
      c.no_cal-none.ensures,
    )
