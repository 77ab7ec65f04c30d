-- `image::calls::grab_ms` meets its contract. Assumes nothing.
use Rattle.std.specs.Prelude.{Err}
use mathlib.Core.Path.{sym, ◌∙◌, ap}
use Rattle.std.proofs.lemmas.Result.{err_from_is_err_and}
use Rattle.image.specs.code.Settings.{settings_at}
use Rattle.image.proofs.SettingLaws.{settings-are}
use Rattle.image.proofs.Found.{there, missing}
use Rattle.image.proofs.Making.{grab-length, grab-answered, grab-refused}
use Rattle.image.proofs.calls.grab_ms.Goals as goal

pub returns-in_err-image : goal.returns-in_err-image
returns-in_err-image c =
    let p = err_from_is_err_and c.from_residual.result c.from_residual.ensures.1 in
    let m = missing _ _ _ _ _ c.as_array.ensures.cases (sym c.in_err-image.was ∙ c.ok_or.ensures.value) in
    p.1 ∙ ap Err (p.2 ∙ m.1) ∙ grab-length _ m.0

pub returns-in_err-make : goal.returns-in_err-make
returns-in_err-make c =
    let p = err_from_is_err_and c.from_residual-in_err-make.result c.from_residual-in_err-make.ensures.1 in
    let whole = there _ _ _ _ _ c.as_array.ensures.cases (sym c.in_ok-image.was ∙ c.ok_or.ensures.value) in
    p.1 ∙ ap Err p.2 ∙ grab-refused _ _ _ _ _ whole.same c.make.ensures _ c.in_err-make.was

pub returns : goal.returns
returns c =
    let whole = there _ _ _ _ _ c.as_array.ensures.cases (sym c.in_ok-image.was ∙ c.ok_or.ensures.value) in
    grab-answered _ _ _ _ _ whole.same c.make.ensures _ (settings-are _ _ c.settings_at-s.ensures ∙ ap settings_at whole.same) c.in_ok-make.was
