-- `image::codec::encode` meets its contract. Assumes nothing.
use Rattle.std.specs.Prelude.{Err}
use mathlib.Core.Path.{sym, ◌∙◌, ap}
use Rattle.std.proofs.lemmas.Result.{err_from_is_err_and}
use Rattle.image.specs.Codec.{stored}
use Rattle.image.proofs.Found.{there, missing}
use Rattle.image.proofs.Codecs.{encode-length, encode-ruled, encode-broken}
use Rattle.image.proofs.codec.encode.Goals as goal

pub returns-in_err-image : goal.returns-in_err-image
returns-in_err-image c =
    let p = err_from_is_err_and c.from_residual.result c.from_residual.ensures.1 in
    let m = missing _ _ _ _ _ c.as_mut_array.ensures.cases (sym c.in_err-image.was ∙ c.ok_or.ensures.value) in
    ap (λ x. stored x c.args.area.now) (p.1 ∙ ap Err (p.2 ∙ m.1)) ∙ encode-length _ _ m.0

pub returns-in_err-ruled : goal.returns-in_err-ruled
returns-in_err-ruled c =
    let p = err_from_is_err_and c.from_residual-in_err-ruled.result c.from_residual-in_err-ruled.ensures.1 in
    let whole = there _ _ _ _ _ c.as_mut_array.ensures.cases (sym c.in_ok-image.was ∙ c.ok_or.ensures.value) in
    (λ i. stored ((p.1 ∙ ap Err p.2) i) (whole.same i)) ∙ encode-broken _ _ whole.long _ (sym c.in_err-ruled.was ∙ c.ruled.ensures)

pub returns : goal.returns
returns c =
    let whole = there _ _ _ _ _ c.as_mut_array.ensures.cases (sym c.in_ok-image.was ∙ c.ok_or.ensures.value) in
    encode-ruled _ _ whole.long _ _ (sym c.in_ok-ruled.was ∙ c.ruled.ensures) c.put_tracker.ensures
