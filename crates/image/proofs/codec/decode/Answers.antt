-- `image::codec::decode` meets its contract. Assumes nothing.
use Rattle.std.specs.Prelude.{Err}
use mathlib.Core.Path.{sym, ◌∙◌, ap}
use Rattle.std.proofs.lemmas.Result.{err_from_is_err_and}
use Rattle.image.specs.Codec.{decode_of}
use Rattle.image.proofs.Found.{there, missing}
use Rattle.image.proofs.Codecs.{refused-length, decode-ruled, decode-fails}
use Rattle.image.proofs.codec.decode.Goals as goal

pub returns-in_err-image : goal.returns-in_err-image
returns-in_err-image c =
    let p = err_from_is_err_and c.from_residual.result c.from_residual.ensures.1 in
    let m = missing _ _ _ _ _ c.as_array.ensures.cases (sym c.in_err-image.was ∙ c.ok_or.ensures.value) in
    p.1 ∙ ap Err (p.2 ∙ m.1) ∙ refused-length _ m.0

pub returns-in_err-unruled : goal.returns-in_err-unruled
returns-in_err-unruled c =
    let p = err_from_is_err_and c.from_residual-in_err-unruled.result c.from_residual-in_err-unruled.ensures.1 in
    let whole = there _ _ _ _ _ c.as_array.ensures.cases (sym c.in_ok-image.was ∙ c.ok_or.ensures.value) in
    p.1 ∙ ap Err p.2 ∙ decode-fails _ _ (sym c.in_err-unruled.was ∙ c.unruled.ensures) ∙ ap decode_of whole.same

pub returns : goal.returns
returns c =
    let whole = there _ _ _ _ _ c.as_array.ensures.cases (sym c.in_ok-image.was ∙ c.ok_or.ensures.value) in
    c.ruled.ensures ∙ decode-ruled _ _ (sym c.in_ok-unruled.was ∙ c.unruled.ensures) ∙ ap decode_of whole.same
