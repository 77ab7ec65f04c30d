-- `image::codec::encode_fresh` meets its contract. Assumes nothing.
use Rattle.std.specs.Prelude.{Err}
use mathlib.Core.Path.{sym, ◌∙◌, ap}
use Rattle.std.proofs.lemmas.Result.{err_from_is_err_and}
use Rattle.gesture.proofs.Keeps.{fresh_kept}
use Rattle.image.specs.Codec.{stored}
use Rattle.image.proofs.Found.{there, missing}
use Rattle.image.proofs.Codecs.{encode-length, encode-done}
use Rattle.image.proofs.Promises.{fresh-image}
use Rattle.image.proofs.codec.encode_fresh.Goals as goal

pub returns-in_err-image : goal.returns-in_err-image
returns-in_err-image c =
    let p = err_from_is_err_and c.from_residual.result c.from_residual.ensures.1 in
    let m = missing _ _ _ _ _ c.as_mut_array.ensures.cases (sym c.in_err-image.was ∙ c.ok_or.ensures.value) in
    ap (λ x. stored x c.args.area.now) (p.1 ∙ ap Err (p.2 ∙ m.1)) ∙ encode-length _ _ m.0

pub returns : goal.returns
returns c =
    let whole = there _ _ _ _ _ c.as_mut_array.ensures.cases (sym c.in_ok-image.was ∙ c.ok_or.ensures.value) in
    encode-done _ _ whole.long _ fresh_kept (c.blank.ensures ∙ sym fresh-image)
