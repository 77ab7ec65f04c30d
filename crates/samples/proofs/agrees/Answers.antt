-- What is held to the file fits its room.
use Rattle.std.proofs.Common.{sym, arith}
use Rattle.std.proofs.lemmas.List.{length-take-le}
use Rattle.text.proofs.Promises.{lent}
use Rattle.samples.proofs.agrees.Goals as goal

pub slice_bounds-holds-end : goal.slice_bounds-holds-end
slice_bounds-holds-end c =
    let fits = lent _ _ _ _ _ c.in-Ok-play.is (c.play.ensures.value, c.play.ensures.out_after) in
    sym (length-take-le _ _ (omega (arith, fits)))
