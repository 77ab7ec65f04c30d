-- What is written fits its room.
use Rattle.std.proofs.Common.{sym, arith}
use Rattle.std.proofs.lemmas.List.{length-take-le}
use Rattle.text.proofs.Promises.{lent}
use Rattle.play.proofs.main.Goals as goal

pub slice_bounds-write_all-end : goal.slice_bounds-write_all-end
slice_bounds-write_all-end c =
    let fits = lent _ _ _ _ _ c.in-Ok.is (c.play.ensures.value, c.play.ensures.out_after) in
    sym (length-take-le _ _ (omega (arith, fits)))
