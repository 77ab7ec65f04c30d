-- `image::calls::call` meets its contract. Assumes nothing.
use Rattle.std.specs.Prelude.{Err}
use Prim.Native.Nat.{ℕ}
use mathlib.Core.Path.{sym, ◌∙◌, ap}
use mathlib.Core.List.{List}
use Rattle.std.proofs.lemmas.Result.{err_from_is_err_and}
use Rattle.gesture.specs.Calls.{call_of}
use Rattle.image.specs.Calls.{made_on}
use Rattle.image.specs.code.Finding.{unruled_of, left_by}
use Rattle.image.proofs.Found.{there, missing}
use Rattle.image.proofs.Making.{finish-answered, finish-refused, call-answered, call-refused, call-length}
use Rattle.image.proofs.calls.call.Goals as goal

pub returns-in_err-image : goal.returns-in_err-image
returns-in_err-image c =
    let p = err_from_is_err_and c.from_residual.result c.from_residual.ensures.1 in
    let m = missing _ _ _ _ _ c.as_mut_array.ensures.cases (sym c.in_err-image.was ∙ c.ok_or.ensures.value) in
    ap (λ x. left_by x c.args.area.now) (p.1 ∙ ap Err (p.2 ∙ m.1)) ∙ call-length _ _ m.0

pub returns-in_err-t : goal.returns-in_err-t
returns-in_err-t c =
    let p = err_from_is_err_and c.from_residual-in_err-t.result c.from_residual-in_err-t.ensures.1 in
    let whole = there _ _ _ _ _ c.as_mut_array.ensures.cases (sym c.in_ok-image.was ∙ c.ok_or.ensures.value) in
    (λ i. left_by ((p.1 ∙ ap Err p.2) i) (whole.same i)) ∙ call-refused _ _ _ (sym c.in_err-t.was ∙ c.unruled.ensures ∙ ap unruled_of whole.same)

pub returns-in_err-r : goal.returns-in_err-r
returns-in_err-r c =
    let p = err_from_is_err_and c.from_residual-in_err-r.result c.from_residual-in_err-r.ensures.1 in
    let whole = there _ _ _ _ _ c.as_mut_array.ensures.cases (sym c.in_ok-image.was ∙ c.ok_or.ensures.value) in
    let refused = finish-refused c.in_ok-image.image.now _ _ c.in_err-r.was in
    ap (λ x. left_by x c.in_ok-image.image.now) (p.1 ∙ ap Err p.2)
    ∙ call-answered _ (call_of c.args.c) _ _ _ (sym c.in_ok-t.was ∙ c.unruled.ensures) c.make-a.ensures refused
    ∙ ap (λ (l : List ℕ). made_on l (call_of c.args.c)) whole.same

pub returns : goal.returns
returns c =
    let whole = there _ _ _ _ _ c.as_mut_array.ensures.cases (sym c.in_ok-image.was ∙ c.ok_or.ensures.value) in
    let answered = finish-answered c.in_ok-image.image.now _ _ _ _ c.in_ok-r.was c.put_tracker.ensures c.numbers_of.ensures in
    call-answered _ (call_of c.args.c) _ _ _ (sym c.in_ok-t.was ∙ c.unruled.ensures) c.make-a.ensures answered
    ∙ ap (λ (l : List ℕ). made_on l (call_of c.args.c)) whole.same
