-- `host::calls::touch_grab_ms` meets its contract. Assumes nothing.
use Prim.Native.Nat.{ℕ}
use Rattle.std.specs.Prelude.{Result}
use mathlib.Core.Path.{◌∙◌, ap}
use mathlib.Core.List.{[], ◌∷◌}
use Rattle.panel.specs.declared.refusals.Refusal.{Refusal}
use Rattle.gesture.specs.Answers.{told_grab}
use Rattle.host.specs.Hosts.{grab_told, grab_hosted}
use Rattle.host.proofs.Telling.{grab-numbers}
use Rattle.host.proofs.calls.touch_grab_ms.Goals as goal

pub returns : goal.returns
unfolding grab_hosted
returns c =
    (λ i. grab_told (c.number_of.ensures i) ((c.from.ensures ∙ c.unwrap_or.ensures) i ∷ []))
    ∙ grab-numbers c.grab_ms-told.result
    ∙ ap (λ (told : Result ℕ Refusal). grab_told (told_grab told).number ((told_grab told).value ∷ [])) c.grab_ms-told.ensures
