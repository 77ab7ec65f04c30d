-- `image::whole::put_tracker` meets its contract. Assumes nothing.
use Prim.Native.Nat.{ℕ}
use mathlib.Core.Path.{◌∙◌, ap}
use mathlib.Core.List.{List}
use Rattle.image.specs.Image.{touch_rows}
use Rattle.image.specs.code.Puts.{puts}
use Rattle.image.specs.code.Touches.{at_touch}
use Rattle.image.proofs.Laid.{image-put}
use Rattle.image.proofs.whole.put_tracker.Goals as goal

pub returns : goal.returns
returns c =
    image-put _ _ _ _ _ _ (c.put_touch.ensures ∙ ap (λ (l : List ℕ). puts l at_touch (touch_rows c.args.t.touch)) c.blank.ensures) c.put_finger.ensures c.put_end.ensures c.put_keys.ensures c.put_settings.ensures
