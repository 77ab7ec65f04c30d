-- `text::gestures::gesture_text` meets its contract. Assumes nothing.
use native.Mathlib.Omega.{arith}
use Rattle.text.proofs.Gestured.{text_of}
use Rattle.text.proofs.gestures.gesture_text.Goals as goal

pub returns : goal.returns
returns c =
    let w = c.gesture_words-n.ensures in
    let p = text_of _ w.written (omega arith) in
    record { value = p.0; n_in_bounds = p.1 }
