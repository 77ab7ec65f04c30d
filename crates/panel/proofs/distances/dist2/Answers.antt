-- `dist2` meets its contract, as `dist` does; on the panel the square fits 32 bits. Assumes nothing.
use mathlib.Core.Path.{sym, ◌∙◌}
use native.Mathlib.Omega.{arith}
use Rattle.panel.specs.Distances.{dist2_of}
use Rattle.panel.proofs.Follow.{follow}
use Rattle.panel.proofs.Laws.{distance2-on-panel}
use Rattle.panel.proofs.distances.dist2.Goals as goal
use Rattle.panel.proofs.distances.dist2.Goals.{else-on_panel-via-then-on_panel+else-on_panel-2, else-on_panel-via-else-on_panel}

pub overflow_cast-result : goal.overflow_cast-result
overflow_cast-result c =
    let p = sym c.on_panel.ensures ∙ c.if-on_panel.true in
    let q = sym c.on_panel-then-on_panel.ensures ∙ c.if-on_panel-2.true in
    omega (arith, c.apart2.ensures, distance2-on-panel _ _ p q)

pub returns-then-on_panel-2 : goal.returns-then-on_panel-2
unfolding dist2_of
returns-then-on_panel-2 c = search (follow, ← c.apart2.ensures, ← c.on_panel-then-on_panel.ensures, ← c.on_panel.ensures)

pub returns-else-on_panel : goal.returns-else-on_panel
unfolding dist2_of
returns-else-on_panel c = elim c.else-on_panel.branch [
  | else-on_panel-via-then-on_panel+else-on_panel-2 w ↦ search (follow, ← w.on_panel-then-on_panel.ensures, ← c.on_panel.ensures)
  | else-on_panel-via-else-on_panel w ↦ search (follow, ← c.on_panel.ensures)
]
