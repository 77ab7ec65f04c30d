-- A table as the code writes it, row by row into an area that is there already: proofs/Layouts.antt shows that it comes to
-- the table laid out.
use Rattle.std.specs.Prelude.{ℕ, ◌+◌, List, [], ◌∷◌}
use Rattle.std.proofs.lemmas.List.Edits.{sets}
use Rattle.image.specs.Rows.{Row, bytes_of}

unfoldable pub puts : List ℕ → ℕ → List Row → List ℕ
puts area at [] = area
puts area at (r ∷ rows) = puts (sets area at (bytes_of r.width r.number)) (at + r.width) rows
