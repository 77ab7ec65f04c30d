-- The notes of the log: why a touch came to nothing.
use Rattle.std.specs.Prelude.{ℕ}

-- "note 200", "(255)", "(100 + far, far at most 99)", "N, 250"
abbrev pub note_long : ℕ
note_long = 200

abbrev pub note_slant : ℕ
note_slant = 255

abbrev pub note_far : ℕ
note_far = 100

abbrev pub note_far_most : ℕ
note_far_most = 99

abbrev pub note_residual : ℕ
note_residual = 250
