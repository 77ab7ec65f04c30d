-- `dist10` as document 01 had it.
--
-- "`dist10`: isqrt of the squared distance, times 10, divided by 16, rounded down". Document 02, [6]: "Demand 2 compares
-- these .. with the Rust only through the old one kept for the oracle runs."
--
-- It is a rule of calmap's Distances: by it `dist10_by`, `resid_first_by` and `fit_first_by` are the calls as they were.
use Rattle.std.specs.Prelude.{ℕ, ◌*◌, ◌/◌}
use Rattle.calmap.specs.Distances.{Rule}
use Rattle.calmap.specs.Roots.{root_of}
use Rattle.calmap.specs.Sizes.{sixteenths_in}
use Rattle.calmap.specs.Units.{tenths}

-- "times 10"
abbrev pub tenths_in : ℕ
tenths_in = 10

unfoldable pub old_tenths_of : Rule
old_tenths_of d2 = tenths (root_of d2 * tenths_in / sixteenths_in)
