-- Computed: a fit that passes by the old tenths, and that `over-the-limit` of touchcal's Cases.antt has as Resid. Assumes nothing.
use mathlib.Core.Path.{◌≡◌, refl}
use lib.Ieee.{of_bits, add, sub, mul, div, lt, of_int, to_signed}
use Rattle.panel.specs.Tests.{when◌then◌else◌, ◌and◌, ◌or◌}
use Rattle.panel.specs.Points.{on_panel, all_on_panel}
use Rattle.calmap.specs.Wide.{in32, in16, down}
use Rattle.calmap.specs.Maps.{line, line_fits, apply_of}
use Rattle.calmap.specs.Roots.{digit, root_by, root_of}
use Rattle.calmap.specs.Distances.{squared, gap_of}
use Rattle.calmap.specs.Units.{tenths}
use Rattle.calmap.specs.Resids.{miss_of, misses_of, sum_of, mean_of, largest, resid_by}
use Rattle.calmap.specs.Checks.{mild, scale_holds, near, stays, all_stay, verdict_of, check_of}
use Rattle.calmap.specs.declared.limits.Verdict.TheVariants.{Pass}
use Rattle.touchcal.specs.Floats.{in_reach, half_away, nearest_step, q16_of, in_steps, steps_of}
use Rattle.touchcal.specs.Moments.{place_of, add_pair, shared_of, add_about, moments_of}
use Rattle.touchcal.specs.Solutions.{det_of, spreads, coefs_of, deltas_of, stepped_of, solved_of}
use Rattle.touchcal.specs.Fits.{fit_by}
use Rattle.std.specs.Prelude.{Ok}
use Rattle.touchcal.proofs.Cases.{opposite, shifted, target}
use Rattle.oldtenths.specs.OldTenths.{old_tenths_of}

pub passed-before : fit_by old_tenths_of (opposite 50 5) target ≡ Ok (record { cal = shifted 1_638_400 163_840; mean = tenths 250; max = tenths 250; before = tenths 250; verdict = Pass })
unfolding fit_by solved_of stepped_of moments_of place_of add_pair shared_of add_about det_of spreads coefs_of deltas_of steps_of in_steps q16_of in_reach nearest_step half_away resid_by misses_of miss_of largest apply_of line line_fits in32 in16 down digit root_by squared gap_of old_tenths_of root_of check_of verdict_of scale_holds mild near stays all_stay on_panel all_on_panel sum_of mean_of when◌then◌else◌ ◌and◌ ◌or◌ of_bits add sub mul div lt of_int to_signed
passed-before = refl
