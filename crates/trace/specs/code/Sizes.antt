-- The room that a report's numbers are gathered in, and how many of them there are.
use Rattle.std.specs.Prelude.{ℕ, ◌+◌, ◌*◌}
use Rattle.panel.specs.Points.{fingers}
use Rattle.panel.specs.Sizes.{max_points}

-- kind, time, keys, count, and two for each point in use
abbrev pub report_numbers : ℕ → ℕ
report_numbers count = 4 + 2 * fingers count

abbrev pub most_numbers : ℕ
most_numbers = 4 + 2 * max_points
