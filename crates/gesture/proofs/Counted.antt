-- How many points a count means, for the functions that go by it. Assumes nothing.
use Rattle.panel.proofs.Counts.{one-point, fingers-few, fingers-many}

pub ruleset counted = (one-point, fingers-few, fingers-many)
