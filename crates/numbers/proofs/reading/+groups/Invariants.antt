-- The measure of `groups`: the groups that are left.
use Rattle.numbers.proofs.reading.+groups.Given as goal

abbrev pub decreases-groups : goal.decreases-groups
decreases-groups l = l.left
