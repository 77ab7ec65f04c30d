-- The measure of `put`: the number, of which a group less is left.
use Rattle.numbers.proofs.writing.+put.Given as goal

abbrev pub decreases-put : goal.decreases-put
decreases-put l = l.v
