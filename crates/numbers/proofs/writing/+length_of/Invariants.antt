-- The measure of `length_of`: the number, of which a group less is left.
use Rattle.numbers.proofs.writing.+length_of.Given as goal

abbrev pub decreases-length_of : goal.decreases-length_of
decreases-length_of l = l.v
