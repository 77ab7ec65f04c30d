-- The measure of `digits`: the digits that are left.
use Rattle.text.proofs.words.+digits.Given as goal

abbrev pub decreases-digits : goal.decreases-digits
decreases-digits l = l.left
