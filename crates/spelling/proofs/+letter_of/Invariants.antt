-- `spelling::letter_of` meets its contract. The measure is the letter's place. Assumes nothing.
use Rattle.spelling.proofs.+letter_of.Given as goal

abbrev pub decreases-letter_of : goal.decreases-letter_of
decreases-letter_of l = l.k
