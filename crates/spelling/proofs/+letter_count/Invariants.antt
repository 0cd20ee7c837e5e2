-- `spelling::letter_count` meets its contract. The measure is the word. Assumes nothing.
use Rattle.spelling.proofs.+letter_count.Given as goal

abbrev pub decreases-letter_count : goal.decreases-letter_count
decreases-letter_count l = l.x
