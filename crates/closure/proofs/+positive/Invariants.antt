-- `positive` meets its contract: each way through the code is one law of SignLaws. It ends since an operand's place is before its operator's. Assumes nothing.
use Rattle.closure.proofs.+positive.Given as goal

abbrev pub decreases-positive : goal.decreases-positive
decreases-positive l = l.i
