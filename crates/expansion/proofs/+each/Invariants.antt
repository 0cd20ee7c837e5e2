-- `each` meets its contract: by the laws of EachLaws. The measure is the modes left. Assumes nothing.
use Rattle.expansion.proofs.+each.Given as goal

abbrev pub decreases-each : goal.decreases-each
decreases-each l = l.rest
