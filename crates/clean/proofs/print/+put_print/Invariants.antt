-- `print::put_print` meets its contract: by the laws of PrintPut. It ends since a member's operands come before it. Assumes nothing.
use Rattle.clean.proofs.print.+put_print.Given as goal

abbrev pub decreases-put_print : goal.decreases-put_print
decreases-put_print l = l.i
