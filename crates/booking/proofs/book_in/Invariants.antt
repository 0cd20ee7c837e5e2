-- `book_in` meets its contract. Assumes nothing.
use mathlib.Core.Path.{◌≡◌}
use Prim.Native.Nat.{◌-◌}
use lib.ListN.{length}
use Rattle.ctl.specs.Lists.{elem}
use Rattle.tableau.specs.Families.{Survivors}
use Rattle.start.specs.Starts.{start_list}
use Rattle.booking.proofs.BookLaws.{Written}
use Rattle.booking.proofs.book_in.Given as goal

abbrev pub invariant-loop-n : goal.invariant-loop-n
invariant-loop-n g l =
    Written (λ q t. elem t (Survivors l.sheet.ms.now l.sheet.ln.now (start_list l.sheet.words.w l.sheet.base.now l.sheet.names.now (length l.sheet.ln.now) q))) l.sheet.words.w l.namings l.initial.store l.store l.n.number × (l.n.count ≡ l.namings)

abbrev pub decreases-loop-n : goal.decreases-loop-n
decreases-loop-n g l =
    l.n.count - l.n.number
