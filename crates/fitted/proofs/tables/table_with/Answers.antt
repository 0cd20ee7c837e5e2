-- `table_with` meets its contract: what is asked follows from the set-up. Assumes nothing.
use Rattle.fitted.proofs.AcceptedLaws.{few-of, placed-of, room-of, table-of}
use Rattle.fitted.proofs.tables.table_with.Goals as goal

pub fill_table-requires-clause-places : goal.fill_table-requires-clause-places
fill_table-requires-clause-places g c =
    let a = c.requires.accepts in let f = c.sheet_in-tables.ensures in let h = c.requires.words_in_bounds in (placed-of a f, (few-of a f, (room-of a f h.0, room-of a f h.1)))

pub returns : goal.returns
returns g c = table-of c.requires.accepts c.sheet_in-tables.ensures c.args.naming c.fill_table.ensures
