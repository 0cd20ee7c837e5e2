-- `table` meets its contract, by those of `start_words`, `settle` and `wordset::size`. Assumes nothing.
use lib.ListN.{length}
use Rattle.tableau.proofs.TableWords.{table_is}
use Rattle.tableau.proofs.table.table.Goals as goal

pub returns : goal.returns
returns c =
    table_is c.args.sheet.now.words.w c.args.sheet.now.base.now c.args.sheet.now.names.now (length c.args.sheet.now.ln.now) c.args.r c.args.first.now _ c.requires.w_in_bounds.0 c.start_words.ensures _ _ _ _ _ _ c.size-s.ensures c.size-l.ensures (c.settle-n.ensures.by_index _ _ c.requires.ready) (c.settle-n.ensures.by_index_2 _ _ c.requires.ready) (c.settle-n.ensures.by_index_3 _ _ c.requires.ready)
