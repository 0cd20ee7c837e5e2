-- `fill_row` meets its contract: the members' sets, the goal's and the globals', and the bytes. Assumes nothing.
use mathlib.Core.Path.{◌∙◌}
use Rattle.evaluator.proofs.RowLaws.{row_is}
use Rattle.evaluator.proofs.fill_row.Goals as goal

pub returns : goal.returns
returns c =
    c.cells.ensures ∙ row_is c.args.out.now c.args.ws.now c.args.n c.args.goal c.args.globals.now c.requires.n_in_bounds.1.0 c.requires.n_in_bounds.1.1 _ _ c.requires.n_bound.1.1.0 c.evaluate.ensures c.args.row.now _ _ c.requires.n_in_bounds.0 c.set_at-g.ensures c.all_of-a.ensures
