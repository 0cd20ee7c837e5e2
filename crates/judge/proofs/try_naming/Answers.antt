-- `try_naming` meets its contract, by those of `start_words`, `settle` and `goal_type`. Assumes nothing.
use Rattle.tableau.proofs.TableWords.{first-is}
use Rattle.judge.proofs.JudgeLaws.{found-is}
use Rattle.judge.proofs.try_naming.Goals as goal

pub returns : goal.returns
returns c =
    let room = c.requires.room.first-room in
    found-is _ _ _ _ _ _ _ c.args.first.now _ _ room (first-is _ c.args.sheet.now.base.now c.args.sheet.now.names.now _ c.args.r _ _ room c.start_words.ensures _ _ _ (c.settle.ensures.by_index_2 _ _ c.requires.ready)) c.goal_type.ensures
