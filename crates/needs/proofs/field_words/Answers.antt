use Rattle.needs.proofs.BlockSteps.{blocks_end}
use Rattle.needs.proofs.field_words.Goals as goal

pub returns-clause-fields : goal.returns-clause-fields
returns-clause-fields c = blocks_end c.loop-f.invariant c.loop-f-test.false c.fill_block.ensures
