-- `fill_words` meets its contract: the truth words, the condition words and the needs are what the elimination goes by. Assumes nothing.
use native.Mathlib.Nat.{add-mul}
use native.Mathlib.Omega.{arith}
use lib.ListN.{length}
use Rattle.frame.proofs.Stores.{ready_by}
use Rattle.frame.proofs.fill_words.Goals as goal

pub truth_words-requires : goal.truth_words-requires
truth_words-requires c = record { table = c.requires.sound.0.table; leans = c.requires.sound.0.leans; w_in_bounds = (let a = c.requires.w_bound.1.blocks in omega (arith, a, add-mul (length c.args.ms.now) 9 c.args.w)) }

pub field_words-requires : goal.field_words-requires
field_words-requires c = record { truths = c.truth_words.ensures; w_in_bounds = ((let k = c.truth_words.auto.tw in let h = c.requires.w_bound.1.blocks in omega arith), (let w = c.requires.w_bound.0 in omega arith)) }

pub condition_words-requires : goal.condition_words-requires
condition_words-requires c = record { table = (c.requires.sound.0.table, (c.requires.sound.0.leans, (c.requires.sound.0.places, c.requires.sound.0.narrow))); truths = (c.field_words.ensures.truths_2, (c.requires.w_bound.1.entries, (let w = c.requires.w_bound.0 in omega arith))) }

pub base_words-requires : goal.base_words-requires
base_words-requires c = record { truths = c.field_words.ensures.truths_2; w_in_bounds = c.requires.w_bound.1.families; by_index = c.requires.sound.0.globals-in; by_index_2 = c.requires.sound.0.values-in; named = c.requires.sound.1 }

pub list_needs-requires : goal.list_needs-requires
list_needs-requires c =
    ((let n = c.requires.sound.0.few in omega arith), c.requires.w_bound.1.needs)

pub returns : goal.returns
returns c = record { upper_bound = (c.list_needs.ensures.0, ready_by c.requires.sound.0 c.requires.w_bound.0 c.field_words.ensures.truths_2 c.field_words.ensures.fields c.condition_words.ensures c.list_needs.ensures.1); based = c.base_words.ensures }
