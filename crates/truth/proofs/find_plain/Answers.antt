-- `find_plain` meets its contract. Assumes nothing.
use mathlib.Core.Path.{◌∙◌}
use lib.Dec.{eqb}
use Rattle.std.proofs.Common.{rules}
use Rattle.std.proofs.lemmas.Iterator.{YieldsList-from_slice}
use Rattle.std.proofs.lemmas.Iterator.Search.{position_from_yields_List}
use Rattle.members.specs.Members.{tag_w}
use Rattle.truth.specs.Truths.{plain}
use Rattle.truth.proofs.Positions.{first-or}
use Rattle.truth.proofs.find_plain.Goals as goal

pub returns : goal.returns
unfolding plain
returns c =
    c.unwrap_or.ensures ∙ first-or (λ x. eqb (tag_w x) c.args.g) c.args.ms.now c.position.result
    (position_from_yields_List (λ x. eqb (tag_w x) c.args.g) _ _ _ c.position.ensures.ran (YieldsList-from_slice c.args.ms.now (search rules)) (λ x b q e. search rules))
