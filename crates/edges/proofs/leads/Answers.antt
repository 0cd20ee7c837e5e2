-- `leads` meets its contract: it asks each field. Assumes nothing.
use Rattle.std.proofs.Common.{rules, refl}
use Rattle.std.proofs.lemmas.Iterator.{YieldsList-from_range}
use Rattle.std.proofs.lemmas.Iterator.Search.{any_from_yields_List}
use Rattle.edges.specs.Nodes.{field_leads, leads_at}
use Rattle.edges.proofs.leads.Goals as goal

pub returns : goal.returns
unfolding leads_at
returns c =
    any_from_yields_List (field_leads c.args.out.now c.args.modes c.args.i c.args.j) _ _ _ c.any.ensures.ran (YieldsList-from_range 0 8 8 refl refl) (λ f b q h. search rules)
