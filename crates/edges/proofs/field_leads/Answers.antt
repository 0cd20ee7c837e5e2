-- `field_leads` meets its contract: forward, else backward. Assumes nothing.
use Rattle.std.proofs.Common.{rules}
use Rattle.edges.specs.Nodes.{field_leads}
use Rattle.edges.proofs.field_leads.Goals as goal

pub returns-then-leads_by : goal.returns-then-leads_by
unfolding field_leads
returns-then-leads_by c = search rules

pub returns-else-leads_by : goal.returns-else-leads_by
unfolding field_leads
returns-else-leads_by c = search rules
