use Rattle.std.proofs.Common.{rules}
use mathlib.Core.Path.{◌≡◌, sym, ◌∙◌}
use lib.Dec.{eqb}
use Rattle.std.specs.List.{count_by}
use Rattle.head.proofs.WordLaws.{name-count}
use Rattle.head.proofs.kinds.name_count.Goals as goal

pub returns : goal.returns
returns c = let e : c.count.result ≡ count_by (λ k. eqb k 2) c.args.ks.now = search rules in e ∙ sym (name-count _)
