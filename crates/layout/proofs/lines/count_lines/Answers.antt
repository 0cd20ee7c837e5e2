use Rattle.std.proofs.Common.{rules}
use mathlib.Core.Path.{◌≡◌, ◌∙◌}
use lib.Dec.{eqb}
use Rattle.std.specs.List.{count_by}
use Rattle.layout.specs.Layout.{newline}
use Rattle.layout.proofs.ScanLaws.{lines-count}
use Rattle.layout.proofs.lines.count_lines.Goals as goal

pub returns : goal.returns
returns c = let e : c.count.result ≡ count_by (λ b. eqb b newline) c.args.s.now = search rules in e ∙ lines-count _
