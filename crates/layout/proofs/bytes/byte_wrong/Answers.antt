use Rattle.std.proofs.Common.{rules}
use borrow.Author.Tests.{tests}
use mathlib.Core.Path.{◌∙◌}
use mathlib.Core.Bool.{not}
use Rattle.std.proofs.lemmas.Iterator.{YieldsList-from_slice}
use Rattle.std.proofs.lemmas.Iterator.Search.{any_from_yields_List}
use Rattle.layout.specs.Layout.{byte_right}
use Rattle.layout.proofs.ScanLaws.{bad-any}
use Rattle.layout.proofs.bytes.byte_wrong.Goals as goal

pub returns : goal.returns
returns c = any_from_yields_List (λ b. not (byte_right b)) _ _ _ c.any.ensures.ran (YieldsList-from_slice c.args.s.now cc) (λ x b q k. search (rules, tests)) ∙ bad-any _
