-- `ending` meets its contract. Assumes nothing.
use mathlib.Core.Path.{sym}
use native.Mathlib.Omega.{arith}
use lib.Seq.{length-take-le, take_all}
use borrow.Author.Rules.{rules}
use Rattle.report.proofs.ending.Goals as goal

pub returns-then-newline-le16 : goal.returns-then-newline-le16
returns-then-newline-le16 c = (sym (take_all 16 _ c.if-newline-le16.true), c.if-newline-le16.true)

pub slice_bounds-result-end : goal.slice_bounds-result-end
slice_bounds-result-end c =
    let h = c.if-newline-le16.false in
    sym (length-take-le 16 c.args.newline.now (omega arith))

pub returns : goal.returns
returns c =
    let h = c.if-newline-le16.false in
    let l = length-take-le 16 c.args.newline.now (omega arith) in
    (search rules, omega arith)
