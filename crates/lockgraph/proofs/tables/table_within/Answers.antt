-- `table_within` meets its contract. Assumes nothing.
use mathlib.Core.Path.{sym}
use native.Mathlib.Omega.{arith}
use Rattle.std.proofs.Common.{rules}
use Rattle.limits.proofs.LimitLaws.{accepted-right}
use Rattle.fitted.proofs.AcceptedLaws.{words_are}
use Rattle.outcomes.proofs.TableLaws.{table_done, table-naming, table-refused, table-short, table-short-second}
use Rattle.outcomes.proofs.DemandLaws.{table-demand-2, table-demand-3, words-within}
use Rattle.lockgraph.proofs.tables.table_within.Goals as goal

pub returns-in_err-u-clause-table_is : goal.returns-in_err-u-clause-table_is
returns-in_err-u-clause-table_is c =
    let is = table-refused c.args.l c.args.sheet.now c.args.naming c.args.first.now c.args.second.now _ (sym c.in_err-u.ensures) in search rules

pub returns-then-u-naming : goal.returns-then-u-naming
returns-then-u-naming c =
    let is = table-naming c.args.l c.args.sheet.now c.args.naming c.args.first.now c.args.second.now c.in_ok-u.ensures.0 c.in_ok-u.ensures.1 c.if-u-naming.true in
    record { table_is = is; table_demand2 = table-demand-2 _ _ _ is; table_demand3 = table-demand-3 _ _ _ is }

pub words_for-needed-requires : goal.words_for-needed-requires
words_for-needed-requires c =
    (accepted-right _ _ c.in_ok-u.ensures.0).lean-most

pub returns-then-first-needed : goal.returns-then-first-needed
returns-then-first-needed c =
    let is = table-short c.args.l c.args.sheet.now c.args.naming c.args.first.now c.args.second.now c.in_ok-u.ensures.0 c.in_ok-u.ensures.1 c.if-u-naming.false c.words_for-needed.ensures c.if-first-needed.true in
    record { table_is = is; table_demand2 = table-demand-2 _ _ _ is; table_demand3 = table-demand-3 _ _ _ is }

pub returns-then-second-needed : goal.returns-then-second-needed
returns-then-second-needed c =
    let is = table-short-second c.args.l c.args.sheet.now c.args.naming c.args.first.now c.args.second.now c.in_ok-u.ensures.0 c.in_ok-u.ensures.1 c.if-u-naming.false c.words_for-needed.ensures c.if-first-needed.false c.if-second-needed.true in
    record { table_is = is; table_demand2 = table-demand-2 _ _ _ is; table_demand3 = table-demand-3 _ _ _ is }

pub fitted_table-c-requires-clause-words_in_bounds : goal.fitted_table-c-requires-clause-words_in_bounds
fitted_table-c-requires-clause-words_in_bounds c =
    let w = words-within _ _ c.in_ok-u.ensures.0 in
    let e = words_are c.in_ok-u.ensures.1 in
    (omega arith, omega arith)

pub returns : goal.returns
returns c =
    let is = table_done c.args.l c.args.sheet.now c.args.naming c.args.first.now c.args.second.now c.in_ok-u.ensures.0 c.in_ok-u.ensures.1 c.if-u-naming.false c.words_for-needed.ensures c.if-first-needed.false c.if-second-needed.false c.fitted_table-c.ensures in
    record { table_is = is; table_demand2 = table-demand-2 _ _ _ is; table_demand3 = table-demand-3 _ _ _ is }
