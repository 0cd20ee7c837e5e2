-- `list_within` meets its contract. Assumes nothing.
use mathlib.Core.Path.{sym}
use Rattle.std.proofs.Common.{rules}
use Rattle.fitted.proofs.AcceptedLaws.{few_words}
use Rattle.outcomes.proofs.ListingLaws.{list-asked, list_done, list-given, list-naming, list-refused, list-short}
use Rattle.lockgraph.proofs.lists.list_within.Goals as goal

pub returns-in_err-u : goal.returns-in_err-u
returns-in_err-u c =
    let is = list-refused c.args.l c.args.sheet.now c.args.naming c.args.store.now _ (sym c.in_err-u.ensures) in search rules

pub returns-then-u-naming : goal.returns-then-u-naming
returns-then-u-naming c =
    list-naming _ _ _ _ c.in_ok-u.ensures.0 c.in_ok-u.ensures.1 c.if-u-naming.true

pub fitted_table-c-requires-clause-words_in_bounds : goal.fitted_table-c-requires-clause-words_in_bounds
fitted_table-c-requires-clause-words_in_bounds c = (few_words c.in_ok-u.ensures.1, few_words c.in_ok-u.ensures.1)

pub returns-then-store-c : goal.returns-then-store-c
returns-then-store-c c =
    list-short _ _ _ _ c.in_ok-u.ensures.0 c.in_ok-u.ensures.1 c.if-u-naming.false c.fitted_table-c.ensures.left_over c.if-store-c.true

pub list_types-requires : goal.list_types-requires
list_types-requires c =
    let p = list-asked c.in_ok-u.ensures.1 _ c.fitted_table-c.auto.first c.fitted_table-c.ensures.first_holds c.args.store.now c.fitted_table-c.ensures.left_over c.if-store-c.false in
    record { w_in_bounds = p.0; by_index = p.1 }

pub returns : goal.returns
returns c =
    list_done _ _ _ _ c.in_ok-u.ensures.0 c.in_ok-u.ensures.1 c.if-u-naming.false c.fitted_table-c.ensures.left_over c.if-store-c.false
    (list-given c.in_ok-u.ensures.1 _ c.fitted_table-c.auto.first c.fitted_table-c.ensures.first_holds c.list_types.ensures)
