-- `list_needs` meets its contract: the fields' needs, then the members'. Assumes nothing.
use Prim.Native.Nat.{◌≤◌}
use native.Mathlib.Omega.{arith}
use lib.ListN.{length}
use Rattle.needs.proofs.ListingLaws.{listed}
use Rattle.needs.proofs.list_needs.Goals as goal

pub returns : goal.returns
returns c =
    let l = c.list_members.ensures.few in
    let q = c.list_fields-r.auto.ns in
    let r = c.list_members.auto.ns in
    let h : c.list_members.result ≤ length c.list_members.new.ns = omega arith in
    (h, listed c.list_members.ensures h)
