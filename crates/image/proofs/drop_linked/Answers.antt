use mathlib.Core.Path.{◌≡◌, sym, ◌∙◌}
use mathlib.Core.Bool.{not, ◌&&◌}
use Prim.Native.Nat.{ℕ, ◌*◌, ◌<◌}
use native.Mathlib.Omega.{arith}
use lib.Count.{count_trailing_zeros}
use Rattle.wordset.specs.Words.{member, minus}
use Rattle.truth.specs.Blocks.{has}
use Rattle.conditions.specs.Entries.{linked_to, refusing, side}
use Rattle.image.proofs.Stepping.{drained-less, freed-less, mode-end, mode-low, mode-none, mode-on, nothing-less}
use Rattle.image.proofs.drop_linked.Goals as goal
use Rattle.image.proofs.drop_linked.Goals.{In-loop-left, After-drain}

-- the mode in hand is one of 16
low : (c : In-loop-left) → count_trailing_zeros 64 c.loop-left.left < 16
low c = mode-low c.loop-left.invariant c.loop-left-test.true

-- v lost what the mode links to one of src less u
drained : (c : After-drain) → (t : ℕ) → t < c.args.w * 64
    → member c.drain.new.dst t ≡ (member c.loop-left.v t && not (linked_to c.args.w c.args.cw.now (side c.args.w c.args.cw.now (count_trailing_zeros 64 c.loop-left.left)) (member (minus c.args.w c.args.src.now c.args.u.now)) t))
drained c =
    let long = c.loop-left.invariant.long_rest in
    let room = c.requires.w_in_bounds_2.1 in
    drained-less _ _ _ _ _ _ _ c.requires.w_in_bounds_2.2 (omega arith) c.less.ensures _ _ c.drain.ensures.by_index

pub exceeds-requires : goal.exceeds-requires
exceeds-requires c =
    let l = low (goal.at.exceeds-requires c).In-loop-left in
    let long = c.loop-left.invariant.long_rest in
    let kept = c.less.auto.dst in
    let room = c.requires.w_in_bounds_2.1 in
    (omega (arith, c.requires.w_in_bounds.0), omega arith, omega arith)

pub returns-then-exceeds : goal.returns-then-exceeds
returns-then-exceeds c =
    let m = count_trailing_zeros 64 c.loop-left.left in
    let long = c.loop-left.invariant.long in
    let long_rest = c.loop-left.invariant.long_rest in
    let room = c.requires.w_in_bounds_2.0 in
    let room_rest = c.requires.w_in_bounds_2.1 in
    let none = nothing-less _ _ _ _ (omega arith) c.less-then-exceeds.ensures in
    mode-none c.loop-left.invariant c.loop-left-test.true _
    (freed-less _ _ _ _ _ _ _ c.requires.w_in_bounds_2.2 (omega arith) c.less.ensures
    (has c.args.w c.args.cw.now (refusing m)) (λ t l. c.requires.by_index m t (low (goal.at.returns-then-exceeds c).In-loop-left) l) (sym c.exceeds.ensures ∙ c.if-exceeds.true) _ _ none) none

pub bounds-cw-w : goal.bounds-cw-w
bounds-cw-w c = omega (arith, low (goal.at.bounds-cw-w c).In-loop-left, c.requires.w_in_bounds.0)

pub returns-then-not-drain : goal.returns-then-not-drain
returns-then-not-drain c =
    mode-none c.loop-left.invariant c.loop-left-test.true _ (drained (goal.at.returns-then-not-drain c).After-drain) (c.drain.ensures.t_after c.if-not-drain.true)

pub loop-left-preserved : goal.loop-left-preserved
loop-left-preserved c =
    mode-on c.loop-left.invariant c.loop-left-test.true _ (drained (goal.at.loop-left-preserved c).After-drain) _ c.drain.auto.dst (c.drain.auto.rest ∙ c.less.auto.dst)

pub returns : goal.returns
returns c = mode-end c.loop-left.invariant c.loop-left-test.false
