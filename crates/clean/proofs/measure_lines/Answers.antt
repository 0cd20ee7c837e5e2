use mathlib.Core.Path.{◌≡◌, sym, ap, ◌∙◌}
use Prim.Native.Nat.{◌≤◌}
use native.Mathlib.Omega.{arith}
use lib.ListN.{length}
use Rattle.clean.proofs.LineText.{word_by, word-all, word-goal, summed-next, summed-over, summed-all}
use Rattle.clean.proofs.measure_lines.Goals as goal
use Rattle.clean.proofs.measure_lines.Goals.{Joined-i-places, then-i-places, else-i-places}

-- the word's length, as the line has it
word-long : (c : Joined-i-places) → (length (word_by c.loop-i.i (length c.args.places.now)) ≡ c.if-i-places.word) × (c.if-i-places.word ≤ 5)
word-long c =
    let i = c.loop-i.i in
    let many = length c.args.places.now in
    elim c.if-i-places.branch [
      | then-i-places w ↦ (ap length (word-all i many w.if-i-places.true) ∙ sym w.word-is, omega arith)
      | else-i-places w ↦ (ap length (word-goal i many w.if-i-places.false) ∙ sym w.word-is, omega arith)
    ]

pub returns-then-word-long : goal.returns-then-word-long
returns-then-word-long c =
    let w = word-long (goal.at.returns-then-word-long c).Joined-i-places in
    summed-over c.loop-i.invariant c.requires.printable.0 c.requires.printable.1 c.loop-i-test.true w.0 c.if-word-long.true

pub loop-i-preserved : goal.loop-i-preserved
loop-i-preserved c =
    let w = word-long (goal.at.loop-i-preserved c).Joined-i-places in
    summed-next c.loop-i.invariant c.requires.printable.0 c.requires.printable.1 c.loop-i-test.true w.0 c.if-word-long.false w.1

pub returns : goal.returns
returns c = summed-all c.loop-i.invariant c.loop-i-test.false
