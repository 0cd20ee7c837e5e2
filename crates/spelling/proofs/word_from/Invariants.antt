-- `spelling::word_from` meets its contract. The invariant: the letters from i on are packed. Assumes nothing.
use Prim.Native.Nat.{◌≤◌}
use Rattle.spelling.proofs.SpellingLaws.{Packed}
use Rattle.spelling.proofs.word_from.Given as goal

abbrev pub invariant-loop-i : goal.invariant-loop-i
invariant-loop-i l = (l.a ≤ l.i) × Packed l.w l.i l.x
