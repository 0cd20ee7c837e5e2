-- Where no symbol is a value, the answer on a snapshot's text is document 01's. Assumes nothing.
use mathlib.Core.Path.{◌≡◌, ap}
use mathlib.Core.Bool.{false, cond, not, ◌&&◌}
use mathlib.Core.List.{List}
use Prim.Native.Nat.{ℕ, ◌<◌}
use lib.Dec.{eqb}
use lib.ListN.{length, get_or}
use borrow.Author.Tests.{ne_eqb}
use Rattle.wordset.specs.Below.{any_below}
use Rattle.wordset.proofs.BelowLaws.{any_none}
use Rattle.snapshot_text.specs.Lines.{line_count, line_store}
use Rattle.std.specs.Prelude.{Ok, Err}
use Rattle.refusal.specs.declared.Refusal.TheVariants as Refusing
use Rattle.snapshot.specs.Read.{is_value, held_count, not_one, fits, twice, judged, read_snapshot}
use Rattle.snapshot.specs.Former.{former_judged, former_read}

module _ (kinds : List ℕ) (none : (k : ℕ) → k < length kinds → get_or kinds k 0 ≡ 4 → ⊥) where
  none-held : (n : ℕ) (out : List ℕ) → not_one kinds n out ≡ false
  unfolding not_one
  none-held n out = ap (λ b. b && any_below n (λ i. not (eqb (held_count kinds out i) 1))) (any_none (is_value kinds) (length kinds) (λ k h. ne_eqb (get_or kinds k 0) 4 (none k h)))

  judged-former : (n : ℕ) (out : List ℕ) → judged kinds n out ≡ former_judged kinds n out
  unfolding judged former_judged
  judged-former n out =
      ap (λ b. cond (eqb n 0) (Err Refusing.Snapshot) (cond (fits kinds n out) (cond (twice kinds n out) (Err Refusing.Twice) (cond b (Err Refusing.Held) (Ok n))) (Err Refusing.Entry))) (none-held n out)

  pub read-former : (line s out : List ℕ) → read_snapshot line kinds s out ≡ former_read line kinds s out
  unfolding read_snapshot former_read
  read-former line s out = judged-former (line_count line (length kinds) s out) (line_store line (length kinds) s out)
