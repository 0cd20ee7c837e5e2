-- What document 01 answers on a snapshot's text: what request §3 is compared with. Only theorems that compare with it cite it. Assumes nothing.
use Rattle.std.specs.Prelude.{cond, List, ℕ, eqb, length, Result, Ok, Err}
use Rattle.snapshot_text.specs.Lines.{line_count, line_store}
use Rattle.refusal.specs.declared.Refusal.{Refusal}
use Rattle.refusal.specs.declared.Refusal.TheVariants as Refusing
use Rattle.snapshot.specs.Read.{fits, twice}

unfoldable pub former_judged : List ℕ → ℕ → List ℕ → Result ℕ Refusal
unfolding fits twice
former_judged kinds n out =
    cond (eqb n 0) (Err Refusing.Snapshot)
    (cond (fits kinds n out) (cond (twice kinds n out) (Err Refusing.Twice) (Ok n))
    (Err Refusing.Entry))

unfoldable pub former_read : List ℕ → List ℕ → List ℕ → List ℕ → Result ℕ Refusal
unfolding former_judged
former_read line kinds s out = former_judged kinds (line_count line (length kinds) s out) (line_store line (length kinds) s out)
