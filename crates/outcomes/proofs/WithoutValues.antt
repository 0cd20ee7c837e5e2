-- What sheets without values keep at the public operations: Snapshot answers as in document 01, and the snapshots that demand 3 speaks of are those that it spoke of. (Table, Book, List and
-- Verdict go by the tableau: `judged-before` of prepare.) Assumes nothing.
use mathlib.Core.Path.{◌≡◌, sym, subst}
use mathlib.Core.Logic.{◌↔◌}
use mathlib.Core.List.Memᴰ
use mathlib.Core.List.{List, Memᴰ}
use Prim.Native.Nat.{ℕ, ◌<◌}
use lib.Dec.{eqb}
use lib.ListN.{length, get_or, replicate}
use borrow.Author.Tests.{eq-eqb}
use Rattle.ctl.specs.Snapshot.{Snapshot, NamesSingle, ValuesSingle}
use Rattle.ctl.specs.Demand3.{GlobalsHold}
use Rattle.ctl.proofs.BoolLaws.{T_true}
use Rattle.ctl.proofs.ListLaws.{kept-below}
use Rattle.ctl.proofs.Unchanged.{no-rule}
use Rattle.layout.specs.Layout.{line_of}
use Rattle.head.specs.Head.{kinds}
use Rattle.sheet.specs.Reading.{formulas, globals_of, is_name}
use Rattle.sheet.proofs.FormerLaws.{no-values}
use Rattle.snapshot.specs.Former.{former_read}
use Rattle.snapshot.proofs.FormerLaws.{read-former}
use Rattle.prepare.proofs.FormerLaws.{WithoutValues}
use Rattle.outcomes.specs.Outcomes.{snapshot_read}
use Rattle.outcomes.specs.Demands.{Speaks}

module _ (s : List ℕ) (none : WithoutValues s) where
  no_value : (k : ℕ) → k < length (kinds s) → get_or (kinds s) k 0 ≡ 4 → ⊥
  no_value k h e =
      Memᴰ.not-nil (subst (λ l. Memᴰ k l) (no-values s none)
      ((kept-below (λ j. eqb (get_or (kinds s) j 0) 4) (length (kinds s)) k).1 (h, T_true (eqb (get_or (kinds s) k 0) 4) (eq-eqb (get_or (kinds s) k 0) 4 e))))

  pub read-before : (t : List ℕ) → snapshot_read s t ≡ former_read (line_of s 0) (kinds s) t (replicate 128 0)
  read-before t = read-former (kinds s) no_value (line_of s 0) t (replicate 128 0)

  pub speaks-before : (g : Snapshot) → Speaks s g ↔ (NamesSingle (is_name s) g × GlobalsHold (globals_of (formulas s)) g)
  speaks-before g = (
    λ x. (x.0.names-single, x.1),
    λ x. (record { names-single = x.0; values-single = subst (λ vs. ValuesSingle vs g) (sym (no-values s none)) (no-rule g) }, x.1),
  )
