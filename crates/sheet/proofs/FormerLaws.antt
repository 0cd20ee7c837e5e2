-- A text that document 01's grammar derived is read as the formula that it was: the tree is the same, and a letter stands for the symbol that lines 1 and 2 declare it as
-- (KindLaws); and a sheet without the word `value` on line 2 has no values. Assumes nothing.
use mathlib.Core.Path.{◌≡◌, sym, ap, ◌∙◌}
use mathlib.Core.Bool.{Bool, true, false, cond}
use mathlib.Core.List.{List, []}
use Prim.Native.Nat.{ℕ, ◌<◌}
use native.Mathlib.Omega.{arith}
use lib.Dec.{eqb, eqb→eq}
use lib.ListN.{length, get_or}
use Rattle.ctl.proofs.ListLaws.{none_in, kept-below}
use Rattle.ctl.specs.Raw.{Raw}
use Rattle.layout.specs.Text.{same, split}
use Rattle.layout.specs.Layout.{line_of, texts}
use Rattle.head.specs.Head.{space, mark_word, name_word, field_word, value_word, kind_of, kinds}
use Rattle.head.specs.Former.{NoValue}
use Rattle.grammar.specs.Grammar.{Tree, resolve}
use Rattle.grammar.specs.Former.{FormerLine}
use Rattle.grammar.proofs.FormerLaws.{line-former}
use Rattle.sheet.specs.Refusal.{decls, read_refusal}
use Rattle.sheet.specs.Reading.{formulas, values_in}
use Rattle.sheet.proofs.FormulaTrees.{formula-derived}
use Rattle.sheet.proofs.KindLaws.{sheet-kinds}

pub formula-former : (s : List ℕ) → read_refusal s ≡ 0 → (i : ℕ) → i < length (texts s) → (t : Tree) → FormerLine (get_or (texts s) i []) t → get_or (formulas s) i Raw.zero ≡ resolve (decls s) t
formula-former s z i h t d = let r = formula-derived s z i h in r.is ∙ ap (resolve (decls s)) (sym (r.only t (line-former (get_or (texts s) i []) t d)))

-- a word other than `value` is of no kind 4
other-kind : (w : List ℕ) → same w value_word ≡ false → kind_of w ≡ 4 → ⊥
unfolding kind_of
other-kind w e f = go (same w mark_word) (same w name_word) (same w field_word) (rw e at f)
  where
    go : (a b c : Bool) → ◌≡◌ {A = ℕ} (cond a 1 (cond b 2 (cond c 3 0))) 4 → ⊥
    go true b c q = omega arith
    go false true c q = omega arith
    go false false true q = omega arith
    go false false false q = omega arith

pub no-values : (s : List ℕ) → NoValue (split space (line_of s 1)) → values_in s ≡ []
no-values s f =
    none_in (values_in s) (λ k m.
    let r = (kept-below (λ k. eqb (get_or (kinds s) k 0) 4) (length (kinds s)) k).0 m in
    sheet-kinds (λ n. n ≡ 4 → ⊥) s (λ w i before e. other-kind w (f w i)) k r.0 (eqb→eq (get_or (kinds s) k 0) 4 r.1))
