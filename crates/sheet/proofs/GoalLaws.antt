-- The goal's text of a sheet that is not refused: it is read as the goal, and so is never empty. Assumes nothing.
use mathlib.Core.Path.{◌≡◌, refl, sym, ap, ◌∙◌, subst}
use mathlib.Core.List.Memᴰ
use mathlib.Core.List.{List, [], ◌∷◌, map}
use Prim.Native.Nat.{ℕ, ◌<◌}
use native.Mathlib.Omega.{arith}
use lib.ListN.{length, length-append}
use Rattle.token.specs.declared.Tok.{Tok}
use Rattle.token.specs.declared.Tok.TheVariants.{Infix}
use Rattle.token.proofs.TokensLaws.{tokens-length}
use Rattle.ctl.specs.Lists.{◌∈◌}
use Rattle.ctl.specs.Raw.{Raw}
use Rattle.grammar.specs.Grammar.{Tree, IsUnit, is_zero, is_one, is-letter, is-bracketed, is-neg, is-modal, is-path, IsFormula, is-unit, is-operand, is-infixed, Line}
use Rattle.layout.specs.Layout.{texts, last_of, goal_of as goalText}
use Rattle.sheet.specs.Refusal.{decls, read, read_refusal}
use Rattle.sheet.specs.Reading.{formulas, goal_of}
use Rattle.sheet.specs.ReadAs.{ReadAs}
use Rattle.sheet.proofs.FormulaTrees.{formula_of, formulas-map, text-read}
use Rattle.sheet.proofs.SizeLaws.{texts-some}

-- ---- a formula has a token, and so a byte
unit-some : {ts : List Tok} {t : Tree} → IsUnit ts t → 0 < length ts
unit-some is_zero = omega arith
unit-some is_one = omega arith
unit-some is-letter = omega arith
unit-some (is-bracketed d) = omega arith
unit-some (is-neg d) = omega arith
unit-some (is-modal d) = omega arith
unit-some (is-path d e) = omega arith

formula-some : {l : ℕ} {ts : List Tok} {t : Tree} → IsFormula l ts t → 0 < length ts
formula-some (is-unit d) = unit-some d
formula-some (is-operand d) = formula-some d
formula-some (is-infixed {l} {ts} {us} d e) = let h = formula-some d in omega (arith, length-append ts (Infix l ∷ us))

pub line-some : (s : List ℕ) (t : Tree) → Line s t → 0 < length s
line-some s t d = let h = formula-some d in omega (arith, tokens-length s)

-- ---- the last text is the goal's
last-in : (t : List ℕ) (ts : List (List ℕ)) → 0 < length ts → last_of t ts ∈ ts
unfolding last_of
last-in t [] h = absurd (omega arith)
last-in t (u ∷ []) h = Memᴰ.head refl
last-in t (u ∷ (v ∷ r)) h = Memᴰ.tail (last-in u (v ∷ r) (omega arith))

goal-last : (f : List ℕ → Raw) (t : List ℕ) (ts : List (List ℕ)) → 0 < length ts → goal_of (map f ts) ≡ f (last_of t ts)
unfolding goal_of last_of
goal-last f t [] h = absurd (omega arith)
goal-last f t (u ∷ []) h = refl
goal-last f t (u ∷ (v ∷ r)) h = goal-last f u (v ∷ r) (omega arith)

module _ (s : List ℕ) (z : read_refusal s ≡ 0) where
  -- the goal is what the goal's text is read as
  pub goal-derived : ReadAs (decls s) (goalText s) (goal_of (formulas s))
  goal-derived =
      let e : goal_of (formulas s) ≡ formula_of (read (decls s) (goalText s)) = ap goal_of (formulas-map s z) ∙ goal-last (λ t. formula_of (read (decls s) t)) [] (texts s) (texts-some s z) in
      subst (ReadAs (decls s) (goalText s)) (sym e) (text-read s z (goalText s) (last-in [] (texts s) (texts-some s z)))

  -- so it is not empty
  pub goal-some : 0 < length (goalText s)
  goal-some = let x = goal-derived in line-some (goalText s) x.tree x.derives
