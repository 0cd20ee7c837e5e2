-- The formulas of a sheet that was read, in the table: how many there are, how large they are, and where each one's own node is. Assumes nothing.
use mathlib.Core.Path.{◌≡◌, refl, ap, ◌∙◌}
use mathlib.Core.Logic.{◌⊎◌, inl, inr}
use mathlib.Core.List.Memᴰ
use mathlib.Core.List.{List, [], ◌∷◌, ◌++◌}
use Prim.Native.Nat.{ℕ, zero, suc, ◌+◌, ◌-◌, ◌≤◌, ◌<◌}
use native.Mathlib.Omega.{arith}
use lib.ListN.{length, get_or, take, drop, length-append, length-drop, length-map}
use lib.Seq.{length-take-le}
use Rattle.ctl.specs.Lists.{◌∈◌}
use Rattle.ctl.specs.Raw.{Raw}
use Rattle.syntax.specs.Raw.{size, nodes, At}
use Rattle.syntax.proofs.TreeLaws.{length-nodes}
use Rattle.layout.specs.Layout.{lines, texts}
use Rattle.layout.proofs.FormulaTexts.{texts-length}
use Rattle.layout.proofs.FrontLaws.{layout-parts}
use Rattle.sheet.specs.Refusal.{decls, read, read_refusal}
use Rattle.sheet.specs.Sheet.{nodes_from, ends_of, Placed, Stored}
use Rattle.sheet.specs.Reading.{formulas}
use Rattle.sheet.proofs.RefusalLaws.{right-layout}
use Rattle.sheet.proofs.FormulaTrees.{formula_of, formulas-map}
use Rattle.sheet.proofs.PlacedLaws.{stored-ends, stored-placed}

-- the nodes of some formulas
unfoldable pub total : List Raw → ℕ
total [] = 0
total (p ∷ ps) = size p + total ps

nodes-total : (ns : List ℕ) (ps : List Raw) → length (nodes_from ns ps) ≡ length ns + total ps
unfolding nodes_from total
nodes-total ns [] = omega arith
nodes-total ns (p ∷ ps) =
    let h = nodes-total (ns ++ nodes (length ns) p) ps in
    let a = length-append ns (nodes (length ns) p) in
    let b = length-nodes (length ns) p in
    omega arith

size-total : (ps : List Raw) (p : Raw) → p ∈ ps → size p ≤ total ps
unfolding total
size-total [] p m = absurd (Memᴰ.not-nil m)
size-total (q ∷ ps) p m = go (Memᴰ.cases_cons m) (size-total ps p)
  where
    go : (p ≡ q) ⊎ (p ∈ ps) → (p ∈ ps → size p ≤ total ps) → size p ≤ size q + total ps
    go (inl e) rec = let k : size p ≡ size q = ap size e in omega arith
    go (inr i) rec = let k = rec i in omega arith

ends-length : (n : ℕ) (ps : List Raw) → length (ends_of n ps) ≡ length ps
unfolding ends_of
ends-length n [] = refl
ends-length n (p ∷ ps) = ap suc (ends-length (n + size p) ps)

ends-within : (n : ℕ) (ps : List Raw) (j : ℕ) → j < length ps → get_or (ends_of n ps) j 0 ≤ n + total ps
unfolding ends_of total
ends-within n [] j h = absurd (omega arith)
ends-within n (p ∷ ps) zero h = omega arith
ends-within n (p ∷ ps) (suc j) h = let k = ends-within (n + size p) ps j (omega arith) in omega arith

placed_at : (tab : List ℕ) (ps : List Raw) (es : List ℕ) (j : ℕ) → Placed tab ps es → j < length ps → At tab (get_or ps j Raw.zero) (get_or es j 0 - 1)
unfolding Placed
placed_at tab [] es j x h = absurd (omega arith)
placed_at tab (p ∷ ps) [] j x h = absurd x
placed_at tab (p ∷ ps) (e ∷ es) zero x h = x.0
placed_at tab (p ∷ ps) (e ∷ es) (suc j) x h = placed_at tab ps es j x.1 (omega arith)

module _ (s : List ℕ) (z : read_refusal s ≡ 0) where
  -- there are as many formulas as texts
  pub formulas-many : length (formulas s) ≡ length (texts s)
  formulas-many = ap length (formulas-map s z) ∙ length-map (texts s) (λ t. formula_of (read (decls s) t))

  pub lines-within : (3 ≤ length (lines s)) × (length (lines s) ≤ 7)
  lines-within = let a = layout-parts s (right-layout s z) in (a.1, a.2)

  -- there are 1 to 5 of them
  pub texts-some : 0 < length (texts s)
  texts-some = let a = lines-within in let b = texts-length (drop 2 (lines s)) in let c = length-drop 2 (lines s) in omega arith

  pub texts-five : length (texts s) ≤ 5
  texts-five = let a = lines-within in let b = texts-length (drop 2 (lines s)) in let c = length-drop 2 (lines s) in omega arith

  module _ {k n : ℕ} {ends tab : List ℕ} (few : k ≡ length (texts s)) (x : Stored (decls s) (texts s) k n ends tab) where
    abbrev ps : List Raw
    ps = formulas s

    total-is : n ≡ total ps
    unfolding nodes_from
    total-is =
        let a = length-take-le n tab x.inside in
        let b = ap length x.nodes-are in
        let c = nodes-total [] ps in
        omega arith

    pub formula-size : (p : Raw) → p ∈ ps → size p ≤ length tab
    formula-size p m = let a = size-total ps p m in let b = total-is in let c = x.inside in omega arith

    pub end-within : (j : ℕ) → j < k → get_or (take k ends) j 0 ≤ length tab
    end-within j h =
        let a = formulas-many in
        let b = ends-within 0 ps j (omega arith) in
        let c : get_or (take k ends) j 0 ≡ get_or (ends_of 0 ps) j 0 = ap (λ (l : List ℕ). get_or l j 0) (stored-ends (decls s) (texts s) k n ends tab x) in
        let d = total-is in
        let e = x.inside in
        omega arith

    pub formula-at : (j : ℕ) → j < k → At tab (get_or ps j Raw.zero) (get_or (take k ends) j 0 - 1)
    formula-at j h = let a = formulas-many in placed_at tab ps (take k ends) j (stored-placed (decls s) (texts s) k n ends tab x) (omega arith)
