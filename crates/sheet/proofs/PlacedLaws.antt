-- The formulas of a sheet that was read stand in the table. Assumes nothing.
use mathlib.Core.Path.{◌≡◌, refl, sym, ap, ◌∙◌}
use mathlib.Core.List.{List, [], ◌∷◌, ◌++◌, append_assoc, append-nil}
use Prim.Native.Nat.{ℕ, ◌+◌, ◌≤◌}
use native.Mathlib.Omega.{arith}
use lib.ListN.{length, take, length-append}
use lib.Seq.{length-take-le, take-take, take-append_seam}
use Rattle.syntax.specs.Raw.{Raw, size, nodes}
use Rattle.syntax.proofs.TreeLaws.{length-nodes, wrote-held, at-nodes}
use Rattle.sheet.specs.Sheet.{nodes_from, ends_from, ends_of, Placed, trees, Stored}

pub record More (ns all : List ℕ) : Type 0 where
  pub rest : List ℕ
  pub is : all ≡ ns ++ rest

more : (ns : List ℕ) (ps : List Raw) → More ns (nodes_from ns ps)
unfolding nodes_from
more ns [] = record { rest = []; is = sym (append-nil ns) }
more ns (p ∷ ps) =
    let m = more (ns ++ nodes (length ns) p) ps in
    record { rest = nodes (length ns) p ++ m.rest; is = m.is ∙ append_assoc ns (nodes (length ns) p) m.rest }

module _ (tab : List ℕ) (m : ℕ) (inside : m ≤ length tab) where
  pub placed : (ps : List Raw) (n : ℕ) → n ≤ length tab → take m tab ≡ nodes_from (take n tab) ps → Placed tab ps (ends_of n ps)
  unfolding Placed ends_of nodes_from
  placed [] n h e = tt
  placed (p ∷ ps) n h e =
      let l : length (take n tab) ≡ n = length-take-le n tab h in
      let xs : List ℕ = take n tab ++ nodes n p in
      let e' : take m tab ≡ nodes_from (take n tab ++ nodes n p) ps = e ∙ rw l in
      let k : length (take n tab ++ nodes n p) ≡ n + size p = length-append (take n tab) (nodes n p) ∙ rw (l, length-nodes n p) in
      let w : More (take n tab ++ nodes n p) (nodes_from (take n tab ++ nodes n p) ps) = more (take n tab ++ nodes n p) ps in
      let lm : length (take m tab) ≡ m = length-take-le m tab inside in
      let all : take m tab ≡ (take n tab ++ nodes n p) ++ w.rest = e' ∙ w.is in
      let fits : n + size p ≤ m = omega (arith, lm, k, ap length all ∙ length-append (take n tab ++ nodes n p) w.rest) in
      let front : take (n + size p) tab ≡ take n tab ++ nodes n p =
      sym (take-take (n + size p) m tab fits) ∙ ap (λ (t : List ℕ). take (n + size p) t) all ∙ ap (λ (i : ℕ). take i ((take n tab ++ nodes n p) ++ w.rest)) (sym k)
      ∙ take-append_seam (take n tab ++ nodes n p) w.rest in (
        at-nodes tab n p (wrote-held n (n + size p) (nodes n p) tab tab h (rw length-nodes) (record { front = front; rest = refl })),
        placed ps (n + size p) (omega arith) (e' ∙ ap (λ (t : List ℕ). nodes_from t ps) (sym front)),
      )

-- the ends, from the front
ends-from : (es : List ℕ) (n : ℕ) (ps : List Raw) → ends_from es n ps ≡ es ++ ends_of n ps
unfolding ends_from ends_of
ends-from es n [] = sym (append-nil es)
ends-from es n (p ∷ ps) = ends-from (es ++ ((n + size p) ∷ [])) (n + size p) ps ∙ append_assoc es ((n + size p) ∷ []) (ends_of (n + size p) ps)

-- what was stored, as its readers use it
pub stored-ends : (decl : List ℕ) (ts : List (List ℕ)) (k n : ℕ) (ends tab : List ℕ) → Stored decl ts k n ends tab → take k ends ≡ ends_of 0 (trees decl ts)
stored-ends decl ts k n ends tab x = x.ends-are ∙ ends-from [] 0 (trees decl ts)

pub stored-placed : (decl : List ℕ) (ts : List (List ℕ)) (k n : ℕ) (ends tab : List ℕ) → Stored decl ts k n ends tab → Placed tab (trees decl ts) (take k ends)
stored-placed decl ts k n ends tab x =
    rw (stored-ends decl ts k n ends tab x) (placed tab n x.inside (trees decl ts) 0 (omega arith) x.nodes-are)
