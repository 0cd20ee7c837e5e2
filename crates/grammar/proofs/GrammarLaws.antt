-- The grammar and the reader: `line_at` accepts exactly the lines that the grammar derives, with their tree, and the tree is unique.
-- Whether a line parses does not depend on the declarations. Assumes nothing.
use mathlib.Core.Path.{◌≡◌, refl}
use mathlib.Core.Logic.{◌↔◌}
use mathlib.Core.List.{List, [], ◌∷◌, ◌++◌, append-nil}
use Prim.Native.Nat.{ℕ, ◌+◌, ◌*◌, ◌≤◌}
use native.Mathlib.Omega.{arith}
use lib.ListN.{length}
use Rattle.token.specs.declared.Tok.{Tok}
use Rattle.token.specs.declared.Tok.TheVariants.{End}
use Rattle.token.specs.Token.{on_end}
use Rattle.token.specs.Tokens.{tokens}
use Rattle.token.proofs.TokensLaws.{first, NoEnd, tokens-no-end, rest-no-end, tokens-length}
use Rattle.syntax.specs.Raw.{Raw}
use Rattle.syntax.specs.Parse.{Out, good, bad, line_at}
use Rattle.grammar.specs.Grammar.{Tree, IsFormula, Line, resolve, low_of}
use Rattle.grammar.proofs.TreeReader.{Found, tree, nothing, onward, read_formula, read_all}
use Rattle.grammar.proofs.TreeMatches.{Matches, both-none, both_found, line-match}
use Rattle.grammar.proofs.TreeSound.{Sound, none_found, some-found, formula-sound}
use Rattle.grammar.proofs.TreeComplete.{clean_end, formula-read}

-- ---- all the tokens of a line
data Derived (ts : List Tok) : Found → Type 0 where
  not-derived : Derived ts nothing
  derived : (t : Tree) (r : List Tok) → IsFormula 0 ts t → Derived ts (tree t r)

end_token : (us : List Tok) (t : Tree) (k : Tok) (r : List Tok) → (k ≡ End → ⊥) → Derived (us ++ k ∷ r) (on_end k (tree t (k ∷ r)) nothing)
end_token us t End r h = absurd (h refl)
end_token us t _ r h = not-derived

end-derived : (us r : List Tok) (t : Tree) → IsFormula 0 us t → NoEnd r → Derived (us ++ r) (on_end (first r) (tree t r) nothing)
end-derived us [] t d h = derived t [] (rw (append-nil us) d)
end-derived us (k ∷ r) t d h = end_token us t k r h.0

all-derived : {ts : List Tok} {o : Found} → Sound (IsFormula 0) ts o → NoEnd ts → Derived ts (onward o (λ t r. on_end (first r) (tree t r) nothing))
all-derived none_found h = not-derived
all-derived (some-found us r t d) h = end-derived us r t d (rest-no-end us r h)

-- the tree of a line
read_tree : List ℕ → Found
read_tree s = read_all (length s + 1) (5 * length s + 5) (tokens s)

tree-derived : (s : List ℕ) → Derived (tokens s) (read_tree s)
unfolding read_tree read_all
tree-derived s = all-derived (formula-sound (length s + 1) (5 * length s + 5) 0 (tokens s)) (tokens-no-end s)

tree-matches : (s decl : List ℕ) → Matches s decl (read_tree s) (line_at s decl 0)
unfolding read_tree
tree-matches s decl = line-match s decl

tree-found : (s : List ℕ) (t : Tree) → Line s t → read_tree s ≡ tree t []
unfolding read_tree read_all
tree-found s t d =
    let h : length (tokens s) ≤ length s = tokens-length s in
    let e : read_formula (length s + 1) (5 * length s + 5) 0 (tokens s) ≡ tree t [] = rw append-nil at (formula-read (length s + 1) d [] (5 * length s + 5) (omega arith) (omega arith) (clean_end 0)) in
    rw e refl

-- ---- the theorems
-- a formula that is read is the tree that the grammar derives, its symbols looked up
pub line-derives : (s decl : List ℕ) (p : Raw) (e low : ℕ) → line_at s decl 0 ≡ good p e low → (t : Tree) × Line s t × (p ≡ resolve decl t) × (low ≡ low_of decl t)
line-derives s decl p e low h = go (tree-matches s decl) (tree-derived s) h
  where
    go : {o : Found} {x : Out} → Matches s decl o x → Derived (tokens s) o → x ≡ good p e low → (t : Tree) × Line s t × (p ≡ resolve decl t) × (low ≡ low_of decl t)
    go both-none d h = let z : ◌≡◌ {A = ℕ} 0 1 = cc in absurd (omega arith)
    go (both_found t i) (derived u r d) h = (t, d, cc, cc)

-- a line that the grammar derives is read, with its tree
pub line-parses : (s decl : List ℕ) (t : Tree) → Line s t → (e : ℕ) × (line_at s decl 0 ≡ good (resolve decl t) e (low_of decl t))
line-parses s decl t d = go (tree-matches s decl) (tree-found s t d)
  where
    go : {o : Found} {x : Out} → Matches s decl o x → o ≡ tree t [] → (e : ℕ) × (x ≡ good (resolve decl t) e (low_of decl t))
    go both-none h = let z : ◌≡◌ {A = ℕ} 0 1 = cc in absurd (omega arith)
    go (both_found u i) h = let e : u ≡ t = cc in (i, rw e refl)

-- a line has one tree at most
pub line-unique : (s : List ℕ) (t u : Tree) → Line s t → Line s u → t ≡ u
line-unique s t u d d' = let a = tree-found s t d in let b = tree-found s u d' in cc

-- a line is refused just where the grammar derives nothing, whatever the declarations are
pub line_refused : (s decl : List ℕ) → (line_at s decl 0 ≡ bad) ↔ ((t : Tree) → Line s t → ⊥)
line_refused s decl = ((λ h t d. there h t (line-parses s decl t d)), (λ n. go (line_at s decl 0) refl n))
  where
    there : line_at s decl 0 ≡ bad → (t : Tree) → (e : ℕ) × (line_at s decl 0 ≡ good (resolve decl t) e (low_of decl t)) → ⊥
    there h t g = let c : line_at s decl 0 ≡ good (resolve decl t) g.0 (low_of decl t) = g.1 in let z : ◌≡◌ {A = ℕ} 0 1 = cc in omega arith

    go : (x : Out) → line_at s decl 0 ≡ x → ((t : Tree) → Line s t → ⊥) → line_at s decl 0 ≡ bad
    go (good p e low) h n = let r = line-derives s decl p e low h in absurd (n r.0 r.1)
    go bad h n = h
