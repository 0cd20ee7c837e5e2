-- What the elimination may take for granted of a tableau: its closure is one, the lean has all that it should, and place k of the lean counts 2 ^ k. Assumes nothing.
use mathlib.Core.Path.{◌≡◌, refl, sym, ap, ◌∙◌, subst}
use mathlib.Core.Logic.{◌⊎◌, inl, inr}
use mathlib.Core.Bool.{Bool, true, false, ◌||◌}
use mathlib.Core.List.Memᴰ
use mathlib.Core.List.{List, [], ◌∷◌, ◌++◌}
use Prim.Native.Nat.{ℕ, zero, suc, ◌<◌}
use native.Mathlib.Omega.{arith}
use lib.ListN.{length, get_or}
use lib.Dec.{T, eqb}
use Rattle.ctl.specs.Lists.{◌∈◌}
use Rattle.ctl.specs.Sorting.{Unique, more}
use Rattle.ctl.specs.Formula.{Form, tru, lit, ex, ax}
use Rattle.ctl.specs.Modes.{single}
use Rattle.ctl.specs.Equality.{tag, num, right, form_eq}
use Rattle.ctl.specs.Expansion.{expand, parts}
use Rattle.ctl.specs.Closure.{closure}
use Rattle.ctl.specs.Lean.{is_letter, is_next, with_values, lean}
use Rattle.ctl.specs.Types.{in_type, index_of, holds, truth}
use Rattle.ctl.specs.Tableau.{Tableau, tableau_of}
use Rattle.ctl.proofs.BoolLaws.{T_true, and_0, and-1, or-out}
use Rattle.ctl.proofs.ListLaws.{get_d-in}
use Rattle.ctl.proofs.FormulaLaws.{form_eq-out, form_eq-refl, is-lit, is-ex, is-ax}
use Rattle.ctl.proofs.ModeLaws.{single-out}
use Rattle.ctl.proofs.ClosureLaws.{closure-saturated, closure-has, closure-unique}
use Rattle.ctl.proofs.LeanOrder.{with-unique, lean-members, lean-unique, lean-values}
use Rattle.ctl.proofs.TypeLaws.{truth-ex, truth-ax}

-- its closure has the parts and expansions of its members and the globals; its lean has the symbols and the single-mode EX and AX of the closure, and all values, each once
pub record Proper (S : Tableau) : Type 0 where
  pub part : (p q : Form) → p ∈ S.cl → q ∈ parts p → q ∈ S.cl
  pub expansion : (p : Form) → p ∈ S.cl → expand p ∈ S.cl
  pub globals-in : (p : Form) → p ∈ S.globals → p ∈ S.cl
  pub letter : (k : ℕ) → lit k ∈ S.cl → lit k ∈ S.ln
  pub single-ex : (A : ℕ) (p : Form) → ex A p ∈ S.cl → T (single A) → ex A p ∈ S.ln
  pub single-ax : (A : ℕ) (p : Form) → ax A p ∈ S.cl → T (single A) → ax A p ∈ S.ln
  pub value : (k : ℕ) → k ∈ S.values → lit k ∈ S.ln
  pub once : Unique S.ln

module _ (spell : ℕ → List ℕ) (name : ℕ → Bool) (values : List ℕ) (globals goals : List Form) where
  abbrev C : List Form
  C = closure (globals ++ goals)

  -- a closure member that is a symbol, or EX or AX over one mode, is in the lean
  in-lean : (p : Form) → p ∈ C → T (is_letter p || is_next p) → p ∈ lean spell (with_values values C)
  in-lean p m h = (lean-values spell values C p).1 (inl (m, h))

  -- the tableau of globals and goals is proper
  pub tableau-proper : Proper (tableau_of spell name values globals goals)
  unfolding tableau_of is_next
  tableau-proper = record {
    part = (closure-saturated (globals ++ goals)).part;
    expansion = (closure-saturated (globals ++ goals)).expansion;
    globals-in = λ p m. closure-has (globals ++ goals) (Memᴰ.append_left goals m);
    letter = λ k m. in-lean (lit k) m tt;
    single-ex = λ A p m s. in-lean (ex A p) m s;
    single-ax = λ A p m s. in-lean (ax A p) m s;
    value = λ k m. (lean-values spell values C (lit k)).1 (inr (k, m, refl));
    once = lean-unique spell (with_values values C) (with-unique C values (closure-unique (globals ++ goals)));
  }

-- ---- a lean member is true in exactly the types that have its place

pub index-place : (l : List Form) → Unique l → (k : ℕ) → k < length l → index_of (get_or l k tru) l ≡ k
unfolding index_of
index-place [] u k h = absurd (omega arith)
index-place (p ∷ l) (more g u) zero h = go (form_eq p p) (form_eq-refl p)
  where
    go : (b : Bool) → T b → ◌≡◌ {A = ℕ} (elim b as (λ c. ℕ) [ true ↦ 0 | false ↦ suc (index_of p l) ]) 0
    go true t = refl
    go false t = absurd t
index-place (p ∷ l) (more g u) (suc k) h = go (form_eq p (get_or l k tru)) refl (index-place l u k (omega arith))
  where
    go : (b : Bool) → form_eq p (get_or l k tru) ≡ b → index_of (get_or l k tru) l ≡ k → ◌≡◌ {A = ℕ} (elim b as (λ c. ℕ) [ true ↦ 0 | false ↦ suc (index_of (get_or l k tru) l) ]) (suc k)
    go true e r = absurd (g (Memᴰ.cast (form_eq-out p (get_or l k tru) (T_true (form_eq p (get_or l k tru)) e)) (get_d-in tru l k (omega arith))))
    go false e r = ap suc r

module _ (ln : List Form) (t : ℕ) where
  letter-holds : (p : Form) → T (is_letter p) → truth ln t p ≡ holds ln t p
  unfolding truth
  letter-holds p h = subst (λ q. truth ln t q ≡ holds ln t q) (sym (is-lit p h)) refl

  ex-holds : (A : ℕ) (p : Form) → T (single A) → truth ln t (ex A p) ≡ holds ln t (ex A p)
  ex-holds A p h = let r = single-out A h in subst (λ B. truth ln t (ex B p) ≡ holds ln t (ex B p)) (sym r.2) (truth-ex ln t r.1 p)

  ax-holds : (A : ℕ) (p : Form) → T (single A) → truth ln t (ax A p) ≡ holds ln t (ax A p)
  ax-holds A p h = let r = single-out A h in subst (λ B. truth ln t (ax B p) ≡ holds ln t (ax B p)) (sym r.2) (truth-ax ln t r.1 p)

  next-holds : (p : Form) → T (is_next p) → truth ln t p ≡ holds ln t p
  unfolding is_next
  next-holds p h = go (or-out (eqb (tag p) 6) (eqb (tag p) 7) (and_0 (eqb (tag p) 6 || eqb (tag p) 7) (single (num p)) h))
    where
      s : T (single (num p))
      s = and-1 (eqb (tag p) 6 || eqb (tag p) 7) (single (num p)) h

      go : T (eqb (tag p) 6) ⊎ T (eqb (tag p) 7) → truth ln t p ≡ holds ln t p
      go (inl k) = subst (λ q. truth ln t q ≡ holds ln t q) (sym (is-ex p k)) (ex-holds (num p) (right p) s)
      go (inr k) = subst (λ q. truth ln t q ≡ holds ln t q) (sym (is-ax p k)) (ax-holds (num p) (right p) s)

module _ (spell : ℕ → List ℕ) (name : ℕ → Bool) (values : List ℕ) (globals goals : List Form) where
  -- place k of the lean counts 2 ^ k
  pub lean-place : (t k : ℕ) → k < length (tableau_of spell name values globals goals).ln
      → truth (tableau_of spell name values globals goals).ln t (get_or (tableau_of spell name values globals goals).ln k tru) ≡ in_type t k
  unfolding tableau_of holds
  lean-place t k h =
      member (or-out (is_letter p) (is_next p) ((lean-members spell cl p).0 (get_d-in tru ln k h)).1)
      ∙ ap (in_type t) (index-place ln (tableau-proper spell name values globals goals).once k h)
    where
      cl : List Form
      cl = with_values values (closure (globals ++ goals))

      ln : List Form
      ln = lean spell cl

      p : Form
      p = get_or ln k tru

      member : T (is_letter p) ⊎ T (is_next p) → truth ln t p ≡ holds ln t p
      member (inl l) = letter-holds ln t p l
      member (inr l) = next-holds ln t p l
