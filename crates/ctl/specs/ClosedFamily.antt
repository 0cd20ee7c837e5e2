-- Closed families of types, in document 01's words, over any closure, truth and links. Assumes nothing.
use Rattle.std.specs.Prelude.{◌⊎◌, Bool, ◌&&◌, List, ℕ, zero, suc, T}
use Rattle.ctl.specs.Lists.{◌∈◌, any_of, all_of}
use Rattle.ctl.specs.Formula.{Form, ex, eu, au}
use Rattle.ctl.specs.Modes.{has_mode, modes, single}

-- u is linked to t by one of the modes A; `lk` links types by a mode
unfoldable pub linked : (ℕ → ℕ → ℕ → Bool) → ℕ → ℕ → ℕ → Bool
unfolding modes
linked lk A t u = any_of (λ m. lk m t u) (modes A)

-- B is one mode, and among the modes A
unfoldable pub one_of : ℕ → ℕ → Bool
unfolding single modes
one_of A B = single B && all_of (has_mode A) (modes B)

-- `tr` says which formulas are true in a type, `fam` is the family
module _ (tr : ℕ → Form → Bool) (lk : ℕ → ℕ → ℕ → Bool) (fam : List ℕ) where
  -- a chain of members, each step linked by one of the modes, p true up to one with q
  pub data Chain (A : ℕ) (p q : Form) : ℕ → Type 0 where
    stop : {t : ℕ} → t ∈ fam → T (tr t q) → Chain A p q t
    step : {t u : ℕ} → t ∈ fam → T (tr t p) → T (linked lk A t u) → Chain A p q u → Chain A p q t

module _ (cl : List Form) (tr : ℕ → Form → Bool) (lk : ℕ → ℕ → ℕ → Bool) where
  module _ (fam : List ℕ) where
    -- A rank of at most n. Rank 0: the right operand is true. Rank n + 1: the left one is, and for each true closure member EX
    -- over one of the modes there is a member linked by it, of rank at most n, with its body
    abbrev pub Ranked : ℕ → Form → Form → ℕ → ℕ → Type 0
    Ranked A p q zero t = (t ∈ fam) × T (tr t q)
    Ranked A p q (suc n) t =
        Ranked A p q n t
        ⊎ ((t ∈ fam) × T (tr t p)
        × ((B : ℕ) (v : Form) → ex B v ∈ cl → T (one_of A B) → T (tr t (ex B v)) → (u : ℕ) × T (linked lk B t u) × T (tr u v) × Ranked A p q n u))

    -- what a type needs: for each true EX over one mode a linked member with the body, for each true EU a chain, for each true AU a rank
    pub record Meets (t : ℕ) : Type 0 where
      pub exs : (A : ℕ) (p : Form) → ex A p ∈ cl → T (single A) → T (tr t (ex A p)) → (u : ℕ) × (u ∈ fam) × T (linked lk A t u) × T (tr u p)
      pub eus : (A : ℕ) (p q : Form) → eu A p q ∈ cl → T (tr t (eu A p q)) → Chain tr lk fam A p q t
      pub aus : (A : ℕ) (p q : Form) → au A p q ∈ cl → T (tr t (au A p q)) → (n : ℕ) × Ranked A p q n t

  -- a family of start types is closed if every member has what it needs
  pub record Closed (start fam : List ℕ) : Type 0 where
    pub within : (t : ℕ) → t ∈ fam → t ∈ start
    pub meets : (t : ℕ) → t ∈ fam → Meets fam t
