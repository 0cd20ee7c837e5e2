-- The elimination is sound: the types of a snapshot's nodes are a closed family under every naming that fits, so they survive. Assumes nothing.
use mathlib.Core.Path.{◌≡◌, refl, sym, subst}
use mathlib.Core.Logic.{◌⊎◌, inl, inr}
use mathlib.Core.Bool.{Bool, true, false, ◌&&◌, ◌||◌}
use mathlib.Core.List.{List, map}
use Prim.Native.Nat.{ℕ, zero, suc, ◌+◌, ◌-◌, ◌^◌, ◌<◌}
use native.Mathlib.Omega.{arith}
use lib.Dec.{T, eqb→eq, ltb}
use borrow.Author.Tests.{ltb-true, ltb-false}
use Rattle.ctl.specs.Lists.{◌∈◌, all_of, imp, below}
use Rattle.ctl.specs.Formula.{Form, tru, fls, lit, nlit, and, or, ex, ax, eu, au, er, ar}
use Rattle.ctl.specs.Modes.{has_mode, modes, single}
use Rattle.ctl.specs.Expansion.{parts}
use Rattle.ctl.specs.Snapshot.{Snapshot, ValuesSingle, step}
use Rattle.ctl.specs.Meaning.{Leads}
use Rattle.ctl.specs.Types.{truth}
use Rattle.ctl.specs.Links.{link_rule, link, link_by}
use Rattle.ctl.specs.Tableau.{Tableau, obeys, valued, starts, start_types}
use Rattle.ctl.specs.ClosedFamily
use Rattle.ctl.specs.ClosedFamily.{linked, one_of, stop, Ranked}
use Rattle.ctl.specs.Verdict.{MeetsIn, ClosedIn, family_of, surviving_types}
use Rattle.ctl.specs.Evaluator.{sat}
use Rattle.ctl.proofs.BoolLaws.{T-cast, T-cast⁻, and_in, and_0, and-1, and-iff, imp-in, imp-iff, or-0, or-1}
use Rattle.ctl.proofs.ListLaws.{any-in, all_in, all-out, keep-in, map-in, map-out, below_in, below_out}
use Rattle.ctl.proofs.ModeLaws.{modes-in, modes-has, mode-lt, mode-only, mode-own}
use Rattle.ctl.proofs.TableauLaws.{Proper}
use Rattle.ctl.proofs.EliminationLaws.{within-families}
use Rattle.ctl.proofs.VerdictLaws.{surviving-iff}
use Rattle.ctl.proofs.Paths
use Rattle.ctl.proofs.NodeLaws.{step-lt, step-target, step_back, leads-out, ex-out, ax-out, eu-chain, rank_au, au-rank, au-both}
use Rattle.ctl.proofs.NodeTypes.{node_type, type-lt, part-0, part-1, true-node, node-true}
use Rattle.ctl.proofs.ValueLaws.{valued-node}

module _ (S : Tableau) (proper : Proper S) (s : Snapshot) where
  open S use {cl, ln, values, globals}
  open proper use {globals-in}

  abbrev ty : ℕ → ℕ
  ty i = node_type S s i

  -- ---- links

  -- a field that leads from node i to node j links their types
  module _ (m i j : ℕ) (small : m < 8) (t : T (step s m i j)) where
    il : i < s.n
    il = (step-lt s m i j t).0

    jl : j < s.n
    jl = (step-lt s m i j t).1

    ex-forth : (A : ℕ) (p : Form) → ex A p ∈ cl → A ≡ 2 ^ m → T (truth ln (ty i) (ex A p)) → T (truth ln (ty j) p)
    unfolding parts
    ex-forth A p k e h =
        let w = ex-out s A p i il (node-true S proper s (ex A p) i il k h) in
        let same = step-target s m i w.1 j small (subst (λ a. T (step s a i w.1)) (mode-only A m w.0 (omega arith) e w.2) w.3) t in
        true-node S proper s p j jl (part-0 S proper s (ex A p) k refl) (subst (λ x. T (sat s p x)) same w.4)

    ax-forth : (A : ℕ) (p : Form) → ax A p ∈ cl → A ≡ 2 ^ m → T (truth ln (ty i) (ax A p)) → T (truth ln (ty j) p)
    unfolding parts
    ax-forth A p k e h =
        true-node S proper s p j jl (part-0 S proper s (ax A p) k refl) (ax-out s A p i m j il (node-true S proper s (ax A p) i il k h) (mode-own A m (omega arith) e) t)

    ax-back : (A : ℕ) (p : Form) → ax A p ∈ cl → A ≡ 2 ^ (8 + m) → T (truth ln (ty j) (ax A p)) → T (truth ln (ty i) p)
    unfolding parts
    ax-back A p k e h =
        true-node S proper s p i il (part-0 S proper s (ax A p) k refl)
        (ax-out s A p j (8 + m) i jl (node-true S proper s (ax A p) j jl k h) (mode-own A (8 + m) (omega arith) e) (T-cast⁻ (step_back s m i j small) t))

    au-ways : (A : ℕ) (p q : Form) → au A p q ∈ cl → T (has_mode A m) → T (has_mode A (8 + m)) → T (truth ln (ty i) (au A p q)) → T (truth ln (ty j) (au A p q))
        → T (truth ln (ty i) q || truth ln (ty j) q)
    unfolding parts
    au-ways A p q k f b hi hj =
        go (au-both s A p q m i j small (modes-has A m (omega arith) f) (modes-has A (8 + m) (omega arith) b) t (node-true S proper s (au A p q) i il k hi) (node-true S proper s (au A p q) j jl k hj))
      where
        go : T (sat s q i) ⊎ T (sat s q j) → T (truth ln (ty i) q || truth ln (ty j) q)
        go (inl h) = or-0 (truth ln (ty i) q) (truth ln (ty j) q) (true-node S proper s q i il (part-1 S proper s (au A p q) k refl) h)
        go (inr h) = or-1 (truth ln (ty i) q) (truth ln (ty j) q) (true-node S proper s q j jl (part-1 S proper s (au A p q) k refl) h)

    link-rule : (p : Form) → p ∈ cl → T (link_rule ln m (ty i) (ty j) p)
    unfolding link_rule
    link-rule tru k = tt
    link-rule fls k = tt
    link-rule (lit a) k = tt
    link-rule (nlit a) k = tt
    link-rule (and p q) k = tt
    link-rule (or p q) k = tt
    link-rule (ex A p) k = simp imp-iff (λ e h. ex-forth A p k (eqb→eq A (2 ^ m) e) h)
    link-rule (ax A p) k = simp (imp-iff, and-iff) (λ e h. ax-forth A p k (eqb→eq A (2 ^ m) e) h, λ e h. ax-back A p k (eqb→eq A (2 ^ (8 + m)) e) h)
    link-rule (eu A p q) k = tt
    link-rule (au A p q) k =
        imp-in (has_mode A m && has_mode A (8 + m)) (imp (truth ln (ty i) (au A p q) && truth ln (ty j) (au A p q)) (truth ln (ty i) q || truth ln (ty j) q)) (λ f.
        imp-in (truth ln (ty i) (au A p q) && truth ln (ty j) (au A p q)) (truth ln (ty i) q || truth ln (ty j) q) (λ h.
        au-ways A p q k (and_0 (has_mode A m) (has_mode A (8 + m)) f) (and-1 (has_mode A m) (has_mode A (8 + m)) f)
        (and_0 (truth ln (ty i) (au A p q)) (truth ln (ty j) (au A p q)) h) (and-1 (truth ln (ty i) (au A p q)) (truth ln (ty j) (au A p q)) h)))
    link-rule (er A p q) k = tt
    link-rule (ar A p q) k = tt

    link-node : T (link cl ln m (ty i) (ty j))
    unfolding link
    link-node = all_in (link_rule ln m (ty i) (ty j)) cl link-rule

  step-node : (m i j : ℕ) → m < 16 → T (step s m i j) → T (link_by cl ln m (ty i) (ty j))
  unfolding link_by
  step-node m i j k t = go (ltb m 8) refl
    where
      go : (b : Bool) → ltb m 8 ≡ b → T (elim b as (λ c. Bool) [ true ↦ link cl ln m (ty i) (ty j) | false ↦ link cl ln (m - 8) (ty j) (ty i) ])
      go true e = link-node m i j (ltb-true m 8 e) t
      go false e =
          let h = ltb-false m 8 e in
          let q : 8 + (m - 8) ≡ m = omega arith in
          link-node (m - 8) j i (omega arith) (T-cast (step_back s (m - 8) j i (omega arith)) (subst (λ a. T (step s a i j)) (sym q) t))

  -- ---- the types of the nodes are a closed family

  node_types : List ℕ
  node_types = map ty (below s.n)

  node_in : (i : ℕ) → i < s.n → ty i ∈ node_types
  unfolding node_types
  node_in i l = map-in ty (below_in l)

  linked-node : (A m i j : ℕ) → m ∈ modes A → T (step s m i j) → T (linked (link_by cl ln) A (ty i) (ty j))
  unfolding linked
  linked-node A m i j k t = any-in (λ m. link_by cl ln m (ty i) (ty j)) k (step-node m i j (mode-lt (modes-in A k).0) t)

  -- the node that an EX speaks of
  ex-node : (A : ℕ) (p : Form) (i : ℕ) → i < s.n → ex A p ∈ cl → T (truth ln (ty i) (ex A p))
      → (j : ℕ) × (j < s.n) × T (linked (link_by cl ln) A (ty i) (ty j)) × T (truth ln (ty j) p) × ((m : ℕ) × (m ∈ modes A) × T (step s m i j))
  unfolding parts
  ex-node A p i l k h =
      let w = ex-out s A p i l (node-true S proper s (ex A p) i l k h) in
      let jl = (step-lt s w.0 i w.1 w.3).1 in
      (w.1, jl, linked-node A w.0 i w.1 w.2 w.3, true-node S proper s p w.1 jl (part-0 S proper s (ex A p) k refl) w.4, (w.0, w.2, w.3))

  chain-node : {A : ℕ} {p q : Form} {i : ℕ} → p ∈ cl → q ∈ cl → i < s.n → Paths.Chain (Leads s A) (λ j. T (sat s p j)) (λ j. T (sat s q j)) i
      → ClosedFamily.Chain (truth ln) (link_by cl ln) node_types A p q (ty i)
  chain-node {p = p} {q = q} mp mq l (Paths.here {i = i} h) = stop (node_in i l) (true-node S proper s q i l mq h)
  chain-node {A = A} {p = p} {q = q} mp mq l (Paths.there {i = i} j h r c) =
      let o = leads-out s A i j r in
      ClosedFamily.step (node_in i l) (true-node S proper s p i l mp h) (linked-node A r.0 i j o.0 o.1) (chain-node mp mq (step-lt s r.0 i j o.1).1 c)

  -- a mode of B, which is one of the modes A
  among : (A B a : ℕ) → T (one_of A B) → a ∈ modes B → a ∈ modes A
  unfolding one_of
  among A B a o k = modes-has A a (mode-lt (modes-in B k).0) (all-out (has_mode A) (and-1 (single B) (all_of (has_mode A) (modes B)) o) k)

  ranked-right : (A : ℕ) (p q : Form) (k t : ℕ) → t ∈ node_types → T (truth ln t q) → Ranked cl (truth ln) (link_by cl ln) node_types A p q k t
  ranked-right A p q zero t m h = (m, h)
  ranked-right A p q (suc k) t m h = inl (ranked-right A p q k t m h)

  rank-node : (A : ℕ) (p q : Form) → au A p q ∈ cl → (k i : ℕ) → i < s.n → rank_au s A p q i < k → T (sat s (au A p q) i) → Ranked cl (truth ln) (link_by cl ln) node_types A p q k (ty i)
  unfolding parts
  rank-node A p q m zero i l h t = absurd (omega arith)
  rank-node A p q m (suc k) i l h t = go (au-rank s A p q i l t) (rank-node A p q m k)
    where
      Next : Type 0
      Next = T (sat s p i) × ((a j : ℕ) → a ∈ modes A → T (step s a i j) → T (sat s (au A p q) j) × (rank_au s A p q j < rank_au s A p q i))

      go : T (sat s q i) ⊎ Next → ((j : ℕ) → j < s.n → rank_au s A p q j < k → T (sat s (au A p q) j) → Ranked cl (truth ln) (link_by cl ln) node_types A p q k (ty j))
          → Ranked cl (truth ln) (link_by cl ln) node_types A p q (suc k) (ty i)
      go (inl r) rec = ranked-right A p q (suc k) (ty i) (node_in i l) (true-node S proper s q i l (part-1 S proper s (au A p q) m refl) r)
      go (inr r) rec = inr (
        node_in i l,
        true-node S proper s p i l (part-0 S proper s (au A p q) m refl) r.0,
        λ B v mb o e.
            let w = ex-node B v i l mb e in
            let a = w.4.0 in
            let x = r.1 a w.0 (among A B a o w.4.1) w.4.2 in
            (ty w.0, w.2, w.3, rec w.0 w.1 (let d = x.1 in omega arith) x.0),
      )

  meets-node : (i : ℕ) → i < s.n → MeetsIn S node_types (ty i)
  unfolding parts
  meets-node i l = record {
    exs = λ A p m s h. let w = ex-node A p i l m h in (ty w.0, node_in w.0 w.1, w.2, w.3);
    eus = λ A p q m h. chain-node (part-0 S proper s (eu A p q) m refl) (part-1 S proper s (eu A p q) m refl) l (eu-chain s A p q i l (node-true S proper s (eu A p q) i l m h));
    aus = λ A p q m h. (suc (rank_au s A p q i), rank-node A p q m (suc (rank_au s A p q i)) i l (omega arith) (node-true S proper s (au A p q) i l m h));
  }

  -- ---- so it survives

  -- each node holds exactly one of the values, if any is declared, every global holds at every node, and every node's type obeys the naming
  module _ (rule : ValuesSingle values s) (hold : (p : Form) → p ∈ globals → (i : ℕ) → i < s.n → T (sat s p i)) (r : ℕ) (fits : (i : ℕ) → i < s.n → T (obeys S r (ty i))) where
    pub starts-node : (i : ℕ) → i < s.n → ty i ∈ start_types S r
    unfolding start_types starts
    starts-node i l =
        keep-in (starts S r) (below_in (type-lt S s i))
        (and_in (obeys S r (ty i)) (valued S (ty i) && all_of (truth ln (ty i)) globals) (fits i l)
        (and_in (valued S (ty i)) (all_of (truth ln (ty i)) globals) (valued-node S proper s rule i l)
        (all_in (truth ln (ty i)) globals (λ p m. true-node S proper s p i l (globals-in p m) (hold p m i l)))))

    closed-nodes : ClosedIn S r node_types
    unfolding node_types
    closed-nodes = record {
      within = λ t m. let w = map-out ty (below s.n) m in subst (λ x. x ∈ start_types S r) (sym w.2) (starts-node w.0 (below_out s.n w.1));
      meets = λ t m. let w = map-out ty (below s.n) m in subst (λ x. MeetsIn S node_types x) (sym w.2) (meets-node w.0 (below_out s.n w.1));
    }

    pub in-families : (k i : ℕ) → i < s.n → ty i ∈ family_of S r k
    unfolding family_of
    in-families k i l = within-families cl (truth ln) (link_by cl ln) (start_types S r) node_types closed-nodes k (ty i) (node_in i l)

    pub survives : (i : ℕ) → i < s.n → ty i ∈ surviving_types S r
    survives i l = (surviving-iff S r (ty i)).1 (node_types, closed-nodes, node_in i l)
