-- What the requests leave as it was: where a sheet has nothing of what a request brings, its definitions come to document 01's. Assumes nothing.
use mathlib.Core.Path.{◌≡◌, refl, sym, ap, ◌∙◌, fun_ext, subst}
use mathlib.Core.Logic.{◌↔◌}
use mathlib.Core.Bool.{Bool, not, ◌&&◌}
use mathlib.Core.List.Memᴰ
use mathlib.Core.List.{List, [], ◌∷◌, ◌++◌}
use Prim.Native.Nat.{ℕ, ◌*◌, ◌^◌, ◌≤◌, ◌<◌}
use native.Mathlib.Omega.{arith}
use lib.Dec.{T, eqb, eqb→eq}
use lib.ListN.{length, get_or}
use borrow.Author.Tests.{eq-eqb}
use Rattle.ctl.specs.Lists.{◌∈◌, all_of, keep, below}
use Rattle.ctl.specs.Formula.{Form, tru}
use Rattle.ctl.specs.Closure.{closure}
use Rattle.ctl.specs.Lean.{with_values, lean}
use Rattle.ctl.specs.Snapshot.{Snapshot, ValuesSingle}
use Rattle.ctl.specs.Types.{in_type, truth}
use Rattle.ctl.specs.Tableau.{Tableau, tableau_of, is_name, name_places, places_but, set_bits, namings, obeys_from, obeys, one_held, valued, value_places, starts, start_types}
use Rattle.ctl.specs.Verdict.{family_of, rounds_of, surviving_types, verdict}
use Rattle.ctl.specs.Judging.{former_start, family_from, rounds_from, survivors_from, verdict_from, JudgedFrom}
use Rattle.ctl.specs.Demand3.{Fits}
use Rattle.ctl.specs.Published
use Rattle.ctl.proofs.BoolLaws.{T-cast, T-cast⁻, T_true, both_ways}
use Rattle.ctl.proofs.ListLaws.{keep_same, below_out, kept-below}
use Rattle.ctl.proofs.NamingLaws.{name-lt, but-length}
use Rattle.ctl.proofs.VerdictLaws.{over-from}

-- ---- judging goes by the start types and the number of namings alone

module _ (S : Tableau) where
  pub judged-from : (start : ℕ → List ℕ) (n : ℕ) → namings S ≡ n → ((r : ℕ) → start_types S r ≡ start r) → JudgedFrom S start n
  unfolding family_of rounds_of surviving_types verdict
  judged-from start n e f =
      let same : start_types S ≡ start = fun_ext f in
      record {
        namings-are = e;
        starts-are = f;
        families-are = λ r k. ap (λ g. family_from S.cl S.ln g r k) same;
        rounds-are = λ r. ap (λ g. rounds_from S.cl S.ln g r) same;
        survivors-are = λ r. ap (λ g. survivors_from S.cl S.ln g r) same;
        verdict-is = λ goal. over-from S goal (below (namings S)) ∙ ap (λ g. verdict_from S.cl S.ln g goal (below (namings S))) same ∙ ap (λ m. verdict_from S.cl S.ln start goal (below m)) e;
      }

-- ---- request 3: sheets without values

-- the tableau is document 01's: its lean is that of the closure
pub tableau-without : (spell : ℕ → List ℕ) (name : ℕ → Bool) (globals goals : List Form)
    → tableau_of spell name [] globals goals ≡ record { cl = closure (globals ++ goals); ln = lean spell (closure (globals ++ goals)); name = name; values = []; globals = globals }
unfolding tableau_of with_values
tableau-without spell name globals goals = refl

module _ (S : Tableau) (none : S.values ≡ []) where
  starts-before : (r t : ℕ) → starts S r t ≡ (obeys S r t && all_of (truth S.ln t) S.globals)
  unfolding starts valued
  starts-before r t = ap (λ vs. obeys S r t && (one_held vs (keep (in_type t) (value_places S)) && all_of (truth S.ln t) S.globals)) none

  -- start types are those that obey and make the globals true, as in document 01; families, rounds, survivors and verdict come from these
  pub without-values : JudgedFrom S (former_start S (obeys S)) (namings S)
  unfolding start_types former_start
  without-values = judged-from S (former_start S (obeys S)) (namings S) refl (λ r. ap (λ f. keep f (below (2 ^ length S.ln))) (fun_ext (starts-before r)))

-- and every snapshot keeps the rule
pub no-rule : (s : Snapshot) → ValuesSingle [] s
no-rule s i l v m = absurd (Memᴰ.not-nil m)

-- ---- request 4: sheets where at most one name occurs

module _ (S : Tableau) where
  -- the places but the only name's are those that are no names
  only-name : (v : ℕ) → name_places S ≡ v ∷ [] → places_but S v ≡ Published.other_places S
  unfolding places_but name_places Published.other_places
  only-name v e = keep_same (λ i. not (eqb i v)) (λ i. not (named i)) (below (length S.ln)) (λ i m. ap not (both_ways (eqb i v) (named i)
      (λ t. ((at i).0 (Memᴰ.head (eqb→eq i v t))).1)
      (λ t. T_true (eqb i v) (eq-eqb i v (Memᴰ.eq_of_singleton ((at i).1 (below_out (length S.ln) m, t)))))))
    where
      named : ℕ → Bool
      named i = is_name S (get_or S.ln i tru)

      at : (i : ℕ) → (i ∈ (v ∷ [])) ↔ ((i < length S.ln) × T (named i))
      at i = subst (λ l. (i ∈ l) ↔ ((i < length S.ln) × T (named i))) e (kept-below named (length S.ln) i)

  only-bits : (v : ℕ) → name_places S ≡ v ∷ [] → set_bits S ≡ length (Published.other_places S)
  only-bits v e = sym (but-length S v (name-lt S (subst (λ l. v ∈ l) (sym e) (Memᴰ.head refl)))) ∙ ap length (only-name v e)

  same-obeys : (vs : List ℕ) → name_places S ≡ vs → length vs ≤ 1 → (r t : ℕ) → obeys_from S vs r t ≡ Published.obeys_from S vs r t
  unfolding obeys_from Published.obeys_from
  same-obeys [] e h r t = refl
  same-obeys (v ∷ []) e h r t = rw (only-name v e, only-bits v e)
  same-obeys (v ∷ (w ∷ vs)) e h r t = absurd (omega arith)

  same_bits : (vs : List ℕ) → name_places S ≡ vs → length vs ≤ 1 → set_bits S * length vs ≡ length (Published.other_places S) * length vs
  same_bits [] e h = omega arith
  same_bits (v ∷ []) e h = ap (λ k. k * 1) (only-bits v e)
  same_bits (v ∷ (w ∷ vs)) e h = absurd (omega arith)

  module _ (few : length (name_places S) ≤ 1) where
    -- a type obeys as published, so the same namings fit a snapshot
    pub one-obeys : (r t : ℕ) → obeys S r t ≡ Published.obeys S r t
    unfolding obeys Published.obeys
    one-obeys r t = same-obeys (name_places S) refl few r t

    pub one-fits : (r : ℕ) (s : Snapshot) → Fits S r s ↔ Published.Fits S r s
    one-fits r s = (λ f i t l n. T-cast (one-obeys r t) (f i t l n), λ f i t l n. T-cast⁻ (one-obeys r t) (f i t l n))

    one-namings : namings S ≡ Published.namings S
    unfolding namings Published.namings
    one-namings = ap (λ k. 2 ^ k) (same_bits (name_places S) refl few)

    -- namings, start types, families, rounds, survivors and verdict are the published ones
    pub one_name : JudgedFrom S (Published.start_types S) (Published.namings S)
    unfolding start_types starts Published.start_types Published.starts
    one_name = judged-from S (Published.start_types S) (Published.namings S) one-namings
        (λ r. ap (λ f. keep f (below (2 ^ length S.ln))) (fun_ext (λ t. ap (λ b. b && (valued S t && all_of (truth S.ln t) S.globals)) (one-obeys r t))))

    -- and without values document 01's
    pub as-published : S.values ≡ [] → JudgedFrom S (former_start S (Published.obeys S)) (Published.namings S)
    unfolding former_start
    as-published none = judged-from S (former_start S (Published.obeys S)) (Published.namings S) one-namings
        (λ r. (without-values S none).starts-are r ∙ ap (λ f. keep f (below (2 ^ length S.ln))) (fun_ext (λ t. ap (λ b. b && all_of (truth S.ln t) S.globals) (one-obeys r t))))
