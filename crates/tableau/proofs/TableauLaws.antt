-- What the words hold is what ctl's tableau has: start types, rounds, surviving types. Assumes nothing.
use mathlib.Core.Path.{◌≡◌, refl, sym, ap, ap₂, ◌∙◌, subst}
use mathlib.Core.Bool.{Bool, ◌&&◌, ◌||◌}
use mathlib.Core.List.Memᴰ
use mathlib.Core.List.{List, [], ◌∷◌}
use mathlib.Core.Logic.{◌↔◌, inl}
use Prim.Native.Nat.{ℕ, ◌*◌, ◌^◌, ◌≤◌, ◌<◌}
use native.Mathlib.Omega.{arith}
use lib.Dec.{T, eqb, ltb, eqb→eq}
use lib.ListN.{length, get_or, length-map}
use borrow.Author.Tests.{lt-ltb, ltb-true, eq-eqb, ne_eqb}
use Rattle.ctl.specs.Elimination as E
use Rattle.ctl.specs.Lists as L
use Rattle.ctl.proofs.BoolLaws.{T-cast, T-cast⁻, T_true, and_0, and-1, and_in, both_ways, imp-in, imp-out, true-T}
use Rattle.ctl.proofs.EliminationLaws.{survivors-ascend, survivors-closed}
use Rattle.ctl.proofs.NamedTypes.{obeys-iff}
use Rattle.ctl.proofs.ListLaws.{ascending-count, ascending-keep, below_in, below_out, keep-in, keep_out}
use Rattle.ctl.proofs.SortLaws.{ascending-same}
use Rattle.ctl.proofs.OrderLaws.{rounds-but, survivors-but}
use Rattle.ctl.specs.Equality.{num}
use Rattle.ctl.specs.Formula.{tru}
use Rattle.ctl.specs.Lean.{is_letter}
use Rattle.ctl.specs.Links.{link_by}
use Rattle.ctl.specs.Lists.{elem, ◌∈◌, below, keep}
use Rattle.ctl.specs.Tableau.{Tableau, is_value, obeys, one_held, start_types, starts, valued, value_places}
use Rattle.ctl.specs.Types.{in_type, truth}
use Rattle.ctl.specs.Verdict.{rounds_of, surviving_types}
use Rattle.wordset.proofs.BelowLaws.{all-elim, all-intro}
use Rattle.wordset.specs.Below.{all_below, count_below}
use Rattle.wordset.specs.Words.{packed}
use Rattle.tableau.specs.declared.table.Counts.{Counts}
use Rattle.members.specs.Members.{forms}
use Rattle.truth.specs.Tables.{form, lean_forms}
use Rattle.truth.specs.Truths.{Tr, true_at}
use Rattle.tableau.specs.Families.{Rounds, Survivors}
use Rattle.truth.specs.Blocks.{list_of}
use Rattle.start.specs.Starts.{Based, fits_name, has_one, in_base, named_type, obeys_by, start_list, starts_by}
use Rattle.start.proofs.StartLaws.{based-starts}
use Rattle.tableau.specs.Tabled.{Tabled}
use Rattle.tableau.specs.Matches.{Matches}
use Rattle.truth.proofs.ListWords.{all_list, count-places, held, list-packed}

-- ---- values

-- where any value is declared
held-asked : (values held : List ℕ) → (values ≡ [] → ⊥) → one_held values held ≡ eqb (length held) 1
held-asked [] held f = absurd (f refl)
held-asked (v ∷ vs) held f = refl

module _ (S : Tableau) where
  -- where there is a value place, a value is declared
  value-declared : {i : ℕ} → i ∈ value_places S → S.values ≡ [] → ⊥
  unfolding value_places elem
  value-declared {i} m e =
      let p = get_or S.ln i tru in
      subst (λ l. T (elem (num p) l)) e (and-1 (is_letter p) (elem (num p) S.values) (keep_out (λ j. is_value S (get_or S.ln j tru)) (below (length S.ln)) m).1)

  one-valued : (values : List ℕ) → value_places S ≡ values → (values ≡ [] → S.values ≡ []) → (t : ℕ) → has_one values t ≡ valued S t
  unfolding has_one valued
  one-valued values e none t = go values e none ∙ ap (λ l. one_held S.values (keep (in_type t) l)) (sym e)
    where
      go : (l : List ℕ) → value_places S ≡ l → (l ≡ [] → S.values ≡ []) → has_one l t ≡ one_held S.values (keep (in_type t) l)
      go [] e none = ap (λ k. one_held k []) (sym (none refl))
      go (p ∷ ps) e none =
          ap (λ b. b || eqb (count_below (length (p ∷ ps)) (λ i. in_type t (get_or (p ∷ ps) i 0))) 1) (ne_eqb (length (p ∷ ps)) 0 (omega arith))
          ∙ ap (λ n. eqb n 1) (count-places (in_type t) 0 (p ∷ ps))
          ∙ sym (held-asked S.values (keep (in_type t) (p ∷ ps)) (value-declared (subst (λ l. p ∈ l) (sym e) (Memᴰ.head refl))))

-- ---- the tableau

lean-length : (ms ln : List ℕ) → length (lean_forms ms ln) ≡ length ln
unfolding lean_forms
lean-length ms ln = length-map ln (form ms)

module _ {S : Tableau} {ms ln globals names values : List ℕ} (m : Matches S ms ln globals names values) (w : ℕ) (base : List ℕ) (eb : Based w (in_base ms ln globals values) names base) (top : 2 ^ length ln ≤ w * 64)
    (r : ℕ) where
  len : length S.ln ≡ length ln
  len = ap length m.lean ∙ lean-length ms ln

  globally : (t : ℕ) → all_below (length globals) (λ i. true_at ms ln (get_or globals i 0) t) ≡ L.all_of (truth S.ln t) S.globals
  globally t = all_list (Tr ms ln t) (form ms) 0 globals ∙ ap₂ (λ k l. L.all_of (truth k t) l) (sym m.lean) (sym m.globals-are)

  -- what is asked of a start type under every naming, over the words and over the tableau
  abbrev words_ask : ℕ → Bool
  words_ask t = has_one values t && all_below (length globals) (λ i. true_at ms ln (get_or globals i 0) t)

  abbrev tableau_asks : ℕ → Bool
  tableau_asks t = valued S t && L.all_of (truth S.ln t) S.globals

  asking : (t : ℕ) → words_ask t ≡ tableau_asks t
  asking t = ap₂ (λ a b. a && b) (one-valued S values m.values-are m.values-none t) (globally t)

  -- for each name that a type has, it is the name's own type
  abbrev Own : ℕ → List ℕ → ℕ → Type 0
  Own t vs k = (i : ℕ) → i < length vs → T (in_type t (get_or vs i 0)) → t ≡ named_type (get_or vs i 0) k r i

  obeying : (t : ℕ) → t < 2 ^ length ln → obeys_by names (length ln) r t ≡ obeys S r t
  unfolding obeys_by
  obeying t l =
      both_ways _ _
      (λ o. iff.1 (λ i h a. eqb→eq t (own i) (imp-out (in_type t (get_or names i 0)) (eqb t (own i)) (T_true _ (all-elim (λ i. fits_name (get_or names i 0) (length ln) r i t) (length names) (true-T _ o) i h)) a)))
      (λ o. T_true _ (all-intro (λ i. fits_name (get_or names i 0) (length ln) r i t) (length names)
      (λ i h. true-T _ (imp-in (in_type t (get_or names i 0)) (eqb t (own i)) (λ a. T_true _ (eq-eqb t (own i) (iff.0 o i h a)))))))
    where
      own : ℕ → ℕ
      own i = named_type (get_or names i 0) (length ln) r i

      iff : T (obeys S r t) ↔ Own t names (length ln)
      iff = subst (λ k. T (obeys S r t) ↔ Own t names k) len (subst (λ vs. T (obeys S r t) ↔ Own t vs (length S.ln)) m.names-are (obeys-iff S t (subst (λ k. t < 2 ^ k) (sym len) l) r))

  pub start-types : start_list w base names (length ln) r ≡ start_types S r
  unfolding start_list start_types starts in_base
  start-types =
      ascending-same 0 (keep words (below (w * 64))) (keep (starts S r) (below (2 ^ length S.ln)))
      (ascending-keep words 0 (below (w * 64)) (ascending-count 0 (w * 64)))
      (ascending-keep (starts S r) 0 (below (2 ^ length S.ln)) (ascending-count 0 (2 ^ length S.ln)))
      there back
    where
      words : ℕ → Bool
      words = starts_by w base names (length ln) r

      made : (t : ℕ) → t < w * 64 → words t ≡ (in_base ms ln globals values t && obeys_by names (length ln) r t)
      made t l = based-starts names (length ln) r t eb l

      there : (t : ℕ) → t ∈ keep words (below (w * 64)) → t ∈ keep (starts S r) (below (2 ^ length S.ln))
      there t i =
          let k = keep_out words (below (w * 64)) i in
          let p = T-cast (made t (below_out (w * 64) k.0)) k.1 in
          let a = and_0 (in_base ms ln globals values t) (obeys_by names (length ln) r t) p in
          let l = ltb-true _ _ (true-T _ (and_0 (ltb t (2 ^ length ln)) (words_ask t) a)) in
          keep-in (starts S r) (below_in (subst (λ n. t < 2 ^ n) (sym len) l))
          (and_in (obeys S r t) (tableau_asks t) (T-cast (obeying t l) (and-1 (in_base ms ln globals values t) (obeys_by names (length ln) r t) p)) (T-cast (asking t) (and-1 (ltb t (2 ^ length ln)) (words_ask t) a)))

      back : (t : ℕ) → t ∈ keep (starts S r) (below (2 ^ length S.ln)) → t ∈ keep words (below (w * 64))
      back t i =
          let k = keep_out (starts S r) (below (2 ^ length S.ln)) i in
          let b : t < 2 ^ length ln = subst (λ n. t < 2 ^ n) len (below_out (2 ^ length S.ln) k.0) in
          let l : t < w * 64 = omega arith in
          keep-in words (below_in l)
          (T-cast⁻ (made t l) (and_in (in_base ms ln globals values t) (obeys_by names (length ln) r t)
          (and_in (ltb t (2 ^ length ln)) (words_ask t) (T_true _ (lt-ltb t (2 ^ length ln) b)) (T-cast⁻ (asking t) (and-1 (obeys S r t) (tableau_asks t) k.1)))
          (T-cast⁻ (obeying t b) (and_0 (obeys S r t) (tableau_asks t) k.1))))

  -- ---- the surviving types and the rounds of naming r

  pub surviving-types : Survivors ms ln (start_list w base names (length ln) r) ≡ surviving_types S r
  unfolding surviving_types
  surviving-types =
      ap (Survivors ms ln) start-types
      ∙ survivors-but (forms ms) S.cl m.closure-has (λ p i. inl (m.closure-in p i)) (lean_forms ms ln) (start_types S r)
      ∙ ap (λ l. E.survivors S.cl (truth l) (link_by S.cl l) (start_types S r)) (sym m.lean)

  pub rounds-of : Rounds ms ln (start_list w base names (length ln) r) ≡ rounds_of S r
  unfolding rounds_of
  rounds-of =
      ap (Rounds ms ln) start-types
      ∙ rounds-but (forms ms) S.cl m.closure-has (λ p i. inl (m.closure-in p i)) (lean_forms ms ln) (start_types S r)
      ∙ ap (λ l. E.rounds S.cl (truth l) (link_by S.cl l) (start_types S r)) (sym m.lean)

  -- what `table` does
  pub tabled : {f s f' s' : List ℕ} {c : Counts}
      → Tabled (start_list w base names (length ln) r) (Survivors ms ln (start_list w base names (length ln) r)) (Rounds ms ln (start_list w base names (length ln) r)) w f s f' s' c
      → Tabled (start_types S r) (surviving_types S r) (rounds_of S r) w f s f' s' c
  tabled {f} {s} t = record {
    started = t.started ∙ ap length start-types;
    left_over = t.left_over ∙ ap length surviving-types;
    rounds-done = t.rounds-done ∙ rounds-of;
    first_holds = t.first_holds ∙ ap (λ l. packed w (λ t. elem t l) f) surviving-types;
    second_holds = t.second_holds ∙ ap (λ l. packed w (λ t. elem t l) s) surviving-types;
  }

-- ---- a store that holds the surviving types

module _ (S : Tableau) (w : ℕ) (top : 2 ^ length S.ln ≤ w * 64) (r : ℕ) where
  pub store-types : (d x : List ℕ) → w ≤ length d → x ≡ packed w (λ t. elem t (surviving_types S r)) d → list_of w x ≡ surviving_types S r
  unfolding surviving_types start_types
  store-types d x h e =
      list-packed w d x (surviving_types S r) h
      (survivors-ascend S.cl (truth S.ln) (link_by S.cl S.ln) (start_types S r) (ascending-keep (starts S r) 0 (below (2 ^ length S.ln)) (ascending-count 0 (2 ^ length S.ln))))
      (λ t m. (let l = below_out (2 ^ length S.ln) (keep_out (starts S r) (below (2 ^ length S.ln)) ((survivors-closed S.cl (truth S.ln) (link_by S.cl S.ln) (start_types S r)).within t m)).0 in omega arith)) e
