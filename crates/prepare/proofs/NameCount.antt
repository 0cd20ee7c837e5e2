-- What `start_words` asks of the places of a sheet that was read: at most two are names, and all are below the lean's width. Assumes nothing.
use mathlib.Core.Path.{◌≡◌, refl, sym, ap, ◌∙◌, subst}
use mathlib.Core.Bool.{Bool, true, false, cond, not, ◌&&◌, ◌||◌}
use mathlib.Core.List.{List, [], ◌∷◌, ◌++◌, map}
use Prim.Native.Nat.{ℕ, suc, ◌≤◌, ◌<◌}
use native.Mathlib.Omega.{arith}
use native.Mathlib.Decide.{dec_le}
use lib.Dec.{T, eqb, ltb, eqb→eq}
use lib.ListN.{length, get_or, length-map, get_or-eq_default}
use borrow.Author.Tests.{ltb-true}
use Rattle.ctl.specs.Lists.{◌∈◌, below, keep}
use Rattle.ctl.specs.Formula.{Form, tru, lit}
use Rattle.ctl.specs.Equality.{tag, num}
use Rattle.ctl.specs.Tableau.{Tableau, is_name, is_value, name_places, value_places, tableau_of}
use Rattle.ctl.specs.Positive.{positive}
use Rattle.ctl.specs.Demand3.{sheet_tableau}
use Rattle.ctl.proofs.BoolLaws.{and_0, and-1, and_both}
use Rattle.ctl.proofs.FormulaLaws.{is-lit}
use Rattle.ctl.proofs.ListLaws.{below_in, keep-in, keep_out, keep-places, kept-below, kept-few, length-put, map-in}
use Rattle.ctl.proofs.SortLaws.{keep-unique, unique-length}
use Rattle.ctl.proofs.TableauLaws.{Proper, tableau-proper}
use Rattle.head.specs.Head.{kind_of, kind_right, kinds, kinds_from, kinds_of, name_count}
use Rattle.sheet.specs.Reading.{formulas, globals_of, goal_of, is_name as isNameOf, spell_of, values_in}
use Rattle.prepare.specs.Prepared.{tableau_in}

-- ---- at most two kinds are names

count-snoc : (ks : List ℕ) (k : ℕ) → name_count (ks ++ (k ∷ [])) ≡ cond (eqb k 2) (suc (name_count ks)) (name_count ks)
unfolding name_count
count-snoc [] k = refl
count-snoc (j ∷ ks) k = go (eqb j 2) (eqb k 2) (count-snoc ks k)
  where
    go : (a b : Bool) → name_count (ks ++ (k ∷ [])) ≡ cond b (suc (name_count ks)) (name_count ks)
        → cond a (suc (name_count (ks ++ (k ∷ [])))) (name_count (ks ++ (k ∷ []))) ≡ cond b (suc (cond a (suc (name_count ks)) (name_count ks))) (cond a (suc (name_count ks)) (name_count ks))
    go true true e = ap suc e
    go true false e = ap suc e
    go false true e = e
    go false false e = e

right-two : (seen : List ℕ) (k : ℕ) → name_count seen ≤ 2 → kind_right seen k ≡ true → name_count (seen ++ (k ∷ [])) ≤ 2
unfolding kind_right
right-two seen k h e = subst (λ n. n ≤ 2) (sym (count-snoc seen k)) (go (eqb k 2) (and_both (ltb 0 k && ltb (length seen) 8) (not (eqb k 2) || ltb (name_count seen) 2) e).1)
  where
    go : (b : Bool) → not b || ltb (name_count seen) 2 ≡ true → cond b (suc (name_count seen)) (name_count seen) ≤ 2
    go true q = let l = ltb-true (name_count seen) 2 q in omega arith
    go false q = h

no_names : name_count [] ≤ 2
unfolding name_count
no_names = omega arith

from-two : (ws : List (List ℕ)) (seen : List ℕ) → name_count seen ≤ 2 → name_count (kinds_from seen ws) ≤ 2
unfolding kinds_from
from-two [] seen h = h
from-two (w ∷ ws) seen h = go (kind_right seen (kind_of w)) (λ e. from-two ws (seen ++ (kind_of w ∷ [])) (right-two seen (kind_of w) h e))
  where
    go : (b : Bool) → (b ≡ true → name_count (kinds_from (seen ++ (kind_of w ∷ [])) ws) ≤ 2) → name_count (cond b (kinds_from (seen ++ (kind_of w ∷ [])) ws) []) ≤ 2
    go true f = f refl
    go false f = no_names

pub kinds-two : (s : List ℕ) → name_count (kinds s) ≤ 2
unfolding kinds_of
kinds-two s = from-two _ [] no_names

count-keep : (ks : List ℕ) → name_count ks ≡ length (keep (λ k. eqb k 2) ks)
unfolding name_count
count-keep [] = refl
count-keep (k ∷ ks) = ap (λ m. cond (eqb k 2) (suc m) m) (count-keep ks) ∙ sym (length-put (eqb k 2) k (keep (λ k. eqb k 2) ks))

-- ---- the names of a lean

-- a symbol of a kind is among the kinds
pub kind-within : (ks : List ℕ) (q : ℕ) → 0 < q → (k : ℕ) → T (eqb (get_or ks k 0) q) → k < length ks
kind-within ks q l k t = elim (dec_le (length ks) k) [ yes h ↦ absurd (let e = eqb→eq 0 q (subst (λ i. T (eqb i q)) (get_or-eq_default ks 0 h) t) in omega arith) | no h ↦ omega arith ]

module _ (s : List ℕ) where
  abbrev S : Tableau
  S = tableau_in s

  abbrev symbols : List ℕ
  symbols = keep (λ k. eqb (get_or (kinds s) k 0) 2) (below (length (kinds s)))

  name_in : (p : Form) → T (is_name S p) → p ∈ map lit symbols
  unfolding sheet_tableau tableau_of
  name_in p t =
      let a = and_0 (eqb (tag p) 2) (eqb (get_or (kinds s) (num p) 0) 2) t in
      let b = and-1 (eqb (tag p) 2) (eqb (get_or (kinds s) (num p) 0) 2) t in
      subst (λ q. q ∈ map lit symbols) (sym (is-lit p a)) (map-in lit (keep-in (λ k. eqb (get_or (kinds s) k 0) 2) (below_in (kind-within (kinds s) 2 (omega arith) (num p) b)) b))

  pub proper : Proper S
  unfolding sheet_tableau
  proper = tableau-proper (spell_of s) (isNameOf s) (values_in s) (map positive (globals_of (formulas s))) (positive (goal_of (formulas s)) ∷ [])

  -- at most as many names occur as are declared, so at most two
  pub names-declared : length (name_places S) ≤ name_count (kinds s)
  unfolding name_places
  names-declared =
      let a = keep-places (is_name S) tru S.ln in
      let b = unique-length (keep (is_name S) S.ln) (map lit symbols) (keep-unique (is_name S) S.ln proper.once) (λ p m. name_in p (keep_out (is_name S) S.ln m).1) in
      let c = length-map symbols lit in
      let d = keep-places (λ k. eqb k 2) 0 (kinds s) in
      let e = count-keep (kinds s) in
      omega arith

  pub names-two : length (name_places S) ≤ 2
  names-two = let a = names-declared in let b = kinds-two s in omega arith

  -- how many values there are, and each is below the lean's width (of names: `name-lt` of ctl)
  pub values-few : length (value_places S) ≤ length S.ln
  unfolding value_places
  values-few = kept-few (λ i. is_value S (get_or S.ln i tru)) (length S.ln)

  pub value-below : (k : ℕ) → k ∈ value_places S → k < length S.ln
  unfolding value_places
  value-below k m = ((kept-below (λ i. is_value S (get_or S.ln i tru)) (length S.ln) k).0 m).0
