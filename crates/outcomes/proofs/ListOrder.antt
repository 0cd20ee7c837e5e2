-- The list of the surviving types: each of them once and nothing else, in order, and no other list is so. What document 01 promised of List still holds. Assumes nothing.
use mathlib.Core.Path.{◌≡◌, refl, sym, ap, ◌∙◌, subst}
use mathlib.Core.Logic.{◌↔◌}
use mathlib.Core.List.Memᴰ
use mathlib.Core.List.{List, [], ◌∷◌, ◌++◌}
use Prim.Native.Nat.{ℕ, suc}
use lib.Dec.{eqb}
use lib.ListN.{length, take, drop}
use lib.Seq.{take_at, drop_at}
use borrow.Author.Tests.{eq-eqb, ne_eqb}
use Rattle.ctl.specs.Lists.{◌∈◌, keep, put}
use Rattle.ctl.specs.Sorting.{Sorted, Unique, more}
use Rattle.ctl.specs.TypeOrder.{fewest_first}
use Rattle.ctl.proofs.SortLaws.{ascending-unique, sort-length, sort-unique}
use Rattle.ctl.proofs.TypeOrder.{types-members, types-only, types-sorted}
use Rattle.ctl.proofs.VerdictLaws.{surviving-ascend}
use Rattle.prepare.specs.Prepared.{tableau_in}
use Rattle.limits.specs.declared.Limits.{Limits}
use Rattle.fitted.specs.Accepted.{listed_in, survivors_in}
use Rattle.outcomes.specs.Former.{EachOnce, FormerListIs, occurrences}
use Rattle.outcomes.specs.Outcomes.{ListIs, list_refusal, list_store}
use Rattle.std.specs.Prelude.{Result}
use Rattle.refusal.specs.declared.Refusal.{Refusal}
use Rattle.outcomes.proofs.RefusalLaws.{refused-case}

-- ---- a list without repetition has each of its numbers once

unique-none : (t : ℕ) (l : List ℕ) → (t ∈ l → ⊥) → occurrences t l ≡ 0
unfolding occurrences
unique-none t [] f = refl
unique-none t (x ∷ l) f = ap (λ b. length (put b x (keep (eqb t) l))) (ne_eqb t x (λ e. f (Memᴰ.head e))) ∙ unique-none t l (λ m. f (Memᴰ.tail m))

unique-each : (t : ℕ) (l : List ℕ) → Unique l → t ∈ l → occurrences t l ≡ 1
unfolding occurrences
unique-each t [] u m = elim m [ ]
unique-each t (x ∷ l) (more g u) (Memᴰ.head e) =
    ap (λ b. length (put b x (keep (eqb t) l))) (eq-eqb t x e) ∙ ap suc (unique-none t l (λ m. g (subst (λ y. y ∈ l) e m)))
unique-each t (x ∷ l) (more g u) (Memᴰ.tail m) =
    ap (λ b. length (put b x (keep (eqb t) l))) (ne_eqb t x (λ e. g (subst (λ y. y ∈ l) e m))) ∙ unique-each t l u m

-- ---- the list

module _ (s : List ℕ) (r : ℕ) where
  abbrev places : ℕ
  places = length (tableau_in s).ln

  once : Unique (survivors_in s r)
  once = ascending-unique 0 (survivors_in s r) (surviving-ascend (tableau_in s) r)

  pub listed-members : (t : ℕ) → (t ∈ listed_in s r) ↔ (t ∈ survivors_in s r)
  unfolding listed_in
  listed-members t = types-members places (survivors_in s r) t

  pub listed-sorted : Sorted (fewest_first places) (listed_in s r)
  unfolding listed_in
  listed-sorted = types-sorted places (survivors_in s r) once

  pub listed-only : (l : List ℕ) → Sorted (fewest_first places) l → ((t : ℕ) → (t ∈ l) ↔ (t ∈ survivors_in s r)) → l ≡ listed_in s r
  unfolding listed_in
  listed-only l o f = types-only places l (survivors_in s r) once o f

  pub listed-length : length (listed_in s r) ≡ length (survivors_in s r)
  unfolding listed_in
  listed-length = sort-length (fewest_first places) (survivors_in s r)

  pub listed-once : EachOnce (survivors_in s r) (listed_in s r)
  unfolding listed_in
  listed-once = record {
    each = λ t m. unique-each t (listed_in s r) (sort-unique (fewest_first places) (survivors_in s r) once) ((listed-members t).1 m);
    only = λ t m. (listed-members t).0 m;
  }

-- whatever List answers and leaves, it keeps the promise that left the order open
pub list-former : {L : Limits} {s : List ℕ} {r : ℕ} {d : List ℕ} {o : Result ℕ Refusal} {d' : List ℕ} → ListIs L s r d o d' → FormerListIs L s r d o d'
list-former {L} {s} {r} {d} {o} {d'} x =
    let left = length (survivors_in s r) in
    let k = list_refusal L s r (length d) in
    let is : k ≡ 0 → d' ≡ listed_in s r ++ drop left d = λ z. x.store-holds ∙ ap (λ q. list_store s r q d) z in
    record {
      answer = x.answer;
      number = x.number;
      untouched = λ n. x.store-holds ∙ sym (refused-case (λ q. d) (λ q. list_store s r q d) (λ q. refl) k n);
      listed = λ z. subst (EachOnce (survivors_in s r)) (sym (ap (take left) (is z) ∙ take_at (listed_in s r) (drop left d) left (listed-length s r))) (listed-once s r);
      rest = λ z. ap (drop left) (is z) ∙ drop_at (listed_in s r) (drop left d) left (listed-length s r);
    }
