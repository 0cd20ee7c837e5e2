-- What List answers and leaves at each of its returns. Assumes nothing.
use mathlib.Core.Path.{◌≡◌, refl, sym, ap, ap₂, ◌∙◌, subst}
use mathlib.Core.Bool.{cond}
use mathlib.Core.List.{List, ◌++◌}
use Prim.Native.Nat.{ℕ, ◌^◌, ◌≤◌, ◌<◌}
use native.Mathlib.Omega.{arith}
use lib.ListN.{length, drop, replicate}
use Rattle.std.specs.Prelude.{Ok, Err}
use borrow.Author.Tests.{le-ltb, lt-ltb}
use Rattle.ctl.specs.Lists.{◌∈◌, elem}
use Rattle.ctl.specs.Sorting.{sort}
use Rattle.ctl.specs.TypeOrder.{fewest_first}
use Rattle.ctl.proofs.VerdictLaws.{surviving-below}
use Rattle.wordset.specs.Words.{packed}
use Rattle.truth.specs.Blocks.{list_of}
use Rattle.listing.specs.Listed.{Listed}
use Rattle.listing.proofs.Writing.{listed-as, listed-front}
use Rattle.refusal.specs.declared.Refusal.{Refusal}
use Rattle.refusal.specs.declared.Refusal.TheVariants as Refusing
use Rattle.refusal.specs.Number.{number_of}
use Rattle.limits.specs.declared.Limits.{Limits}
use Rattle.limits.specs.Limits.{refusal_under}
use Rattle.prepare.specs.Prepared.{tableau_in}
use Rattle.frame.specs.SetUp.{Accepts}
use Rattle.frame.specs.declared.Setup.{Setup}
use Rattle.fitted.specs.Accepted.{listed_in, namings_in, survivors_in, words_in}
use Rattle.fitted.proofs.AcceptedLaws.{few_words, namings-are, short-lean, store-lists, width_is}
use Rattle.outcomes.specs.Outcomes.{ListIs, list_answer, list_refusal, list_store, store_refusal}
use Rattle.outcomes.proofs.RefusalLaws.{refused-answer, refused-store, sheet-first}
use Rattle.outcomes.proofs.ListOrder.{listed-length}

module _ (L : Limits) (s : List ℕ) (r : ℕ) (d : List ℕ) where
  -- a refusal leaves the store alone
  refused-by : (e : Refusal) → number_of e ≡ list_refusal L s r (length d) → ListIs L s r d (Err e) d
  refused-by e i = record {
    answer = refused-answer e i (list_answer s r) (λ q. refl);
    number = i;
    store-holds = refused-store e i d (λ q. list_store s r q d) (λ q. refl);
  }

  pub list-refused : (e : Refusal) → number_of e ≡ refusal_under L s → ListIs L s r d (Err e) d
  unfolding list_refusal
  list-refused e i = refused-by e (sheet-first e _ i)

  module _ (z : refusal_under L s ≡ 0) {u : Setup} (a : Accepts s u) where
    pub list-naming : u.namings ≤ r → ListIs L s r d (Err Refusing.Naming) d
    unfolding list_refusal
    list-naming h = let n = namings-are a in refused-by Refusing.Naming (simp (z, le-ltb r (namings_in s) (omega arith)))

    module _ (h : r < u.namings) {left : ℕ} (e : left ≡ length (survivors_in s r)) where
      number_is : list_refusal L s r (length d) ≡ store_refusal left (length d)
      unfolding list_refusal
      number_is = let n = namings-are a in simp (z, lt-ltb r (namings_in s) (omega arith), e)

      pub list-short : length d < left → ListIs L s r d (Err Refusing.Store) d
      list-short l = refused-by Refusing.Store (sym (number_is ∙ ap (λ b. cond b 12 0) (lt-ltb (length d) left l)))

      pub list_done : {d' : List ℕ} {n : ℕ} → left ≤ length d → Listed (listed_in s r) d 0 d' n → ListIs L s r d (Ok n) d'
      list_done {d'} {n} l x =
          let none : 0 ≡ list_refusal L s r (length d) = sym (number_is ∙ ap (λ b. cond b 12 0) (le-ltb (length d) left l)) in
          let many : length (listed_in s r) ≡ length (survivors_in s r) = listed-length s r in
          let front = listed-front x (omega arith) in
          record {
            answer = ap Ok (front.0 ∙ many) ∙ ap (list_answer s r) none;
            number = none;
            store-holds = front.1 ∙ ap (λ q. listed_in s r ++ drop q d) many ∙ ap (λ q. list_store s r q d) none;
          }

-- ---- what is asked of the set-up and the table's words, and what they give

module _ {s : List ℕ} {u : Setup} (x : Accepts s u) (r : ℕ) {ws : List ℕ} (long : length ws ≡ 64) (e : ws ≡ packed (words_in s) (λ t. elem t (survivors_in s r)) (replicate 64 0)) where
  types : list_of u.words ws ≡ survivors_in s r
  types = store-lists x r (replicate 64 0) ws (few_words x) e

  pub list-asked : (d : List ℕ) {left : ℕ} → left ≡ length (survivors_in s r) → left ≤ length d
      → ((u.words ≤ length ws) × (u.words ≤ 1024) × (u.width ≤ 64) × (length (list_of u.words ws) ≤ length d)) × ((t : ℕ) → t ∈ list_of u.words ws → t < 2 ^ u.width)
  list-asked d f h =
      let w = few_words x in
      let n = short-lean x in
      let l = ap length types in (
        (omega arith, omega arith, omega arith, omega arith),
        λ t m. subst (λ i. t < 2 ^ i) (sym (width_is x)) (surviving-below (tableau_in s) r t (subst (λ k. t ∈ k) types m)),
      )

  pub list-given : {d d' : List ℕ} {n : ℕ} → Listed (sort (fewest_first u.width) (list_of u.words ws)) d 0 d' n → Listed (listed_in s r) d 0 d' n
  unfolding listed_in
  list-given {d} {d'} {n} l = listed-as (ap₂ (λ i k. sort (fewest_first i) k) (width_is x) types) l
