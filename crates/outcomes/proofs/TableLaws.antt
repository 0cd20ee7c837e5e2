-- What Table answers and leaves at each of its returns, and the part that it hands back. Assumes nothing.
use mathlib.Core.Path.{◌≡◌, refl, sym, ap, ap₂, ◌∙◌}
use mathlib.Core.Bool.{cond}
use mathlib.Core.List.{List}
use Prim.Native.Nat.{ℕ, ◌%◌, ◌≤◌, ◌<◌}
use native.Mathlib.Omega.{arith}
use lib.ListN.{length, take}
use Rattle.std.specs.Prelude.{Result, Ok, Err}
use borrow.Author.Tests.{eq-eqb, le-ltb, lt-ltb, ne_eqb}
use Rattle.ctl.specs.Tableau.{start_types}
use Rattle.refusal.specs.declared.Refusal.{Refusal}
use Rattle.refusal.specs.declared.Refusal.TheVariants as Refusing
use Rattle.refusal.specs.Number.{number_of}
use Rattle.tableau.specs.declared.table.Counts.{Counts}
use Rattle.limits.specs.declared.Limits.{Limits}
use Rattle.limits.specs.Limits.{refusal_under}
use Rattle.prepare.specs.Prepared.{tableau_in}
use Rattle.prepare.specs.Width.{words_for}
use Rattle.frame.specs.SetUp.{Accepts}
use Rattle.frame.specs.declared.Setup.{Setup}
use Rattle.outcomes.specs.declared.Tabled.{Tabled}
use Rattle.outcomes.specs.Outcomes.{TableIs, part_of, place_of, table_answer, table_refusal, table_store}
use Rattle.fitted.specs.Accepted.{TabledIn, holding, namings_in, words_in}
use Rattle.fitted.proofs.AcceptedLaws.{namings-are, words_are}
use Rattle.outcomes.proofs.RefusalLaws.{refused-answer, refused-store, sheet-first}

module _ (L : Limits) (s : List ℕ) (r : ℕ) (first second : List ℕ) where
  -- a refusal leaves the stores alone
  refused-by : (e : Refusal) → number_of e ≡ table_refusal L s r (length first) (length second) → TableIs L s r first second (Err e) first second
  refused-by e i = record {
    answer = refused-answer e i (table_answer s r) (λ q. refl);
    number = i;
    first_holds = refused-store e i first (λ q. table_store s r q first) (λ q. refl);
    second_holds = refused-store e i second (λ q. table_store s r q second) (λ q. refl);
  }

  pub table-refused : (e : Refusal) → number_of e ≡ refusal_under L s → TableIs L s r first second (Err e) first second
  unfolding table_refusal
  table-refused e i = refused-by e (sheet-first e _ i)

  module _ (z : refusal_under L s ≡ 0) {u : Setup} (a : Accepts s u) where
    pub table-naming : u.namings ≤ r → TableIs L s r first second (Err Refusing.Naming) first second
    unfolding table_refusal
    table-naming h = let n = namings-are a in refused-by Refusing.Naming (simp (z, le-ltb r (namings_in s) (omega arith)))

    module _ (h : r < u.namings) {w : ℕ} (e : w ≡ words_for L.lean) where
      below : r < namings_in s
      below = let n = namings-are a in omega arith

      pub table-short : length first < w → TableIs L s r first second (Err Refusing.Store) first second
      unfolding table_refusal
      table-short l = refused-by Refusing.Store (simp (z, lt-ltb r (namings_in s) below, lt-ltb (length first) (words_for L.lean) (omega arith)))

      module _ (f : w ≤ length first) where
        pub table-short-second : length second < w → TableIs L s r first second (Err Refusing.Store) first second
        unfolding table_refusal
        table-short-second l =
            refused-by Refusing.Store (simp (z, lt-ltb r (namings_in s) below, le-ltb (length first) (words_for L.lean) (omega arith), lt-ltb (length second) (words_for L.lean) (omega arith)))

        module _ (g : w ≤ length second) where
          none : table_refusal L s r (length first) (length second) ≡ 0
          unfolding table_refusal
          none = simp (z, lt-ltb r (namings_in s) below, le-ltb (length first) (words_for L.lean) (omega arith), le-ltb (length second) (words_for L.lean) (omega arith))

          pub table_done : {first' second' : List ℕ} {c : Counts} → TabledIn s r first second first' second' c
              → TableIs L s r first second (Ok (record { words = u.words; start = c.start; left = c.left; rounds = c.rounds })) first' second'
          unfolding holding
          table_done {first'} {second'} {c} t = record {
            answer =
                ap₂ (λ w q. Ok (record { words = w; start = q; left = c.left; rounds = c.rounds })) (words_are a) t.started
                ∙ ap₂ (λ p q. Ok (record { words = words_in s; start = length (start_types (tableau_in s) r); left = p; rounds = q })) t.left_over t.rounds-done
                ∙ ap (table_answer s r) (sym none);
            number = sym none;
            first_holds = t.first_holds ∙ ap (λ q. table_store s r q first) (sym none);
            second_holds = t.second_holds ∙ ap (λ q. table_store s r q second) (sym none);
          }

-- ---- the part handed back

module _ (o : Result Tabled Refusal) (first second : List ℕ) (p q : ℕ × ℕ) {t : Tabled} (e : o ≡ Ok t) where
  pub part-even : t.rounds % 2 ≡ 0 → (take t.words second ≡ part_of o first second) × (q ≡ place_of o p q)
  part-even h = (
    sym (ap (λ a. part_of a first second) e ∙ ap (λ b. cond b (take t.words second) (take t.words first)) (eq-eqb (t.rounds % 2) 0 h)),
    sym (ap (λ a. place_of a p q) e ∙ ap (λ b. cond b q p) (eq-eqb (t.rounds % 2) 0 h)),
  )

  pub part-odd : (t.rounds % 2 ≡ 0 → ⊥) → (take t.words first ≡ part_of o first second) × (p ≡ place_of o p q)
  part-odd h = (
    sym (ap (λ a. part_of a first second) e ∙ ap (λ b. cond b (take t.words second) (take t.words first)) (ne_eqb (t.rounds % 2) 0 h)),
    sym (ap (λ a. place_of a p q) e ∙ ap (λ b. cond b q p) (ne_eqb (t.rounds % 2) 0 h)),
  )
