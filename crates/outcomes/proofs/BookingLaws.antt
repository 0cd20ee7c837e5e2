-- What Book answers and leaves at each of its returns. Assumes nothing.
use mathlib.Core.Path.{◌≡◌, refl, sym, ap, ap₂, ◌∙◌}
use mathlib.Core.Bool.{cond}
use mathlib.Core.List.{List}
use Prim.Native.Nat.{ℕ, ◌*◌, ◌^◌, ◌≤◌, ◌<◌}
use native.Mathlib.Omega.{arith}
use native.Mathlib.Nat.{mul-le-mul}
use lib.ListN.{length}
use Rattle.std.specs.Prelude.{Ok, Err}
use borrow.Author.Tests.{le-ltb, lt-ltb}
use Rattle.refusal.specs.declared.Refusal.{Refusal}
use Rattle.refusal.specs.declared.Refusal.TheVariants as Refusing
use Rattle.refusal.specs.Number.{number_of}
use Rattle.limits.specs.declared.Limits.{Limits}
use Rattle.limits.specs.Limits.{refusal_under}
use Rattle.frame.specs.SetUp.{Accepts}
use Rattle.frame.specs.declared.Setup.{Setup}
use Rattle.outcomes.specs.Outcomes.{BookIs, book_answer, book_refusal, book_store, store_refusal}
use Rattle.fitted.specs.Accepted.{namings_in, words_in}
use Rattle.fitted.proofs.AcceptedLaws.{few-namings, few_words, namings-are, words_are}
use Rattle.outcomes.proofs.RefusalLaws.{else-next, refused-answer, refused-store, sheet-first}

module _ (L : Limits) (s d : List ℕ) where
  -- a refusal leaves the store alone
  refused-by : (e : Refusal) → number_of e ≡ book_refusal L s (length d) → BookIs L s d (Err e) d
  refused-by e i = record {
    answer = refused-answer e i (book_answer s) (λ q. refl);
    number = i;
    store-holds = refused-store e i d (λ q. book_store s q d) (λ q. refl);
  }

  pub book-refused : (e : Refusal) → number_of e ≡ refusal_under L s → BookIs L s d (Err e) d
  unfolding book_refusal
  book-refused e i = refused-by e (sheet-first e _ i)

module _ {s : List ℕ} {u : Setup} (a : Accepts s u) where
  needed-is : u.namings * u.words ≡ namings_in s * words_in s
  needed-is = ap₂ ◌*◌ (namings-are a) (words_are a)

  pub needed-fits : u.namings * u.words < 2 ^ 64
  needed-fits = let b = mul-le-mul (few-namings a) (few_words a) in omega arith

  module _ (L : Limits) (z : refusal_under L s ≡ 0) (d : List ℕ) where
    number_is : book_refusal L s (length d) ≡ store_refusal (u.namings * u.words) (length d)
    unfolding book_refusal
    number_is = else-next (refusal_under L s) _ z ∙ ap (λ n. store_refusal n (length d)) (sym needed-is)

    pub book-short : length d < u.namings * u.words → BookIs L s d (Err Refusing.Store) d
    book-short h = refused-by L s d Refusing.Store (sym (number_is ∙ ap (λ b. cond b 12 0) (lt-ltb (length d) (u.namings * u.words) h)))

    pub book-done : {d' : List ℕ} → u.namings * u.words ≤ length d → d' ≡ book_store s 0 d → BookIs L s d (Ok (record { namings = u.namings; words = u.words })) d'
    book-done {d'} h e =
        let none : 0 ≡ book_refusal L s (length d) = sym (number_is ∙ ap (λ b. cond b 12 0) (le-ltb (length d) (u.namings * u.words) h)) in
        record {
          answer = ap₂ (λ n w. Ok (record { namings = n; words = w })) (namings-are a) (words_are a) ∙ ap (book_answer s) none;
          number = none;
          store-holds = e ∙ ap (λ q. book_store s q d) none;
        }
