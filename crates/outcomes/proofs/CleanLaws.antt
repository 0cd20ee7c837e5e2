-- What Clean answers and leaves at each of its returns. Assumes nothing.
use mathlib.Core.Path.{◌≡◌, refl, sym, ap, ◌∙◌}
use mathlib.Core.Bool.{Bool, true, false, cond}
use mathlib.Core.List.{List, ◌++◌}
use Prim.Native.Nat.{ℕ}
use lib.ListN.{length, drop}
use Rattle.limits.specs.declared.Limits.{Limits}
use Rattle.limits.specs.Limits.{refusal_under}
use Rattle.clean.specs.Clean.{clean_text, clean_wrong}
use Rattle.clean.specs.Written.{Written}
use Rattle.std.specs.Prelude.{Option, Some, None, Err, ok_or}
use Rattle.refusal.specs.declared.Refusal.{Refusal}
use Rattle.refusal.specs.declared.Refusal.TheVariants as Refusing
use Rattle.refusal.specs.Number.{number_of, refused_as}
use Rattle.outcomes.specs.Outcomes.{CleanIs, clean_answer, clean_refusal, clean_store}
use Rattle.outcomes.proofs.RefusalLaws.{else-next, refused-answer, refused-store, sheet-first}

module _ (L : Limits) (s d : List ℕ) where
  -- a refusal leaves the store alone
  pub clean-refused : (e : Refusal) → number_of e ≡ refusal_under L s → CleanIs L s d (Err e) d
  unfolding clean_refusal
  clean-refused e i =
      let n = sheet-first e (cond (clean_wrong s (length d)) 18 0) i in
      record { answer = refused-answer e n (clean_answer s) (λ q. refl); number = n; store-holds = refused-store e n d (λ q. clean_store s q d) (λ q. refl) }

  module _ (z : refusal_under L s ≡ 0) where
    number_is : clean_refusal L s (length d) ≡ cond (clean_wrong s (length d)) 18 0
    unfolding clean_refusal
    number_is = else-next (refusal_under L s) (cond (clean_wrong s (length d)) 18 0) z

    pub clean-written : {o : Option ℕ} {d' : List ℕ} → Written s d o d' → CleanIs L s d (ok_or o Refusing.Clean) d'
    clean-written {o} {d'} w = go (clean_wrong s (length d)) refl
      where
        told : {b : Bool} → clean_wrong s (length d) ≡ b → ok_or o Refusing.Clean ≡ ok_or (cond b None (Some (length (clean_text s)))) Refusing.Clean
        told i = ap (λ q. ok_or q Refusing.Clean) (w.answer ∙ ap (λ b. cond b None (Some (length (clean_text s)))) i)

        left : {b : Bool} → clean_wrong s (length d) ≡ b → d' ≡ cond b d (clean_text s ++ drop (length (clean_text s)) d)
        left i = w.store-holds ∙ ap (λ b. cond b d (clean_text s ++ drop (length (clean_text s)) d)) i

        go : (b : Bool) → clean_wrong s (length d) ≡ b → CleanIs L s d (ok_or o Refusing.Clean) d'
        go true i = let n : 18 ≡ clean_refusal L s (length d) = sym (number_is ∙ ap (λ b. cond b 18 0) i) in
            record { answer = told i ∙ ap (clean_answer s) n; number = ap refused_as (told i) ∙ n; store-holds = left i ∙ ap (λ m. clean_store s m d) n }
        go false i = let n : 0 ≡ clean_refusal L s (length d) = sym (number_is ∙ ap (λ b. cond b 18 0) i) in
            record { answer = told i ∙ ap (clean_answer s) n; number = ap refused_as (told i) ∙ n; store-holds = left i ∙ ap (λ m. clean_store s m d) n }
