-- What Verdict answers at each of its returns. Assumes nothing.
use mathlib.Core.Path.{◌≡◌, refl, sym, ap, ◌∙◌}
use mathlib.Core.List.{List}
use Prim.Native.Nat.{ℕ}
use Rattle.std.specs.Prelude.{Ok, Err}
use Rattle.refusal.specs.declared.Refusal.{Refusal}
use Rattle.refusal.specs.Number.{number_of}
use Rattle.judge.specs.Judged as Judged
use Rattle.judge.specs.declared.Verdict.{Verdict}
use Rattle.judge.specs.declared.Verdict.TheVariants.{Open, Unsatisfiable}
use Rattle.outcomes.specs.Outcomes.{verdict_answer, verdict_by, verdict_of}
use Rattle.fitted.specs.Accepted.{verdict_in}
use Rattle.limits.specs.declared.Limits.{Limits}
use Rattle.limits.specs.Limits.{refusal_under}
use Rattle.outcomes.proofs.RefusalLaws.{refused-answer}

verdict-back : (v : Verdict) → v ≡ verdict_by (Judged.verdict_of v)
verdict-back (Open r t) = refl
verdict-back Unsatisfiable = refl

module _ (L : Limits) (s : List ℕ) where
  pub verdict-refused : (e : Refusal) → number_of e ≡ refusal_under L s → Err e ≡ verdict_of L s
  unfolding verdict_of
  verdict-refused e i = refused-answer e i (verdict_answer s) (λ q. refl)

  pub verdict-judged : refusal_under L s ≡ 0 → (v : Verdict) → verdict_in s ≡ Judged.verdict_of v → Ok v ≡ verdict_of L s
  unfolding verdict_of
  verdict-judged z v e = ap Ok (verdict-back v ∙ ap verdict_by (sym e)) ∙ ap (verdict_answer s) (sym z)
