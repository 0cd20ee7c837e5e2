-- Demands 2 and 3 follow from what Table and Verdict answer and leave. Assumes nothing.
use mathlib.Core.Path.{◌≡◌, refl, sym, ap, ◌∙◌, subst}
use mathlib.Core.Logic.{◌↔◌}
use mathlib.Core.List.{List}
use Prim.Native.Nat.{ℕ, zero, suc, ◌-◌, ◌*◌, ◌^◌, ◌≤◌, ◌<◌}
use native.Mathlib.Omega.{arith}
use lib.Dec.{T}
use lib.ListN.{length}
use Rattle.ctl.specs.Lists.{◌∈◌, elem}
use Rattle.ctl.specs.Positive.{positive}
use Rattle.ctl.specs.Tableau.{start_types}
use Rattle.ctl.specs.Verdict as Ctl
use Rattle.ctl.specs.Verdict.{rounds_of, surviving_types}
use Rattle.ctl.proofs.BoolLaws.{T-cast, T-cast⁻}
use Rattle.ctl.proofs.Demand3.{demand-3}
use Rattle.ctl.proofs.ListLaws.{elem_in, elem_out}
use Rattle.ctl.proofs.VerdictLaws.{open-some, surviving-iff}
use Rattle.wordset.specs.Words.{member}
use Rattle.wordset.proofs.WordLaws.{member-packed}
use Rattle.sheet.specs.Reading.{formulas, globals_of, goal_of, is_name, spell_of, values_in}
use Rattle.limits.specs.declared.Limits.{Limits}
use Rattle.limits.specs.Limits.{refusal_under}
use Rattle.limits.proofs.LimitLaws.{accepted-lean, accepted-read}
use Rattle.prepare.specs.Width.{words_for}
use Rattle.prepare.proofs.Bridge.{sheet-lean}
use Rattle.prepare.proofs.WidthLaws.{words-enough, words-wider}
use Rattle.prepare.specs.Prepared.{tableau_in}
use Rattle.std.specs.Prelude.{Result, Ok}
use Rattle.refusal.specs.declared.Refusal.{Refusal}
use Rattle.refusal.specs.Number.{refused_as}
use Rattle.judge.specs.declared.Verdict.{Verdict}
use Rattle.judge.specs.declared.Verdict.TheVariants as Judging
use Rattle.outcomes.specs.declared.Tabled.{Tabled}
use Rattle.outcomes.specs.Outcomes.{TableIs, table_answer, table_refusal, table_store, verdict_answer, verdict_by, verdict_of}
use Rattle.fitted.specs.Accepted.{holding, verdict_in, words_in}
use Rattle.outcomes.specs.Demands.{StandsByClosed, TableDemand2, TableDemand3, Tells, VerdictDemand2, VerdictDemand3, WholeClaim, tells-open, tells-unsatisfiable}
use Rattle.outcomes.proofs.RefusalLaws.{table_none}

-- ---- how wide a sheet is

enough : (s : List ℕ) → 2 ^ length (tableau_in s).ln ≤ words_in s * 64
unfolding words_in
enough s = words-enough (length (tableau_in s).ln)

-- a sheet that is accepted has no more words than the limit calls for
pub words-within : (L : Limits) (s : List ℕ) → refusal_under L s ≡ 0 → words_in s ≤ words_for L.lean
unfolding words_in
words-within L s z = words-wider (length (tableau_in s).ln) (subst (λ l. length l ≤ L.lean) (sym (sheet-lean s (accepted-read L s z))) (accepted-lean L s z))

whole : (s : List ℕ) → WholeClaim s (Ctl.verdict (tableau_in s) (positive (goal_of (formulas s))))
whole s = demand-3 (spell_of s) (is_name s) (values_in s) (globals_of (formulas s)) (goal_of (formulas s))

-- ---- Table

module _ (L : Limits) (s : List ℕ) (r : ℕ) where
  -- a store that holds the surviving types has the bits of these, and no other
  held : (d : List ℕ) → words_in s ≤ length d → (t : ℕ) → t < words_in s * 64 → T (member (holding s r d) t) ↔ (t ∈ surviving_types (tableau_in s) r)
  unfolding holding
  held d h t l = (
    λ x. elem_out t (surviving_types (tableau_in s) r) (T-cast (member-packed (λ t. elem t (surviving_types (tableau_in s) r)) d (words_in s) t h l) x),
    λ m. T-cast⁻ (member-packed (λ t. elem t (surviving_types (tableau_in s) r)) d (words_in s) t h l) (elem_in m),
  )

  -- what stands behind an answer that is no refusal
  pub record Behind (first second first' second' : List ℕ) (a : Tabled) : Type 0 where
    pub width : a.words ≡ words_in s
    pub few : a.rounds ≤ a.start - a.left
    pub enough : 2 ^ length (tableau_in s).ln ≤ words_in s * 64
    pub in-first : (t : ℕ) → t < words_in s * 64 → T (member first' t) ↔ (t ∈ surviving_types (tableau_in s) r)
    pub in-second : (t : ℕ) → t < words_in s * 64 → T (member second' t) ↔ (t ∈ surviving_types (tableau_in s) r)

  module _ {first second : List ℕ} {o : Result Tabled Refusal} {first' second' : List ℕ} (x : TableIs L s r first second o first' second') where
    behind : (a : Tabled) → o ≡ Ok a → Behind first second first' second' a
    behind a e =
        let z : table_refusal L s r (length first) (length second) ≡ 0 = sym x.number ∙ ap refused_as e in
        let n = table_none L s r (length first) (length second) z in
        let few = words-within L s n.0 in
        let i : ◌≡◌ {A = Result Tabled Refusal} (Ok a) (table_answer s r 0) = sym e ∙ x.answer ∙ ap (table_answer s r) z in
        let is : a ≡ record { words = words_in s; start = length (start_types (tableau_in s) r); left = length (surviving_types (tableau_in s) r); rounds = rounds_of (tableau_in s) r } = cc in
        let bits : (d d' : List ℕ) → d' ≡ table_store s r (table_refusal L s r (length first) (length second)) d → words_in s ≤ length d → (t : ℕ) → t < words_in s * 64 → T (member d' t) ↔ (t ∈ surviving_types (tableau_in s) r) =
        λ d d' f h. subst (λ d. (t : ℕ) → t < words_in s * 64 → T (member d t) ↔ (t ∈ surviving_types (tableau_in s) r)) (sym (f ∙ ap (λ k. table_store s r k d) z)) (held d h) in
        record {
          width = ap (λ q. q.words) is;
          few = subst (λ q. q.rounds ≤ q.start - q.left) (sym is) ((whole s).rounds-few r);
          enough = enough s;
          in-first = bits first first' x.first_holds (omega (arith, n.1.0));
          in-second = bits second second' x.second_holds (omega (arith, n.1.1));
        }

    -- the bits of a store are the types of closed families
    by-closed : (d : List ℕ) (w : ℕ) → w ≡ words_in s → ((t : ℕ) → t < words_in s * 64 → T (member d t) ↔ (t ∈ surviving_types (tableau_in s) r)) → StandsByClosed s r w d
    by-closed d w e h t l =
        let i = h t (subst (λ w. t < w * 64) e l) in
        let j = surviving-iff (tableau_in s) r t in
        (λ m. j.0 (i.0 m), λ f. i.1 (j.1 f))

    pub table-demand-2 : TableDemand2 s r o first' second'
    table-demand-2 = record {
      in-first = λ a e. (let b = behind a e in by-closed first' a.words b.width b.in-first);
      in-second = λ a e. (let b = behind a e in by-closed second' a.words b.width b.in-second);
    }

    pub table-demand-3 : TableDemand3 L s r o first' second'
    table-demand-3 = record {
      whole = λ z. whole s;
      few-rounds = λ a e. (behind a e).few;
      stands = λ a e g speaks fits i t l n. (let b = behind a e in
          let d = whole s in
          let top = b.enough in
          let small = n.small in
          let m = d.at-end g speaks.0 speaks.1 r fits i t l n in
          let h : t < words_in s * 64 = omega arith in
          (d.at-start g speaks.0 speaks.1 r fits i t l n, (d.after-rounds g speaks.0 speaks.1 r fits i t l n, ((b.in-first t h).1 m, (b.in-second t h).1 m))));
    }

-- ---- Verdict

module _ (L : Limits) (s : List ℕ) where
  by-verdict : refusal_under L s ≡ 0 → verdict_of L s ≡ Ok (verdict_by (verdict_in s))
  unfolding verdict_of
  by-verdict z = ap (verdict_answer s) z

  open-back : (a : Ctl.Verdict) (r t : ℕ) → ◌≡◌ {A = Result Verdict Refusal} (Ok (verdict_by a)) (Ok (Judging.Open r t)) → a ≡ Ctl.open' r t
  open-back Ctl.unsatisfiable r t e = absurd (let i : ◌≡◌ {A = ℕ} 0 1 = cc in omega arith)
  open-back (Ctl.open' q u) r t e = let i : q ≡ r = cc in let j : u ≡ t = cc in ap (λ n. Ctl.open' n u) i ∙ ap (Ctl.open' r) j

  unsatisfiable-back : (a : Ctl.Verdict) → ◌≡◌ {A = Result Verdict Refusal} (Ok (verdict_by a)) (Ok Judging.Unsatisfiable) → a ≡ Ctl.unsatisfiable
  unsatisfiable-back Ctl.unsatisfiable e = refl
  unsatisfiable-back (Ctl.open' q u) e = absurd (let i : ◌≡◌ {A = ℕ} 0 1 = cc in omega arith)

  tells : (a : Ctl.Verdict) → Tells (Ok (verdict_by a)) a
  tells Ctl.unsatisfiable = tells-unsatisfiable
  tells (Ctl.open' r t) = tells-open r t

  -- an answer that is no refusal comes of a sheet that is not refused
  not-refused : verdict_of L s ≡ Ok Judging.Unsatisfiable → refusal_under L s ≡ 0
  unfolding verdict_of
  not-refused e = go (refusal_under L s) refl e
    where
      go : (k : ℕ) → refusal_under L s ≡ k → verdict_answer s k ≡ Ok Judging.Unsatisfiable → refusal_under L s ≡ 0
      go zero z i = z
      go (suc k) z i = absurd (let j : ◌≡◌ {A = ℕ} 0 1 = cc in omega arith)

  module _ {v : Result Verdict Refusal} (x : v ≡ verdict_of L s) where
    pub verdict-demand-2 : VerdictDemand2 L s v
    unfolding verdict_in
    verdict-demand-2 = record {
      open-iff = λ z. (let i = open-some (tableau_in s) (positive (goal_of (formulas s))) in
          let e : v ≡ Ok (verdict_by (verdict_in s)) = x ∙ by-verdict z in
          (λ w. i.0 (w.0, w.1, open-back (verdict_in s) w.0 w.1 (sym e ∙ w.2)), λ h. (let w = i.1 h in (w.0, w.1, e ∙ ap (λ a. Ok (verdict_by a)) w.2))));
    }

    pub verdict-demand-3 : VerdictDemand3 L s v
    unfolding verdict_in
    verdict-demand-3 = record {
      whole = λ z. (verdict_in s, subst (λ a. Tells a (verdict_in s)) (sym (x ∙ by-verdict z)) (tells (verdict_in s)), whole s);
      nowhere = λ e g speaks. (let z = not-refused (sym x ∙ e) in (whole s).goal-nowhere (unsatisfiable-back (verdict_in s) (sym (by-verdict z) ∙ sym x ∙ e)) g speaks.0 speaks.1);
    }
