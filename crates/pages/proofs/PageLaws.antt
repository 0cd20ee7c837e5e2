-- Filling a page, naming after naming: what one naming more makes of the verdict and of the bytes. Assumes nothing.
use mathlib.Core.Path.{◌≡◌, refl, sym, ap, ap₂, ◌∙◌, subst}
use mathlib.Core.List.{List, [], ◌∷◌, ◌++◌, append_assoc}
use mathlib.Core.Logic.{◌⊎◌, inl, inr}
use Rattle.std.specs.Prelude.{Option, Some, None}
use Prim.Native.Nat.{ℕ, ◌+◌, ◌≤◌, ◌<◌}
use native.Mathlib.Omega.{arith}
use lib.ListN.{length, take}
use Rattle.wordset.proofs.BelowLaws.{top}
use Rattle.tableau.specs.Families.{Rounds, Survivors}
use Rattle.goal.specs.Goals.{first_of}
use Rattle.start.specs.Starts.{start_list}
use Rattle.tableau.specs.Tabled.{Tabled}
use Rattle.tableau.specs.declared.table.Counts.{Counts}
use Rattle.naming.specs.Next.{next_of}
use Rattle.naming.specs.declared.Naming.{Naming}
use Rattle.naming.proofs.NextLaws.{next-count, next-number}
use Rattle.judge.specs.Judged.{Judged, opens, closes}
use Rattle.judge.specs.declared.Verdict.{Verdict}
use Rattle.judge.specs.declared.Verdict.TheVariants.{Unsatisfiable}
use Rattle.lines.specs.Lines.{naming_line}
use Rattle.buffer.specs.Put.{Put}
use Rattle.buffer.proofs.PutLaws.{put_front}
use Rattle.pages.specs.Later.{later_of}
use Rattle.pages.specs.Pages.{Paged, row_at, rows}
use Rattle.pages.proofs.RowLaws.{rows_next}

-- ---- the verdict on one naming more

none_first : (l : List ℕ) → None ≡ first_of l → l ≡ []
unfolding first_of
none_first [] e = refl
none_first (t ∷ ts) e = absurd cc

module _ {goals : ℕ → List ℕ} where
  pub judged-none : Judged goals 0 Unsatisfiable
  judged-none = closes (λ q h. absurd (omega arith))

  later-is : {v : Verdict} {n : ℕ} (f : Option ℕ) → Judged goals n v → f ≡ first_of (goals n) → Judged goals (n + 1) (later_of v n f)
  unfolding later_of
  later-is {v} {n} f (opens {r} {t} l h e) i = let k : r < n + 1 = omega arith in opens k h e
  later-is {v} {n} (Some t) (closes h) i = let k : n < n + 1 = omega arith in opens k h (sym i)
  later-is {v} {n} None (closes h) i = closes (λ q l. go q (top q n (omega arith)))
    where
      go : (q : ℕ) → (q ≡ n) ⊎ (q < n) → goals q ≡ []
      go q (inl e) = subst (λ k. goals k ≡ []) (sym e) (none_first (goals n) i)
      go q (inr l) = h q l

  judged-later : {v a : Verdict} {r : ℕ} {f : Option ℕ} → Judged goals r v → f ≡ first_of (goals r) → a ≡ later_of v r f → Judged goals (r + 1) a
  judged-later {v} {a} {r} {f} j i e = subst (λ x. Judged goals (r + 1) x) (sym e) (later-is f j i)

  pub judged-at : {v : Verdict} {n r : ℕ} → Judged goals r v → r ≡ n → Judged goals n v
  judged-at {v} j e = subst (λ k. Judged goals k v) e j

-- ---- the line of a naming whose table is filled

pub counted : (ms ln : List ℕ) (w : ℕ) (base names newline : List ℕ) (r : ℕ) {a b a' b' : List ℕ} {c : Counts}
    → Tabled (start_list w base names (length ln) r) (Survivors ms ln (start_list w base names (length ln) r)) (Rounds ms ln (start_list w base names (length ln) r)) w a b a' b' c
    → naming_line r c.start c.left c.rounds newline ≡ row_at ms ln w base names newline r
unfolding row_at
counted ms ln w base names newline r t = cc

-- ---- the loop: the namings from `start` up to n are in the buffer and judged, and the stores keep their lengths

pub record Paging (line goals : ℕ → List ℕ) (start : Naming) (used : ℕ) (out₀ out first second : List ℕ) (v : Verdict) (k : ℕ) (n : Naming) : Type 0 where
  pub text : take k out ≡ take used out₀ ++ rows line start.number n.number
  pub onward : start.number ≤ n.number
  pub within : n.number ≤ n.count
  pub same_count : n.count ≡ start.count
  pub judged : Judged goals n.number v
  pub out-same : length out ≡ length out₀
  pub first-long : length first ≡ 64
  pub second-long : length second ≡ 64

module _ {line goals : ℕ → List ℕ} {start : Naming} {used : ℕ} {out₀ : List ℕ} where
  module _ {out first second : List ℕ} {v : Verdict} {k : ℕ} {n : Naming} (p : Paging line goals start used out₀ out first second v k n) where
    pub paging-next : n.number < n.count → k ≤ length out → {l out' : List ℕ} {k' : ℕ} → Put k l out out' k' → l ≡ line n.number → length out' ≡ length out → {first' second' : List ℕ} → length first' ≡ length first → length second' ≡ length second
        → {f : Option ℕ} {a : Verdict} {m : Naming} → f ≡ first_of (goals n.number) → a ≡ later_of v n.number f → m ≡ next_of n → Paging line goals start used out₀ out' first' second' a k' m
    paging-next h r {l} {out'} {k'} q e o {first'} {second'} x y {f} {a} {m} i j z =
        let c = next-count n m z refl in
        let u = next-number n m z h in
        let s = p.onward in
        record {
          text =
              put_front r q ∙ ap₂ ◌++◌ p.text e ∙ append_assoc (take used out₀) (rows line start.number n.number) (line n.number)
              ∙ ap (λ t. take used out₀ ++ t) (sym (rows_next line start.number n.number s) ∙ ap (rows line start.number) (sym u));
          onward = omega arith;
          within = omega arith;
          same_count = c ∙ p.same_count;
          judged = judged-at (judged-later p.judged i j) (sym u);
          out-same = o ∙ p.out-same;
          first-long = x ∙ p.first-long;
          second-long = y ∙ p.second-long;
        }

    pub page-done : (n.number < n.count → start.number < n.number) → k + 128 ≤ length out → Paged line goals start used out₀ out (record { naming = n; used = k; verdict = v })
    page-done f r =
        let c = p.same_count in
        let w = p.within in
        record {
          text = p.text;
          within = omega arith;
          same_count = c;
          further = λ h. f (omega arith);
          judged = p.judged;
          room = r;
        }

    pub first-room : {w : ℕ} → w ≤ 64 → w ≤ length first
    first-room h = let a = p.first-long in omega arith
