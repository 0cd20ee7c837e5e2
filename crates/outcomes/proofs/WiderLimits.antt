-- A sheet that is accepted under some limits has the same outcomes under wider ones: of Book, List, Verdict, Snapshot and Clean whatever the stores, of Table in stores that suffice under the wider
-- ones. Assumes nothing.
use mathlib.Core.Path.{◌≡◌, refl, sym, ap, ap₂, ◌∙◌}
use mathlib.Core.Bool.{cond}
use mathlib.Core.List.{List}
use Prim.Native.Nat.{ℕ, ◌≤◌}
use native.Mathlib.Omega.{arith}
use lib.ListN.{length}
use borrow.Author.Tests.{le-ltb}
use Rattle.clean.specs.Same.{SameSheet}
use Rattle.reader.specs.Reader.{refusal_of}
use Rattle.limits.specs.declared.Limits.{Limits}
use Rattle.limits.specs.Limits.{Wider, limits_wrong, refusal_under, usual}
use Rattle.limits.proofs.LimitLaws.{wider-accepted}
use Rattle.prepare.specs.Width.{words_for}
use Rattle.prepare.proofs.WidthLaws.{words-wider}
use Rattle.std.specs.Prelude.{Result}
use Rattle.refusal.specs.declared.Refusal.{Refusal}
use Rattle.outcomes.specs.declared.Booked.{Booked}
use Rattle.outcomes.specs.declared.Tabled.{Tabled}
use Rattle.outcomes.specs.Outcomes.{BookIs, CleanIs, ListIs, SnapshotIs, TableIs, naming_refusal, or_else, store_refusal, table_refusal, verdict_of}
use Rattle.fitted.specs.Accepted.{namings_in}
use Rattle.outcomes.proofs.CleanSheet.{same-clean}
use Rattle.outcomes.proofs.SameOutcomes.{same-book, same-list, same-snapshot, same-tabled, same-verdict}

itself : (s : List ℕ) → SameSheet s s
itself s = record { line-one = refl; line-two = refl; forms-same = refl }

-- a store that is long enough
long-enough : (n a : ℕ) → n ≤ a → store_refusal n a ≡ 0
long-enough n a h = ap (λ b. cond b 12 0) (le-ltb a n h)

module _ {l m : Limits} (s : List ℕ) (w : Wider l m) (z : refusal_under l s ≡ 0) where
  pub wider-alike : refusal_under m s ≡ refusal_under l s
  wider-alike = wider-accepted l s z w ∙ sym z

  -- Table's stores suffice under the wider limits, so they do under the others
  wider-number : (r a b : ℕ) → words_for m.lean ≤ a → words_for m.lean ≤ b → table_refusal m s r a b ≡ table_refusal l s r a b
  unfolding table_refusal
  wider-number r a b h k =
      let c = words-wider l.lean w.lean in
      ap₂ (λ q e. or_else q (or_else (naming_refusal (namings_in s) r) e)) wider-alike
      (ap₂ or_else (long-enough (words_for m.lean) a h) (long-enough (words_for m.lean) b k)
      ∙ sym (ap₂ or_else (long-enough (words_for l.lean) a (omega arith)) (long-enough (words_for l.lean) b (omega arith))))

  pub wider-table : {r : ℕ} {d e d' e' : List ℕ} {o : Result Tabled Refusal} → words_for m.lean ≤ length d → words_for m.lean ≤ length e → TableIs l s r d e o d' e' → TableIs m s r d e o d' e'
  wider-table {r} {d} {e} h k = same-tabled (itself s) (wider-number r (length d) (length e) h k)

  pub wider-book : {d d' : List ℕ} {o : Result Booked Refusal} → BookIs l s d o d' → BookIs m s d o d'
  wider-book = same-book (itself s) m l wider-alike

  pub wider-list : {r : ℕ} {d d' : List ℕ} {o : Result ℕ Refusal} → ListIs l s r d o d' → ListIs m s r d o d'
  wider-list = same-list (itself s) m l wider-alike

  pub wider-verdict : verdict_of m s ≡ verdict_of l s
  wider-verdict = same-verdict (itself s) m l wider-alike

  pub wider-snapshot : {t row row' : List ℕ} {o : Result ℕ Refusal} → SnapshotIs l s t row o row' → SnapshotIs m s t row o row'
  wider-snapshot = same-snapshot (itself s) m l wider-alike

  pub wider-clean : {d d' : List ℕ} {o : Result ℕ Refusal} → CleanIs l s d o d' → CleanIs m s d o d'
  wider-clean = same-clean (itself s) m l wider-alike

-- ---- without limits

-- document 01's: its refusals 1 to 10, and 4 words in each store of Table
pub usual-table : (s : List ℕ) (r a b : ℕ) → table_refusal usual s r a b ≡ or_else (refusal_of s) (or_else (naming_refusal (namings_in s) r) (or_else (store_refusal 4 a) (store_refusal 4 b)))
unfolding table_refusal refusal_under limits_wrong words_for
usual-table s r a b = refl
