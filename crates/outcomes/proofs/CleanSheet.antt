-- What Clean wrote is a sheet that is accepted under the limits under which the sheet is, says the same, has the same outcome of every operation, and is clean already. The goal's
-- text alone is another: its print. Assumes nothing.
use mathlib.Core.Path.{◌≡◌, refl, sym, ap, ap₂, ◌∙◌, subst}
use mathlib.Core.Logic.{◌↔◌}
use mathlib.Core.Bool.{Bool, true, false, cond}
use mathlib.Core.List.{List, ◌++◌, map}
use Prim.Native.Nat.{ℕ, zero, suc, ◌≤◌, ◌<◌}
use native.Mathlib.Omega.{arith}
use lib.ListN.{length, drop, get_or, take, get_or-map}
use lib.Seq.{take_at}
use Rattle.ctl.specs.Formula.{Form}
use Rattle.ctl.specs.Raw.{Raw}
use Rattle.ctl.specs.Positive.{positive}
use Rattle.ctl.specs.Snapshot.{Snapshot}
use Rattle.ctl.specs.Meaning.{HoldsRaw}
use Rattle.head.specs.Head.{kinds, spellings}
use Rattle.sheet.specs.Refusal.{read_refusal}
use Rattle.sheet.specs.Reading.{formulas}
use Rattle.reader.specs.Reader.{forms, members, places, refusal_within}
use Rattle.limits.specs.declared.Limits.{Limits}
use Rattle.limits.specs.Limits.{limits_wrong, refusal_under}
use Rattle.limits.proofs.LimitLaws.{accepted-read, accepted-within}
use Rattle.prepare.specs.Prepared.{tableau_in}
use Rattle.clean.specs.Clean.{clean_text, clean_wrong}
use Rattle.clean.specs.Same.{SameSheet}
use Rattle.clean.proofs.SameLaws.{same-kinds, same-members, same-places, same-spellings, same_text, same-within, same-wrong}
use Rattle.clean.proofs.CleanSame.{clean-fits, written_read, written_same}
use Rattle.std.specs.Prelude.{Result, Ok}
use Rattle.refusal.specs.declared.Refusal.{Refusal}
use Rattle.outcomes.specs.declared.Booked.{Booked}
use Rattle.outcomes.specs.declared.Tabled.{Tabled}
use Rattle.outcomes.specs.Outcomes.{BookIs, CleanIs, ListIs, SnapshotIs, TableIs, clean_answer, clean_refusal, clean_store, or_else, verdict_of}
use Rattle.outcomes.proofs.RefusalLaws.{else-none}
use Rattle.outcomes.proofs.SameOutcomes.{moved, one_form, same-book, same-list, same-snapshot, same-table, same-tableau, same-verdict}

-- ---- sheets that say the same are cleaned alike

module _ {s t : List ℕ} (x : SameSheet s t) (K L : Limits) (a : refusal_under K t ≡ refusal_under L s) where
  clean-number : (n : ℕ) → clean_refusal K t n ≡ clean_refusal L s n
  unfolding clean_refusal
  clean-number n = ap₂ (λ k b. or_else k (cond b 18 0)) a (same-wrong x n)

  clean-told : (k : ℕ) → clean_answer t k ≡ clean_answer s k
  clean-told zero = ap (λ w. Ok (length w)) (same_text x)
  clean-told (suc k) = refl

  clean-left : (d : List ℕ) (k : ℕ) → clean_store t k d ≡ clean_store s k d
  clean-left d zero = ap (λ w. w ++ drop (length w) d) (same_text x)
  clean-left d (suc k) = refl

  pub same-clean : {d d' : List ℕ} {o : Result ℕ Refusal} → CleanIs L s d o d' → CleanIs K t d o d'
  same-clean {d} h = let k = clean-number (length d) in record { answer = moved k clean-told h.answer; number = h.number ∙ sym k; store-holds = moved k (clean-left d) h.store-holds }

-- formula j of one sheet has the positive form of formula j of the other
form-at : (l m : List Raw) → map positive l ≡ map positive m → (j : ℕ) → positive (get_or l j Raw.zero) ≡ positive (get_or m j Raw.zero)
form-at l m e j = sym (get_or-map positive l j Raw.zero) ∙ ap (λ (q : List Form). get_or q j (positive Raw.zero)) e ∙ get_or-map positive m j Raw.zero

-- ---- what Clean wrote

module _ {L : Limits} {s d d' : List ℕ} {n : ℕ} (h : CleanIs L s d (Ok n) d') where
  pub clean-none : clean_refusal L s (length d) ≡ 0
  clean-none = sym h.number

  both : (refusal_under L s ≡ 0) × (◌≡◌ {A = ℕ} (cond (clean_wrong s (length d)) 18 0) 0)
  unfolding clean_refusal
  both = else-none (refusal_under L s) (cond (clean_wrong s (length d)) 18 0) clean-none

  right : clean_wrong s (length d) ≡ false
  right = go (clean_wrong s (length d)) both.1
    where
      go : (b : Bool) → ◌≡◌ {A = ℕ} (cond b 18 0) 0 → b ≡ false
      go true e = absurd (omega arith)
      go false e = refl

  length-is : n ≡ length (clean_text s)
  length-is = let e : ◌≡◌ {A = Result ℕ Refusal} (Ok n) (Ok (length (clean_text s))) = h.answer ∙ ap (clean_answer s) clean-none in cc

  -- they have room in the store
  pub clean-room : n ≤ length d
  clean-room = let f = (clean-fits s (length d) right).inside in let e = length-is in omega arith

  -- the bytes that were written
  pub clean_is : take n d' ≡ clean_text s
  clean_is = ap (take n) (h.store-holds ∙ ap (λ k. clean_store s k d) clean-none) ∙ take_at (clean_text s) (drop (length (clean_text s)) d) n (sym length-is)

  -- ---- what they say

  pub clean-same : SameSheet s (take n d')
  clean-same = subst (SameSheet s) (sym clean_is) (written_same L.closure L.lean (length d) s (accepted-within L s both.0) right)

  clean-read : read_refusal (take n d') ≡ 0
  clean-read = subst (λ w. read_refusal w ≡ 0) (sym clean_is) (written_read L.closure L.lean (length d) s (accepted-within L s both.0) right)

  -- accepted under the same limits, whatever they are
  pub clean-within : (most wide : ℕ) → refusal_within most wide (take n d') ≡ refusal_within most wide s
  clean-within = same-within (accepted-read L s both.0) clean-read clean-same

  pub clean-under : (K : Limits) → refusal_under K (take n d') ≡ refusal_under K s
  unfolding refusal_under
  clean-under K = ap (cond (limits_wrong K) 19) (clean-within K.closure K.lean)

  pub clean-accepted : refusal_under L (take n d') ≡ 0
  clean-accepted = clean-under L ∙ both.0

  pub clean-symbols : (spellings (take n d') ≡ spellings s) × (kinds (take n d') ≡ kinds s)
  clean-symbols = (same-spellings clean-same, same-kinds clean-same)

  pub clean-forms : forms (take n d') ≡ forms s
  clean-forms = clean-same.forms-same

  pub clean-lean : (members (take n d') ≡ members s) × (places (take n d') ≡ places s)
  clean-lean = (same-members clean-same, same-places clean-same)

  -- hence the namings, start types, families, rounds and survivors
  pub clean-tableau : tableau_in (take n d') ≡ tableau_in s
  clean-tableau = same-tableau clean-same

  -- each formula as typed holds at the same nodes of every snapshot
  pub clean-means : (g : Snapshot) (j i : ℕ) → i < g.n → HoldsRaw g (get_or (formulas (take n d')) j Raw.zero) i ↔ HoldsRaw g (get_or (formulas s) j Raw.zero) i
  clean-means g j = one_form g (get_or (formulas (take n d')) j Raw.zero) (get_or (formulas s) j Raw.zero) (form-at (formulas (take n d')) (formulas s) clean-forms j)

  -- ---- the operations, under whatever limits

  pub clean-table : {K : Limits} {r : ℕ} {a b a' b' : List ℕ} {o : Result Tabled Refusal} → TableIs K s r a b o a' b' → TableIs K (take n d') r a b o a' b'
  clean-table {K} = same-table clean-same K (clean-under K)

  pub clean-book : {K : Limits} {e e' : List ℕ} {o : Result Booked Refusal} → BookIs K s e o e' → BookIs K (take n d') e o e'
  clean-book {K} = same-book clean-same K K (clean-under K)

  pub clean-list : {K : Limits} {r : ℕ} {e e' : List ℕ} {o : Result ℕ Refusal} → ListIs K s r e o e' → ListIs K (take n d') r e o e'
  clean-list {K} = same-list clean-same K K (clean-under K)

  pub clean-verdict : (K : Limits) → verdict_of K (take n d') ≡ verdict_of K s
  clean-verdict K = same-verdict clean-same K K (clean-under K)

  pub clean-snapshot : {K : Limits} {u row row' : List ℕ} {o : Result ℕ Refusal} → SnapshotIs K s u row o row' → SnapshotIs K (take n d') u row o row'
  clean-snapshot {K} = same-snapshot clean-same K K (clean-under K)

  -- into whatever store: cleaned again, it is what it is
  pub clean-again : {K : Limits} {e e' : List ℕ} {o : Result ℕ Refusal} → CleanIs K s e o e' → CleanIs K (take n d') e o e'
  clean-again {K} = same-clean clean-same K K (clean-under K)

  pub clean-stays : clean_text (take n d') ≡ take n d'
  clean-stays = same_text clean-same ∙ sym clean_is
