-- The words of a place: which of the 64 types of a word have it. Assumes nothing.
use mathlib.Core.Path.{◌≡◌, refl, sym, ap, ◌∙◌}
use mathlib.Core.Bool.{Bool, ◌&&◌, true, false, beq}
use mathlib.Core.List.{List, [], ◌∷◌}
use Prim.Native.Nat.{ℕ, ◌+◌, ◌-◌, ◌*◌, ◌/◌, ◌%◌, ◌^◌, ◌≤◌, ◌<◌}
use native.Mathlib.Nat.{div-div-eq-div-mul}
use native.Mathlib.Omega.{arith}
use lib.Dec.{eqb, ltb}
use lib.ListN.{get_or}
use lib.Pow.{pow-add}
use borrow.Author.Tests.{ltb-true}
use Rattle.ctl.specs.Types.{in_type}
use Rattle.ctl.proofs.BoolLaws.{and_both}
use Rattle.wordset.proofs.BitLaws.{digit_low}
use Rattle.wordset.proofs.BelowLaws.{all-elim}
use Rattle.wordset.proofs.CompareLaws.{beq-true}
use Rattle.wordset.specs.Below.{all_below}
use Rattle.wordset.specs.Word.{bit}
use Rattle.wordset.specs.Answers.{Answers}
use Rattle.truth.proofs.BlockLaws.{word-full, word_none}

-- words of a list that a computed test finds to answer P i on the first 64 numbers
pub computed : (P : ℕ → ℕ → Bool) (l : List ℕ) (n : ℕ) → all_below n (λ i. ltb (get_or l i 0) (2 ^ 64) && all_below 64 (λ b. beq (P i b) (bit (get_or l i 0) b))) ≡ true
    → (i : ℕ) → i < n → (get_or l i 0 < 2 ^ 64) × ((b : ℕ) → b < 64 → P i b ≡ bit (get_or l i 0) b)
computed P l n e i h =
    let c = and_both (ltb (get_or l i 0) (2 ^ 64)) _ (all-elim (λ i. ltb (get_or l i 0) (2 ^ 64) && all_below 64 (λ b. beq (P i b) (bit (get_or l i 0) b))) n e i h) in
    (ltb-true _ _ c.0, λ b k. beq-true _ _ (all-elim (λ b. beq (P i b) (bit (get_or l i 0) b)) 64 c.1 b k))

-- the words of the places below 6, each the same for all words
abbrev low-places : List ℕ
low-places = 12297829382473034410 ∷ 14757395258967641292 ∷ 17361641481138401520 ∷ 18374966859414961920 ∷ 18446462603027742720 ∷ 18446744069414584320 ∷ []

checked : all_below 6 (λ i. ltb (get_or low-places i 0) (2 ^ 64) && all_below 64 (λ b. beq (in_type b i) (bit (get_or low-places i 0) b))) ≡ true
unfolding all_below bit
checked = refl

pub low_word : (i k : ℕ) → i < 6 → Answers (λ t. in_type t i) k (get_or low-places i 0)
low_word i k h =
    let c = computed (λ i b. in_type b i) low-places 6 checked i h in
    record { small = c.0; each = λ b l. ap (λ v. eqb v 1) (digit_low k b i 6 h) ∙ c.1 b l }

-- a place of a whole word is bit i - 6 of the word's number
high-shift : (i k b : ℕ) → 6 ≤ i → b < 64 → in_type (k * 64 + b) i ≡ in_type k (i - 6)
high-shift i k b h l =
    let e : i ≡ 6 + (i - 6) = omega arith in
    let q : (k * 64 + b) / 64 ≡ k = omega arith in
    ap (λ (v : ℕ). eqb (v % 2) 1)
    (ap (λ (d : ℕ). (k * 64 + b) / d) (ap (λ (j : ℕ). 2 ^ j) e ∙ pow-add 2 6 (i - 6)) ∙ sym (div-div-eq-div-mul (k * 64 + b) 64 (2 ^ (i - 6))) ∙ ap (λ (v : ℕ). v / 2 ^ (i - 6)) q)

pub high-full : (i k : ℕ) → 6 ≤ i → in_type k (i - 6) ≡ true → Answers (λ t. in_type t i) k 18446744073709551615
high-full i k h e = record { small = omega arith; each = λ b l. high-shift i k b h l ∙ e ∙ (word-full {i = k}).each b l }

pub high-none : (i k : ℕ) → 6 ≤ i → in_type k (i - 6) ≡ false → Answers (λ t. in_type t i) k 0
high-none i k h e = record { small = omega arith; each = λ b l. high-shift i k b h l ∙ e ∙ (word_none {i = k}).each b l }
