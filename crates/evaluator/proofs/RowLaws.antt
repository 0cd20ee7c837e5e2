-- The row, from the sets of the members. Assumes nothing.
use Prim.Native.Nat.{ℕ, suc, ◌+◌, ◌-◌, ◌≤◌, ◌<◌}
use native.Mathlib.Omega.{arith}
use native.Mathlib.Numerals.{add-one}
use native.Mathlib.Nat.{lt_of_le_of_lt}
use native.Mathlib.Decide.{dec_le}
use mathlib.Core.Path.{◌≡◌, sym, ap, ap₂, ◌∙◌}
use mathlib.Core.Bool.{Bool, cond, ◌&&◌}
use mathlib.Core.List.{List, ◌++◌, map}
use lib.Bits.{bit_and, and_le_l}
use lib.ListN.{length, get_or, drop, length-append, length-drop, get_or-append}
use lib.Seq.{ext_get_or, get_or-append-add, get_or-drop}
use Rattle.wordset.specs.Below.{all_below}
use Rattle.wordset.specs.Word.{bit, word_of}
use Rattle.wordset.specs.Words.{filled}
use Rattle.wordset.proofs.BelowLaws.{all-ext}
use Rattle.wordset.proofs.BitLaws.{bit-and, bit-word_of, word_of-is, word_of-lt}
use Rattle.wordset.proofs.WordLaws.{filled_at, filled-past, length-filled}
use Rattle.ctl.specs.Evaluator.{sat}
use Rattle.truth.specs.Tables.{form}
use Rattle.truth.proofs.ListWords.{all_list}
use Rattle.snapshot_text.specs.Store.{of_store}
use Rattle.edges.specs.Nodes.{full_word}
use Rattle.evaluator.specs.Values.{all_word, cell_by}
use Rattle.evaluator.specs.Rows.{cell_of, row_of}
use Rattle.evaluator.proofs.RowMeaning.{row_at, row-length}

-- ---- the nodes that are in several sets

module _ (sets members : List ℕ) (n : ℕ) where
  abbrev pub in_all : ℕ → ℕ → Bool
  in_all k i = all_below k (λ j. bit (get_or sets (get_or members j 0) 0) i)

  pub all-begin : (x : ℕ) → x ≡ full_word n → x ≡ word_of n (in_all 0)
  unfolding full_word all_below
  all-begin x e = e

  pub all-on : (k x w : ℕ) → x ≡ word_of n (in_all k) → w ≡ get_or sets (get_or members k 0) 0 → bit_and x w ≡ word_of n (in_all (k + 1))
  unfolding all_below
  all-on k x w e f =
      ap₂ bit_and e f
      ∙ word_of-is n (in_all (suc k)) (bit_and (word_of n (in_all k)) (get_or sets (get_or members k 0) 0))
      (lt_of_le_of_lt (and_le_l (word_of n (in_all k)) (get_or sets (get_or members k 0) 0)) (word_of-lt n (in_all k)))
      (λ i h. bit-and (word_of n (in_all k)) (get_or sets (get_or members k 0) 0) i ∙ ap (λ b. b && bit (get_or sets (get_or members k 0) 0) i) (bit-word_of n (in_all k) i h))
      ∙ ap (λ j. word_of n (in_all j)) (sym (add-one k))

  pub all_end : (k x : ℕ) → k ≤ length members → length members ≤ k → x ≡ word_of n (in_all k) → x ≡ all_word sets members n
  unfolding all_word
  all_end k x h l e = let g : k ≡ length members = omega arith in e ∙ ap (λ j. word_of n (in_all j)) g

-- ---- a list whose first elements were filled, as two parts

filled-front : (g : ℕ → ℕ) (d r : List ℕ) (n : ℕ) → n ≤ length d → length r ≡ n → ((i : ℕ) → i < n → get_or r i 0 ≡ g i) → filled n g d ≡ r ++ drop n d
filled-front g d r n h f a =
    ext_get_or 0 (filled n g d) (r ++ drop n d)
    (length-filled g d n ∙ (let e = length-append r (drop n d) in let k = length-drop n d in omega arith))
    (λ i l. at i (dec_le n i))
  where
    at : (i : ℕ) → Dec (n ≤ i) → get_or (filled n g d) i 0 ≡ get_or (r ++ drop n d) i 0
    at i (no l) = filled_at g d n i h (omega arith) ∙ sym (a i (omega arith)) ∙ sym (get_or-append r (drop n d) 0 i (omega arith))
    at i (yes l) =
        let e : length r + (i - n) ≡ i = omega arith in
        let e' : n + (i - n) ≡ i = omega arith in
        filled-past g d n i l ∙ ap (λ k. get_or d k 0) (sym e') ∙ sym (get_or-drop n d (i - n) 0)
        ∙ sym (get_or-append-add r (drop n d) (i - n) 0) ∙ ap (λ k. get_or (r ++ drop n d) k 0) e

-- ---- the row

module _ (out ws : List ℕ) (n goal : ℕ) (globals : List ℕ) (hgoal : goal < length ws) (hglob : (k : ℕ) → k < length globals → get_or globals k 0 < length ws)
    (sets₀ sets : List ℕ) (long : length ws ≤ length sets₀) (es : sets ≡ filled (length ws) (λ k. word_of n (sat (of_store n out) (form ws k))) sets₀) where
  member-bit : (k i : ℕ) → k < length ws → i < n → bit (get_or sets k 0) i ≡ sat (of_store n out) (form ws k) i
  member-bit k i h l =
      ap (λ (x : List ℕ). bit (get_or x k 0) i) es
      ∙ ap (λ w. bit w i) (filled_at (λ k. word_of n (sat (of_store n out) (form ws k))) sets₀ (length ws) k long h)
      ∙ bit-word_of n (sat (of_store n out) (form ws k)) i l

  cell-is : (g a : ℕ) → g ≡ get_or sets goal 0 → a ≡ all_word sets globals n → (i : ℕ) → i < n → cell_by g a i ≡ cell_of (of_store n out) (form ws goal) (map (form ws) globals) i
  unfolding all_word
  cell-is g a eg ea i l =
      ap₂ (λ (x y : Bool). cond x 1 0 + cond y 2 0)
      (ap (λ w. bit w i) eg ∙ member-bit goal i hgoal l)
      (ap (λ w. bit w i) ea ∙ bit-word_of n (in_all sets globals n (length globals)) i l
      ∙ all-ext (λ k. bit (get_or sets (get_or globals k 0) 0) i) (λ k. sat (of_store n out) (form ws (get_or globals k 0)) i) (length globals) (λ k lk. member-bit (get_or globals k 0) i (hglob k lk) l)
      ∙ all_list (λ χ. sat (of_store n out) χ i) (form ws) 0 globals)

  pub row_is : (d : List ℕ) (g a : ℕ) → n ≤ length d → g ≡ get_or sets goal 0 → a ≡ all_word sets globals n
      → filled n (cell_by g a) d ≡ row_of (of_store n out) (form ws goal) (map (form ws) globals) ++ drop n d
  unfolding of_store
  row_is d g a h eg ea =
      filled-front (cell_by g a) d (row_of (of_store n out) (form ws goal) (map (form ws) globals)) n h
      (row-length (of_store n out) (form ws goal) (map (form ws) globals))
      (λ i l. row_at (of_store n out) (form ws goal) (map (form ws) globals) i l ∙ sym (cell-is g a eg ea i l))
