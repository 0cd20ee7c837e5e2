-- The store on the way: what is in it when the reader stands at an entry. Assumes nothing.
use Prim.Native.Nat.{ℕ, ◌+◌, ◌*◌, ◌≤◌, ◌<◌}
use native.Mathlib.Omega.{arith}
use native.Mathlib.Numerals.{add-one}
use native.Mathlib.Decide.{dec_le}
use mathlib.Core.Path.{◌≡◌, sym, ap, ap₂, ◌∙◌, subst}
use mathlib.Core.List.{List, [], ◌∷◌, ◌++◌, append_assoc, append-nil}
use lib.ListN.{length, get_or, set, length-set}
use lib.Seq.{get_or-set_same, get_or-set_other, set_out}
use Rattle.snapshot_text.specs.Text.{decimal, line_text, lines_text}
use Rattle.snapshot_text.proofs.Listed.{listed, listed_same}
use Rattle.snapshot_text.proofs.Spelling.{parts, parts_more, parts_same, line-parts, lines_more}

-- the entries of node i in a store
unfoldable pub row_at : List ℕ → ℕ → ℕ → List ℕ
row_at out m i = listed m (λ k. get_or out (i * 8 + k) 0)

-- the text of the nodes before i and of the first k entries of node i
unfoldable pub before : ℕ → List ℕ → ℕ → ℕ → List ℕ
before m out i k = lines_text (listed i (row_at out m)) ++ parts k (λ j. get_or out (i * 8 + j) 0)

-- the store before entry k of node i is read: entries below 100, zeros behind and for symbols from m on
pub record Kept (m : ℕ) (out : List ℕ) (i k : ℕ) : Type 0 where
  pub small : (p : ℕ) → get_or out p 0 < 100
  pub beyond : (p : ℕ) → i * 8 + k < p → get_or out p 0 ≡ 0
  pub blank : (j l : ℕ) → l < 8 → m ≤ l → get_or out (j * 8 + l) 0 ≡ 0
  pub long : length out ≡ 128

-- entry v is stored for symbol k at node i
module _ (m : ℕ) (hm : m ≤ 8) (out : List ℕ) (i k v : ℕ) (hk : k < m) where
  abbrev pub stored : List ℕ
  stored = set out (i * 8 + k) v

  -- other places are as they were, and so is the text before
  other : (p : ℕ) → (p ≡ i * 8 + k → ⊥) → get_or stored p 0 ≡ get_or out p 0
  other p h = get_or-set_other out (i * 8 + k) p v 0 h

  pub frame : before m stored i k ≡ before m out i k
  unfolding before row_at
  frame =
      ap₂ (λ (x y : List ℕ). x ++ y)
      (ap lines_text (listed_same i (row_at stored m) (row_at out m) (λ j l. listed_same m (λ n. get_or stored (j * 8 + n) 0) (λ n. get_or out (j * 8 + n) 0) (λ n g. other (j * 8 + n) (λ e. omega arith)))))
      (parts_same k (λ j. get_or stored (i * 8 + j) 0) (λ j. get_or out (i * 8 + j) 0) (λ j l. other (i * 8 + j) (λ e. omega arith)))

  pub kept_set : v < 100 → Kept m out i k → Kept m stored i k
  kept_set hv r = record {
    small = λ p. at p (dec_le p (i * 8 + k)) (dec_le (i * 8 + k) p);
    beyond = λ p h. other p (λ e. omega arith) ∙ r.beyond p h;
    blank = λ j l h g. other (j * 8 + l) (λ e. omega arith) ∙ r.blank j l h g;
    long = length-set out (i * 8 + k) v ∙ r.long;
  }
    where
      same : (p : ℕ) → p ≡ i * 8 + k → get_or (set out (i * 8 + k) v) p 0 < 100
      same p e = elim (dec_le (length out) p) [
        | yes h ↦ subst (λ (l : List ℕ). get_or l p 0 < 100) (sym (set_out out (i * 8 + k) v (omega arith))) (r.small p)
        | no h ↦ subst (λ x. x < 100) (sym (ap (λ q. get_or (set out (i * 8 + k) v) q 0) e ∙ get_or-set_same out (i * 8 + k) v 0 (omega arith))) hv
      ]

      at : (p : ℕ) → Dec (p ≤ i * 8 + k) → Dec (i * 8 + k ≤ p) → get_or (set out (i * 8 + k) v) p 0 < 100
      at p (yes a) (yes b) = same p (omega arith)
      at p (no a) b = subst (λ x. x < 100) (sym (other p (λ e. omega arith))) (r.small p)
      at p (yes a) (no b) = subst (λ x. x < 100) (sym (other p (λ e. omega arith))) (r.small p)

  -- the entry is in its place
  stands : i < 16 → length out ≡ 128 → get_or stored (i * 8 + k) 0 ≡ v
  stands h l = get_or-set_same out (i * 8 + k) v 0 (omega arith)

  -- the next entry of the line, and the next line
  pub next-entry : i < 16 → length out ≡ 128 → before m out i k ++ (decimal v ++ (32 ∷ [])) ≡ before m stored i (k + 1)
  unfolding before
  next-entry h l =
      ap (λ x. x ++ (decimal v ++ (32 ∷ []))) (sym frame)
      ∙ append_assoc (lines_text (listed i (row_at stored m))) (parts k (λ j. get_or stored (i * 8 + j) 0)) (decimal v ++ (32 ∷ []))
      ∙ ap (λ x. lines_text (listed i (row_at stored m)) ++ x)
      (ap (λ w. parts k (λ j. get_or stored (i * 8 + j) 0) ++ (decimal w ++ (32 ∷ []))) (sym (stands h l)) ∙ sym (parts_more k (λ j. get_or stored (i * 8 + j) 0)) ∙ ap (λ n. parts n (λ j. get_or stored (i * 8 + j) 0)) (sym (add-one k)))

  pub next-line : i < 16 → length out ≡ 128 → k + 1 ≡ m → before m out i k ++ (decimal v ++ (10 ∷ [])) ≡ before m stored (i + 1) 0
  unfolding before parts row_at
  next-line h l e =
      ap (λ x. x ++ (decimal v ++ (10 ∷ []))) (sym frame)
      ∙ append_assoc (lines_text (listed i (row_at stored m))) (parts k (λ j. get_or stored (i * 8 + j) 0)) (decimal v ++ (10 ∷ []))
      ∙ ap (λ x. lines_text (listed i (row_at stored m)) ++ x)
      (ap (λ w. parts k (λ j. get_or stored (i * 8 + j) 0) ++ (decimal w ++ (10 ∷ []))) (sym (stands h l)) ∙ sym (line-parts k (λ j. get_or stored (i * 8 + j) 0))
      ∙ ap (λ n. line_text (listed n (λ j. get_or stored (i * 8 + j) 0))) (sym (add-one k) ∙ e))
      ∙ sym (lines_more i (row_at stored m)) ∙ ap (λ n. lines_text (listed n (row_at stored m))) (sym (add-one i))
      ∙ sym (append-nil (lines_text (listed (i + 1) (row_at stored m))))
