-- The sets of nodes that the evaluator makes are those at which `sat` passes. Assumes nothing.
use Prim.Native.Nat.{ℕ, zero, suc, ◌^◌, ◌≤◌, ◌<◌}
use native.Mathlib.Omega.{arith}
use native.Mathlib.Nat.{lt_of_le_of_lt}
use mathlib.Core.Path.{◌≡◌, sym, ap, ap₂, ◌∙◌, subst}
use mathlib.Core.Bool.{true, false, cond, not, ◌&&◌, ◌||◌}
use mathlib.Core.List.{List}
use lib.Dec.{eqb}
use lib.Bits.{bit_and, bit_or, and_le_l, or_lt}
use lib.ListN.{length, get_or, replicate}
use borrow.Author.Tests.{le-ltb, lt-ltb}
use Rattle.wordset.specs.Word.{bit, word_of}
use Rattle.wordset.specs.Words.{filled}
use Rattle.wordset.proofs.BitLaws.{bit-and, bit-or, bit-word_of, word_of-ext, word_of-is, word_of-lt, word_of-none}
use Rattle.wordset.proofs.Filling.{Filling}
use Rattle.wordset.proofs.WordLaws.{filled_at}
use Rattle.ctl.specs.Formula.{Form, tru, fls, lit, nlit, and, or, ex, ax, eu, au, er, ar}
use Rattle.ctl.specs.Evaluator.{leads, sat}
use Rattle.ctl.specs.Snapshot.{Snapshot}
use Rattle.ctl.proofs.NextLaws.{each_next-same, some_next-same}
use Rattle.ctl.proofs.EvaluatorLaws.{sat-tru, sat-fls, sat-lit, sat-nlit, sat-and, sat-or, sat_ex, sat-ax, sat-eu, sat-au, sat-er, sat-ar, unsat, unsat-is}
use Rattle.members.specs.Members.{arg_w, form_by, tag_w}
use Rattle.truth.specs.Tables.{Table, arg_at, form, left_at, right_at, tag_at}
use Rattle.truth.proofs.MemberLaws.{form-at}
use Rattle.snapshot_text.specs.Store.{entry_at, of_store}
use Rattle.edges.specs.Nodes.{edge_words, flip_word, full_word, next_word, on_word}
use Rattle.evaluator.specs.Values.{au_word, eu_word, member_by, member_word, modal_word, plain_word, pre_word}
use Rattle.edges.proofs.NodeLaws.{bit-flip, flip-lt}
use Rattle.evaluator.proofs.OperatorLaws.{au-at, au-lt, each_at, eu-at, eu-lt, pre_at, pre-lt}

-- ---- a member by its word, below tag 6 and from there on

module _ (out : List ℕ) (n w p q t a r : ℕ) (et : t ≡ tag_w w) (ea : a ≡ arg_w w) where
  pub plain-is : t < 6 → r ≡ plain_word out n t a p q → r ≡ member_word out n w p q
  unfolding member_by
  plain-is h e =
      e ∙ ap₂ (λ (x y : ℕ). plain_word out n x y p q) et ea
      ∙ sym (ap (λ b. cond b (plain_word out n (tag_w w) (arg_w w) p q) (modal_word (edge_words out n (arg_w w)) n (tag_w w) p q)) (lt-ltb (tag_w w) 6 (omega arith)))

  pub modal-is : (es : List ℕ) → 6 ≤ t → es ≡ filled n (next_word out n a) (replicate 16 0) → r ≡ modal_word es n t p q → r ≡ member_word out n w p q
  unfolding member_by edge_words
  modal-is es h f e =
      e ∙ ap₂ (λ (l : List ℕ) (x : ℕ). modal_word l n x p q) (f ∙ ap (λ (y : ℕ). edge_words out n y) ea) et
      ∙ sym (ap (λ b. cond b (plain_word out n (tag_w w) (arg_w w) p q) (modal_word (edge_words out n (arg_w w)) n (tag_w w) p q)) (le-ltb (tag_w w) 6 (omega arith)))

-- ---- where `sat` passes

module _ (out : List ℕ) (n : ℕ) where
  abbrev snap : Snapshot
  snap = of_store n out

  -- the set of a formula, and its members
  abbrev word : Form → ℕ
  word χ = word_of n (sat snap χ)

  bit_word : (w : ℕ) (χ : Form) → w ≡ word χ → (i : ℕ) → i < n → bit w i ≡ sat snap χ i
  bit_word w χ g i h = ap (λ x. bit x i) g ∙ bit-word_of n (sat snap χ) i h

  word_lt : (w : ℕ) (χ : Form) → w ≡ word χ → w < 2 ^ n
  word_lt w χ g = subst (λ x. x < 2 ^ n) (sym g) (word_of-lt n (sat snap χ))

  -- ---- without operands
  holds-tru : full_word n ≡ word tru
  unfolding full_word of_store
  holds-tru = word_of-ext n (λ i. true) (sat snap tru) (λ i h. sym (sat-tru snap i h))

  holds-fls : 0 ≡ word fls
  unfolding of_store
  holds-fls = word_of-none n ∙ word_of-ext n (λ i. false) (sat snap fls) (λ i h. sym (sat-fls snap i h))

  holds-lit : (k : ℕ) → on_word out n k ≡ word (lit k)
  unfolding on_word of_store
  holds-lit k = word_of-ext n (λ i. eqb (entry_at out i k) 1) (sat snap (lit k)) (λ i h. sym (sat-lit snap k i h))

  holds-nlit : (k : ℕ) → flip_word n (on_word out n k) ≡ word (nlit k)
  unfolding on_word of_store
  holds-nlit k = word_of-is n (sat snap (nlit k)) (flip_word n (on_word out n k)) (flip-lt n (on_word out n k))
      (λ i h. bit-flip n (on_word out n k) i h ∙ ap not (bit-word_of n (λ i. eqb (entry_at out i k) 1) i h) ∙ sym (sat-nlit snap k i h))

  -- ---- from the sets of operands
  module _ (p q : ℕ) (φ ψ : Form) (hp : p ≡ word φ) (hq : q ≡ word ψ) where
    holds-and : bit_and p q ≡ word (and φ ψ)
    unfolding of_store
    holds-and = word_of-is n (sat snap (and φ ψ)) (bit_and p q) (lt_of_le_of_lt (and_le_l p q) (word_lt p φ hp))
        (λ i h. bit-and p q i ∙ ap₂ ◌&&◌ (bit_word p φ hp i h) (bit_word q ψ hq i h) ∙ sym (sat-and snap φ ψ i h))

    holds-or : bit_or p q ≡ word (or φ ψ)
    unfolding of_store
    holds-or = word_of-is n (sat snap (or φ ψ)) (bit_or p q) (or_lt n p q (word_lt p φ hp) (word_lt q ψ hq))
        (λ i h. bit-or p q i ∙ ap₂ ◌||◌ (bit_word p φ hp i h) (bit_word q ψ hq i h) ∙ sym (sat-or snap φ ψ i h))

    not-word : (w : ℕ) (χ : Form) → w ≡ word χ → (i : ℕ) → i < n → bit (flip_word n w) i ≡ unsat snap χ i
    unfolding of_store
    not-word w χ g i h = bit-flip n w i h ∙ ap not (bit_word w χ g i h) ∙ sym (unsat-is snap χ i h)

    module _ (hn : n ≤ 16) (A : ℕ) where
      abbrev e : List ℕ
      e = edge_words out n A

      holds-ex : pre_word e n p ≡ word (ex A φ)
      unfolding of_store
      holds-ex = word_of-is n (sat snap (ex A φ)) (pre_word e n p) (pre-lt out n hn A p)
          (λ i h. pre_at out n hn A p i h ∙ some_next-same n (leads snap A) (bit p) (sat snap φ) i (bit_word p φ hp) ∙ sym (sat_ex snap A φ i h))

      holds-ax : flip_word n (pre_word e n (flip_word n p)) ≡ word (ax A φ)
      unfolding of_store
      holds-ax = word_of-is n (sat snap (ax A φ)) (flip_word n (pre_word e n (flip_word n p))) (flip-lt n (pre_word e n (flip_word n p)))
          (λ i h. each_at out n hn A p i h ∙ each_next-same n (leads snap A) (bit p) (sat snap φ) i (bit_word p φ hp) ∙ sym (sat-ax snap A φ i h))

      holds-eu : eu_word e n p q ≡ word (eu A φ ψ)
      unfolding of_store eu_word
      holds-eu = word_of-is n (sat snap (eu A φ ψ)) (eu_word e n p q) (eu-lt out n hn A p q (word_lt p φ hp) (word_lt q ψ hq) n)
          (λ i h. eu-at out n hn A p q (sat snap φ) (sat snap ψ) (bit_word p φ hp) (bit_word q ψ hq) n i h ∙ sym (sat-eu snap A φ ψ i))

      holds-au : au_word e n p q ≡ word (au A φ ψ)
      unfolding of_store au_word
      holds-au = word_of-is n (sat snap (au A φ ψ)) (au_word e n p q) (au-lt out n hn A p q (word_lt p φ hp) (word_lt q ψ hq) n)
          (λ i h. au-at out n hn A p q (sat snap φ) (sat snap ψ) (bit_word p φ hp) (bit_word q ψ hq) n i h ∙ sym (sat-au snap A φ ψ i))

      holds-er : flip_word n (au_word e n (flip_word n p) (flip_word n q)) ≡ word (er A φ ψ)
      unfolding of_store au_word
      holds-er = word_of-is n (sat snap (er A φ ψ)) (flip_word n (au_word e n (flip_word n p) (flip_word n q))) (flip-lt n (au_word e n (flip_word n p) (flip_word n q)))
          (λ i h. bit-flip n (au_word e n (flip_word n p) (flip_word n q)) i h
          ∙ ap not (au-at out n hn A (flip_word n p) (flip_word n q) (unsat snap φ) (unsat snap ψ) (not-word p φ hp) (not-word q ψ hq) n i h)
          ∙ sym (sat-er snap A φ ψ i h))

      holds-ar : flip_word n (eu_word e n (flip_word n p) (flip_word n q)) ≡ word (ar A φ ψ)
      unfolding of_store eu_word
      holds-ar = word_of-is n (sat snap (ar A φ ψ)) (flip_word n (eu_word e n (flip_word n p) (flip_word n q))) (flip-lt n (eu_word e n (flip_word n p) (flip_word n q)))
          (λ i h. bit-flip n (eu_word e n (flip_word n p) (flip_word n q)) i h
          ∙ ap not (eu-at out n hn A (flip_word n p) (flip_word n q) (unsat snap φ) (unsat snap ψ) (not-word p φ hp) (not-word q ψ hq) n i h)
          ∙ sym (sat-ar snap A φ ψ i h))

  -- ---- a member by its tag
  module _ (hn : n ≤ 16) (arg p q : ℕ) (φ ψ : Form) where
    pub by-tag : (tag : ℕ) → tag < 12 → (4 ≤ tag → (p ≡ word φ) × (q ≡ word ψ)) → member_by out n tag arg p q ≡ word (form_by tag arg φ ψ)
    unfolding member_by plain_word modal_word
    by-tag zero l h = holds-tru
    by-tag (suc zero) l h = holds-fls
    by-tag (suc (suc zero)) l h = holds-lit arg
    by-tag (suc (suc (suc zero))) l h = holds-nlit arg
    by-tag (suc (suc (suc (suc zero)))) l h = let r = h (omega arith) in holds-and p q φ ψ r.0 r.1
    by-tag (suc (suc (suc (suc (suc zero))))) l h = let r = h (omega arith) in holds-or p q φ ψ r.0 r.1
    by-tag (suc (suc (suc (suc (suc (suc zero)))))) l h = let r = h (omega arith) in holds-ex p q φ ψ r.0 r.1 hn arg
    by-tag (suc (suc (suc (suc (suc (suc (suc zero))))))) l h = let r = h (omega arith) in holds-ax p q φ ψ r.0 r.1 hn arg
    by-tag (suc (suc (suc (suc (suc (suc (suc (suc zero)))))))) l h = let r = h (omega arith) in holds-eu p q φ ψ r.0 r.1 hn arg
    by-tag (suc (suc (suc (suc (suc (suc (suc (suc (suc zero))))))))) l h = let r = h (omega arith) in holds-au p q φ ψ r.0 r.1 hn arg
    by-tag (suc (suc (suc (suc (suc (suc (suc (suc (suc (suc zero)))))))))) l h = let r = h (omega arith) in holds-er p q φ ψ r.0 r.1 hn arg
    by-tag (suc (suc (suc (suc (suc (suc (suc (suc (suc (suc (suc zero))))))))))) l h = let r = h (omega arith) in holds-ar p q φ ψ r.0 r.1 hn arg
    by-tag (suc (suc (suc (suc (suc (suc (suc (suc (suc (suc (suc (suc t)))))))))))) l h = absurd (omega arith)

  -- ---- the next member of a table, with the earlier ones in their words
  module _ (hn : n ≤ 16) (ws : List ℕ) (o : Table ws) (sets₀ : List ℕ) (hs : length ws ≤ length sets₀) where
    pub member-next : (sets : List ℕ) (i p q : ℕ) → Filling (λ k. word (form ws k)) sets₀ (length ws) sets i → i < length ws
        → p ≡ get_or sets (left_at ws i) 0 → q ≡ get_or sets (right_at ws i) 0 → member_word out n (get_or ws i 0) p q ≡ word (form ws i)
    member-next sets i p q f h ep eq =
        by-tag hn (arg_at ws i) p q (form ws (left_at ws i)) (form ws (right_at ws i)) (tag_at ws i) (o.tags i h)
        (λ g. let r = o.operands i h g in (ep ∙ early (left_at ws i) r.0, eq ∙ early (right_at ws i) r.1))
        ∙ ap (λ χ. word_of n (sat snap χ)) (sym (form-at o i h))
      where
        early : (k : ℕ) → k < i → get_or sets k 0 ≡ word (form ws k)
        early k l = ap (λ (x : List ℕ). get_or x k 0) f.is ∙ filled_at (λ k. word (form ws k)) sets₀ i k (omega arith) l
