-- The sets of nodes that the evaluator makes. That a member's set is where `sat` passes is by-tag (proofs/SatLaws).
-- Assumes nothing.
use Rattle.std.specs.Prelude.{ℕ, ◌+◌, cond, not, List, eqb, ltb, get_or, length}
use Rattle.std.specs.Int.Bits.{bit_and, bit_or}
use Rattle.wordset.specs.Word.{bit, word_of}
use Rattle.wordset.specs.Below as W
use Rattle.members.specs.Members.{arg_w, tag_w}
use Rattle.edges.specs.Nodes.{edge_words, flip_word, full_word, on_word, repeat}

-- the nodes that are in each set of these members
unfoldable pub all_word : List ℕ → List ℕ → ℕ → ℕ
all_word sets members n = word_of n (λ i. W.all_below (length members) (λ k. bit (get_or sets (get_or members k 0) 0) i))

-- the nodes before a node of x, by words that have for each node the nodes after it
unfoldable pub pre_word : List ℕ → ℕ → ℕ → ℕ
pre_word e n x = word_of n (λ i. not (eqb (bit_and (get_or e i 0) x) 0))

-- ---- rounds

abbrev pub eu_round : List ℕ → ℕ → ℕ → ℕ → ℕ → ℕ
eu_round e n p q x = bit_or q (bit_and p (pre_word e n x))

abbrev pub au_round : List ℕ → ℕ → ℕ → ℕ → ℕ → ℕ
au_round e n p q x = bit_or q (bit_and p (bit_and (pre_word e n (full_word n)) (flip_word n (pre_word e n (flip_word n x)))))

unfoldable pub eu_word : List ℕ → ℕ → ℕ → ℕ → ℕ
eu_word e n p q = repeat n (eu_round e n p q)

unfoldable pub au_word : List ℕ → ℕ → ℕ → ℕ → ℕ
au_word e n p q = repeat n (au_round e n p q)

-- ---- members by their tags, from the sets p and q of their operands

-- tags below 6, with symbol k
unfoldable pub plain_word : List ℕ → ℕ → ℕ → ℕ → ℕ → ℕ → ℕ
plain_word out n tag k p q =
    cond (eqb tag 0) (full_word n)
    (cond (eqb tag 1) 0
    (cond (eqb tag 2) (on_word out n k)
    (cond (eqb tag 3) (flip_word n (on_word out n k))
    (cond (eqb tag 4) (bit_and p q)
    (bit_or p q)))))

-- tags from 6 on, over edges
unfoldable pub modal_word : List ℕ → ℕ → ℕ → ℕ → ℕ → ℕ
modal_word e n tag p q =
    cond (eqb tag 6) (pre_word e n p)
    (cond (eqb tag 7) (flip_word n (pre_word e n (flip_word n p)))
    (cond (eqb tag 8) (eu_word e n p q)
    (cond (eqb tag 9) (au_word e n p q)
    (cond (eqb tag 10) (flip_word n (au_word e n (flip_word n p) (flip_word n q)))
    (flip_word n (eu_word e n (flip_word n p) (flip_word n q)))))))

unfoldable pub member_by : List ℕ → ℕ → ℕ → ℕ → ℕ → ℕ → ℕ
member_by out n tag arg p q = cond (ltb tag 6) (plain_word out n tag arg p q) (modal_word (edge_words out n arg) n tag p q)

abbrev pub member_word : List ℕ → ℕ → ℕ → ℕ → ℕ → ℕ
member_word out n w p q = member_by out n (tag_w w) (arg_w w) p q

-- the row's byte of node i, from the sets of the goal and of all globals
abbrev pub cell_by : ℕ → ℕ → ℕ → ℕ
cell_by goal globals i = cond (bit goal i) 1 0 + cond (bit globals i) 2 0
