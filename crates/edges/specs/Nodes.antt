-- Sets of nodes in words, bit i for node i, and the edges of a snapshot as such words. Assumes nothing.
use Rattle.std.specs.Prelude.{ℕ, zero, suc, ◌+◌, Bool, true, not, ◌&&◌, ◌||◌, List, eqb, replicate}
use Rattle.wordset.specs.Word.{bit, word_of}
use Rattle.wordset.specs.Words.{filled}
use Rattle.ctl.specs.Lists.{any_of, below}
use Rattle.ctl.specs.Modes.{has_mode}
use Rattle.snapshot_text.specs.Store.{entry_at}

-- all nodes, the nodes that are not in x, the nodes that symbol k is on
unfoldable pub full_word : ℕ → ℕ
full_word n = word_of n (λ i. true)

unfoldable pub flip_word : ℕ → ℕ → ℕ
flip_word n x = word_of n (λ i. not (bit x i))

unfoldable pub on_word : List ℕ → ℕ → ℕ → ℕ
on_word out n k = word_of n (λ i. eqb (entry_at out i k) 1)

-- k rounds of f from the empty set
unfoldable pub repeat : ℕ → (ℕ → ℕ) → ℕ
repeat zero f = 0
repeat (suc k) f = f (repeat k f)

-- ---- edges

-- mode m is in A, and field f leads from i to j
abbrev pub by_mode : List ℕ → ℕ → ℕ → ℕ → ℕ → ℕ → Bool
by_mode out A m f i j = has_mode A m && eqb (entry_at out i f) (j + 1)

-- a mode of A over field f leads from i to j, forward or backward
unfoldable pub field_leads : List ℕ → ℕ → ℕ → ℕ → ℕ → Bool
field_leads out A i j f = by_mode out A f f i j || by_mode out A (f + 8) f j i

-- some mode of A leads from i to j
unfoldable pub leads_at : List ℕ → ℕ → ℕ → ℕ → Bool
leads_at out A i j = any_of (field_leads out A i j) (below 8)

-- the nodes after i
unfoldable pub next_word : List ℕ → ℕ → ℕ → ℕ → ℕ
next_word out n A i = word_of n (leads_at out A i)

-- for each node the nodes after it
unfoldable pub edge_words : List ℕ → ℕ → ℕ → List ℕ
edge_words out n A = filled n (next_word out n A) (replicate 16 0)
