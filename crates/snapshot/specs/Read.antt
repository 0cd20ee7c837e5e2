-- What is answered on a snapshot's text, by its node count and its entries. Assumes nothing.
use Rattle.std.specs.Prelude.{ℕ, ◌+◌, ◌*◌, ◌≤◌, Bool, cond, not, ◌&&◌, List, eqb, leb, length, get_or, Result, Ok, Err}
use Rattle.wordset.specs.Below.{all_below, any_below, count_below}
use Rattle.snapshot_text.specs.Lines.{line_count, line_store}
use Rattle.refusal.specs.declared.Refusal.{Refusal}
use Rattle.refusal.specs.declared.Refusal.TheVariants as Refusing

-- ---- entries: kinds are 1 for a mark, 2 for a name, 3 for a field, 4 for a value

-- the largest entry of a symbol of this kind, on n nodes
abbrev pub limit : ℕ → ℕ → ℕ
limit kind n = cond (eqb kind 3) n 1

-- the entries of node i are within their limits
unfoldable pub line_fits : List ℕ → ℕ → List ℕ → ℕ → Bool
line_fits kinds n out i = all_below (length kinds) (λ k. leb (get_or out (i * 8 + k) 0) (limit (get_or kinds k 0) n))

-- those of all n nodes are
unfoldable pub fits : List ℕ → ℕ → List ℕ → Bool
fits kinds n out = all_below n (line_fits kinds n out)

-- how many nodes symbol k is on
abbrev pub on_count : List ℕ → ℕ → ℕ → ℕ
on_count out n k = count_below n (λ i. eqb (get_or out (i * 8 + k) 0) 1)

-- a name is on two nodes
unfoldable pub twice : List ℕ → ℕ → List ℕ → Bool
twice kinds n out = any_below (length kinds) (λ k. eqb (get_or kinds k 0) 2 && leb 2 (on_count out n k))

-- a symbol is a value
abbrev pub is_value : List ℕ → ℕ → Bool
is_value kinds k = eqb (get_or kinds k 0) 4

-- how many of the values node i holds
abbrev pub held_count : List ℕ → List ℕ → ℕ → ℕ
held_count kinds out i = count_below (length kinds) (λ k. is_value kinds k && eqb (get_or out (i * 8 + k) 0) 1)

-- there is a value, and a node that holds none of the values, or several
unfoldable pub not_one : List ℕ → ℕ → List ℕ → Bool
not_one kinds n out = any_below (length kinds) (is_value kinds) && any_below n (λ i. not (eqb (held_count kinds out i) 1))

-- the answer on the node count, 0 for text that is no snapshot's, and the entries: the first of 13, 14, 15 and 17 that applies
unfoldable pub judged : List ℕ → ℕ → List ℕ → Result ℕ Refusal
judged kinds n out =
    cond (eqb n 0) (Err Refusing.Snapshot)
    (cond (fits kinds n out) (cond (twice kinds n out) (Err Refusing.Twice) (cond (not_one kinds n out) (Err Refusing.Held) (Ok n)))
    (Err Refusing.Entry))

-- The answer on a snapshot's text
unfoldable pub read_snapshot : List ℕ → List ℕ → List ℕ → List ℕ → Result ℕ Refusal
read_snapshot line kinds s out = judged kinds (line_count line (length kinds) s out) (line_store line (length kinds) s out)

-- a node count in an answer is at most 16
abbrev pub Few : Result ℕ Refusal → Type 0
Few (Ok n) = n ≤ 16
Few (Err e) = Unit {0}
