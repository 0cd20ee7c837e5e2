-- Which types stay when a set is narrowed by entries, and what is left of it, by words. Assumes nothing.
use Rattle.std.specs.Prelude.{◌≡◌, Bool, true, false, not, ◌&&◌, List, ℕ, ◌+◌, ◌*◌, ◌<◌, eqb, get_or, set}
use Rattle.std.specs.Int.Bits.{bit_and, bit_or}
use Rattle.wordset.specs.Answers.{Answers}
use Rattle.wordset.specs.Below.{any_below}
use Rattle.wordset.specs.Word.{bit}
use Rattle.wordset.specs.Words.{member, packed}
use Rattle.truth.specs.Blocks.{has}
use Rattle.conditions.specs.Entries.{in_some}

-- t is not in all of the entries r
unfoldable pub not_all : ℕ → List ℕ → ℕ → ℕ → Bool
not_all w cw r t = any_below 64 (λ c. bit r c && not (has w cw c t))

-- t is in one of the entries r; or, lacking, not in all of them
unfoldable pub passing : ℕ → List ℕ → ℕ → Bool → ℕ → Bool
passing w cw r false t = in_some w cw r t
passing w cw r true t = not_all w cw r t

-- the four words of x answer test P, from word k on
pub record Fours (P : ℕ → Bool) (k : ℕ) (x : List ℕ) : Type 0 where
  pub a : Answers P k (get_or x 0 0)
  pub b : Answers P (k + 1) (get_or x 1 0)
  pub c : Answers P (k + 2) (get_or x 2 0)
  pub d : Answers P (k + 3) (get_or x 3 0)

-- words k to k + 3 of d have only what x has
abbrev pub kept_four : List ℕ → ℕ → List ℕ → List ℕ
kept_four d k x =
    set (set (set (set d k (bit_and (get_or d k 0) (get_or x 0 0))) (k + 1) (bit_and (get_or d (k + 1) 0) (get_or x 1 0))) (k + 2) (bit_and (get_or d (k + 2) 0) (get_or x 2 0))) (k + 3) (bit_and (get_or d (k + 3) 0) (get_or x 3 0))

-- what stays there, joined to a word
abbrev pub joined_four : List ℕ → ℕ → List ℕ → ℕ → ℕ
joined_four d k x any =
    bit_or (bit_or (bit_or (bit_or any (bit_and (get_or d k 0) (get_or x 0 0))) (bit_and (get_or d (k + 1) 0) (get_or x 1 0))) (bit_and (get_or d (k + 2) 0) (get_or x 2 0))) (bit_and (get_or d (k + 3) 0) (get_or x 3 0))

-- of the first n words of d those that pass P stay, and any tells whether there are some
pub record Narrowed (P : ℕ → Bool) (n : ℕ) (d d' : List ℕ) (any : ℕ) : Type 0 where
  pub is : d' ≡ packed n (λ t. member d t && P t) d
  pub some : not (eqb any 0) ≡ any_below (n * 64) (λ t. member d t && P t)

-- of the numbers in the first w words of d those that pass P stay; b tells whether there are some
pub record Stays (P : ℕ → Bool) (w : ℕ) (d d' : List ℕ) (b : Bool) : Type 0 where
  pub is : (t : ℕ) → t < w * 64 → member d' t ≡ (member d t && P t)
  pub some : b ≡ any_below (w * 64) (member d')
