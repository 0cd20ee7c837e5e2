-- Truth of the members in all types, by words. Assumes nothing.
use Rattle.std.specs.Prelude.{◌≡◌, Bool, true, false, ◌&&◌, List, ℕ, ◌+◌, ◌*◌, ◌^◌, ◌≤◌, ◌<◌, eqb, length, get_or}
use Rattle.ctl.specs.Formula.{Form}
use Rattle.ctl.specs.Modes.{has_mode}
use Rattle.ctl.specs.Types.{in_type, truth}
use Rattle.wordset.specs.Below.{any_below, least}
use Rattle.members.specs.Members.{arg_w, left_w, tag_w}
use Rattle.truth.specs.Tables.{form, lean_forms, left_at, right_at, tag_at}
use Rattle.truth.specs.Blocks.{Redone, expanded, turned}
use Rattle.wordset.specs.Answers.{Answers}

-- truth in a type; member i is true in type t
abbrev pub Tr : List ℕ → List ℕ → ℕ → Form → Bool
Tr ms ln = truth (lean_forms ms ln)

abbrev pub true_at : List ℕ → List ℕ → ℕ → ℕ → Bool
true_at ms ln i t = truth (lean_forms ms ln) t (form ms i)

-- the truth words of a table under a lean: block i has the types in which member i is true
pub record Truths (ms ln : List ℕ) (w : ℕ) (tw : List ℕ) : Type 0 where
  pub room : length ms * w ≤ length tw
  pub words : (i : ℕ) → i < length ms → (k : ℕ) → k < w → Answers (true_at ms ln i) k (get_or tw (i * w + k) 0)

-- ---- how they are found

-- word x is of tag g, with number a and left operand b
unfoldable pub modal : ℕ → ℕ → ℕ → ℕ → Bool
modal x g a b = eqb (tag_w x) g && (eqb (arg_w x) a && eqb (left_w x) b)

-- the first lean place with such a member, or the lean's length
unfoldable pub place_of : List ℕ → List ℕ → ℕ → ℕ → ℕ → ℕ
unfolding modal
place_of ms ln g a b = least (length ln) (λ k. modal (get_or ms (get_or ln k 0) 0) g a b)

-- the first member of tag g, or how many members there are
unfoldable pub plain : List ℕ → ℕ → ℕ
plain ms g = least (length ms) (λ i. eqb (tag_at ms i) g)

-- the tag of EX, or of AX where n is true
abbrev pub next_tag : Bool → ℕ
next_tag true = 7
next_tag false = 6

-- EX over some mode of a with the body b is true; where n is true, AX over each of them: over none it is false
unfoldable pub nexts : List ℕ → List ℕ → Bool → ℕ → ℕ → ℕ → Bool
nexts ms ln n a b t = turned n (any_below 16 (λ m. has_mode a m && turned n (in_type t (place_of ms ln (next_tag n) (2 ^ m) b))))

-- block i answers a test that gives, with its operands, where member i is true: as an until does, or, where until is false, a release
pub record Stepped (ms ln : List ℕ) (w i : ℕ) (until : Bool) (ws ws' : List ℕ) : Type 0 where
  pub test : ℕ → Bool
  pub redone : Redone w i test ws ws'
  pub is : (t : ℕ) → expanded until (test t) (true_at ms ln (left_at ms i) t) (true_at ms ln (right_at ms i) t) ≡ true_at ms ln i t
