-- What is answered on a snapshot's text, in the documents' words. Assumes nothing.
use Rattle.std.specs.Prelude.{ℕ, ◌≤◌, ◌<◌, ◌≡◌, List, eqb, length, get_or, Result, Ok, Err}
use Rattle.ctl.specs.Snapshot.{entry, of_lines, NamesSingle, values_of, Legal}
use Rattle.refusal.specs.declared.Refusal.{Refusal}
use Rattle.refusal.specs.declared.Refusal.TheVariants as Refusing
use Rattle.snapshot_text.specs.Store.{of_store}
use Rattle.snapshot_text.specs.Text.{Text}
use Rattle.snapshot.specs.Read.{limit, is_value}

module _ (kinds : List ℕ) (lines : List (List ℕ)) where
  -- an entry is above 1, or above the node count for a field
  pub record Above : Type 0 where
    pub node : ℕ
    pub symbol : ℕ
    pub is-node : node < length lines
    pub is-symbol : symbol < length kinds
    pub above : limit (get_or kinds symbol 0) (length lines) < entry lines symbol node

  -- no entry is
  abbrev pub Within : Type 0
  Within = (i k : ℕ) → i < length lines → k < length kinds → entry lines k i ≤ limit (get_or kinds k 0) (length lines)

  -- a name is on two nodes
  pub record OnTwo : Type 0 where
    pub symbol : ℕ
    pub first : ℕ
    pub second : ℕ
    pub is-symbol : symbol < length kinds
    pub is_name : get_or kinds symbol 0 ≡ 2
    pub apart : first < second
    pub is-node : second < length lines
    pub on-first : entry lines symbol first ≡ 1
    pub on-second : entry lines symbol second ≡ 1

  -- symbol k is a value, and node i holds it
  pub record Holds (i k : ℕ) : Type 0 where
    pub is-symbol : k < length kinds
    pub is-value : get_or kinds k 0 ≡ 4
    pub on : entry lines k i ≡ 1

  -- node i has none of the values, or several
  pub data NoneOrSeveral (i : ℕ) : Type 0 where
    none : ((k : ℕ) → Holds i k → ⊥) → NoneOrSeveral i
    several : (j k : ℕ) → j < k → Holds i j → Holds i k → NoneOrSeveral i

  -- there is a value, and a node with none or several
  pub record NotOne : Type 0 where
    pub value : ℕ
    pub node : ℕ
    pub is-symbol : value < length kinds
    pub is-value : get_or kinds value 0 ≡ 4
    pub is-node : node < length lines
    pub wrong : NoneOrSeveral node

-- the store holds the snapshot of n lines whose text s is: each entry is within its limit, each name is on at most one node, and where a value is declared each node holds exactly
-- one of the values
pub record Held (line kinds s out : List ℕ) (n : ℕ) : Type 0 where
  pub lines : List (List ℕ)
  pub text : Text line (length kinds) s lines
  pub count : length lines ≡ n
  pub within : Within kinds lines
  pub legal : Legal (λ k. eqb (get_or kinds k 0) 2) (values_of (is_value kinds) (length kinds)) (of_lines lines)
  pub same : of_store n out ≡ of_lines lines

-- The answer on the text s, with the store out afterwards. No two of these cases meet (`one_answer`), so each answer is given exactly in its case.
pub data Answered (line kinds s out : List ℕ) : Result ℕ Refusal → Type 0 where
  no_text : ((lines : List (List ℕ)) → Text line (length kinds) s lines → ⊥) → Answered line kinds s out (Err Refusing.Snapshot)
  too-high : (lines : List (List ℕ)) → Text line (length kinds) s lines → Above kinds lines → Answered line kinds s out (Err Refusing.Entry)
  on-two : (lines : List (List ℕ)) → Text line (length kinds) s lines → Within kinds lines → OnTwo kinds lines → Answered line kinds s out (Err Refusing.Twice)
  not-one : (lines : List (List ℕ)) → Text line (length kinds) s lines → Within kinds lines → NamesSingle (λ k. eqb (get_or kinds k 0) 2) (of_lines lines) → NotOne kinds lines → Answered line kinds s out (Err Refusing.Held)
  of-nodes : (n : ℕ) → Held line kinds s out n → Answered line kinds s out (Ok n)
