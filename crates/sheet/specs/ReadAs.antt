-- What it is for a text to be read as a formula, in the grammar's words. Assumes nothing.
use Rattle.std.specs.Prelude.{◌≡◌, false, List, ℕ}
use Rattle.ctl.specs.Raw.{Raw}
use Rattle.grammar.specs.Grammar.{Tree, Line, resolve, symbol_wrong, braces_wrong}

-- Under declarations: the grammar derives one tree from the text and no other, the formula is that tree with its symbols looked up, and in the tree no symbol (7) and no
-- braces (8) are wrong
pub record ReadAs (decl text : List ℕ) (p : Raw) : Type 0 where
  pub tree : Tree
  pub derives : Line text tree
  pub only : (t : Tree) → Line text t → t ≡ tree
  pub is : p ≡ resolve decl tree
  pub symbols-right : symbol_wrong decl tree ≡ false
  pub braces-right : braces_wrong decl tree ≡ false
