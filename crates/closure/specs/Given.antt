-- Formulas as read, in the parser's table of nodes, that a closure is made of. Assumes nothing.
use Rattle.std.specs.Prelude.{◌≡◌, Bool, List, ℕ, ◌≤◌, ◌<◌, Option, length, get_or}
use Rattle.ctl.specs.Positive.{signed}
use Rattle.ctl.specs.Alphabet.{UsesRaw}
use Rattle.ctl.specs.Closure.{closure_of}
use Rattle.members.specs.Grown.{Answer}
use Rattle.syntax.specs.Raw.{Raw, zero, At}
use Rattle.members.specs.declared.Added.{Added}

-- every symbol and every set of modes fits a member's word
unfoldable pub Fits : Raw → Type 0
Fits p = UsesRaw (λ k. k < 65536) (λ A. A < 65536) p

-- a formula stands at place i of a table of nodes
pub record Reads (ns : List ℕ) (i : ℕ) : Type 0 where
  pub inside : i < length ns
  pub few : length ns ≤ 1024
  pub formula : Raw
  pub at : At ns formula i
  pub fits : Fits formula

-- whichever formula stands at place i: the closure of its positive form (true), or of its negation's (false), was added
abbrev pub Adds : List ℕ → ℕ → Bool → List ℕ → ℕ → List ℕ → Option Added → Type 0
Adds ns i b tab n tab' a = (p : Raw) → At ns p i → Answer tab n tab' (closure_of (signed b p)) (signed b p) a

-- the formulas ps stand at the places `roots`
pub record Given (ns roots : List ℕ) (ps : List Raw) : Type 0 where
  pub many : length ps ≡ length roots
  pub at : (j : ℕ) → j < length roots → At ns (get_or ps j zero) (get_or roots j 0)
