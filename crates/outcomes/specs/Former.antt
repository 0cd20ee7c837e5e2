-- Document 01's promise of List, which left the order open. Only proofs/ListOrder cites it. Assumes nothing.
use Rattle.std.specs.Prelude.{◌≡◌, List, ℕ, eqb, length, take, drop, Result}
use Rattle.ctl.specs.Lists.{◌∈◌, keep}
use Rattle.limits.specs.declared.Limits.{Limits}
use Rattle.fitted.specs.Accepted.{survivors_in}
use Rattle.outcomes.specs.Outcomes.{list_answer, list_refusal}
use Rattle.refusal.specs.declared.Refusal.{Refusal}
use Rattle.refusal.specs.Number.{refused_as}

-- how often x occurs in a list
unfoldable pub occurrences : ℕ → List ℕ → ℕ
occurrences x l = length (keep (eqb x) l)

-- a list in which every number of another occurs a single time and nothing else does
pub record EachOnce (types l : List ℕ) : Type 0 where
  pub each : (t : ℕ) → t ∈ types → occurrences t l ≡ 1
  pub only : (t : ℕ) → t ∈ l → t ∈ types

-- the surviving types stand at the beginning of the store, each a single time and nothing else, in some order
pub record FormerListIs (l : Limits) (s : List ℕ) (r : ℕ) (d : List ℕ) (o : Result ℕ Refusal) (d' : List ℕ) : Type 0 where
  pub answer : o ≡ list_answer s r (list_refusal l s r (length d))
  pub number : refused_as o ≡ list_refusal l s r (length d)
  pub untouched : (list_refusal l s r (length d) ≡ 0 → ⊥) → d' ≡ d
  pub listed : list_refusal l s r (length d) ≡ 0 → EachOnce (survivors_in s r) (take (length (survivors_in s r)) d')
  pub rest : list_refusal l s r (length d) ≡ 0 → drop (length (survivors_in s r)) d' ≡ drop (length (survivors_in s r)) d
