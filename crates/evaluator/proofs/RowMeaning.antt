-- What the bytes of a row mean: bit 0 is the goal's, bit 1 the globals', by the meaning of formulas as they were typed. Assumes nothing.
use Prim.Native.Nat.{ℕ, ◌+◌, ◌%◌, ◌≤◌, ◌<◌}
use native.Mathlib.Omega.{arith}
use mathlib.Core.Path.{◌≡◌, refl, sym, ap, ◌∙◌, subst}
use mathlib.Core.Logic.{◌↔◌}
use mathlib.Core.Bool.{Bool, true, false, cond, false≢true}
use mathlib.Core.List.{List, map}
use lib.ListN.{get_or, length, length-map}
use Rattle.ctl.specs.Evaluator.{sat}
use Rattle.ctl.specs.Formula.{Form}
use Rattle.ctl.specs.Lists.{◌∈◌, all_of, below}
use Rattle.ctl.specs.Meaning.{HoldsRaw}
use Rattle.ctl.specs.Positive.{positive}
use Rattle.ctl.specs.Raw.{Raw}
use Rattle.ctl.specs.Snapshot.{Snapshot}
use Rattle.ctl.proofs.BoolLaws.{T_true, true-T}
use Rattle.ctl.proofs.ListLaws.{all_in, all-out, get_d-below, length-count, map-in, map-out}
use Rattle.ctl.proofs.PositiveLaws.{raw-sat}
use Rattle.evaluator.specs.Rows.{cell_of, row_of}

-- a byte for each node
pub row-length : (s : Snapshot) (goal : Form) (globals : List Form) → length (row_of s goal globals) ≡ s.n
unfolding row_of
row-length s goal globals = length-map (below s.n) (cell_of s goal globals) ∙ length-count 0 s.n

pub row_at : (s : Snapshot) (goal : Form) (globals : List Form) (i : ℕ) → i < s.n → get_or (row_of s goal globals) i 0 ≡ cell_of s goal globals i
unfolding row_of
row_at s goal globals i h = get_d-below (cell_of s goal globals) 0 s.n i h

-- ---- the two bits of a byte

odd-iff : (a b : Bool) → ((cond a 1 0 + cond b 2 0) % 2 ≡ 1) ↔ (a ≡ true)
odd-iff true true = (λ e. refl, λ e. refl)
odd-iff true false = (λ e. refl, λ e. refl)
odd-iff false true = (λ e. absurd (omega arith), λ e. absurd (false≢true e))
odd-iff false false = (λ e. absurd (omega arith), λ e. absurd (false≢true e))

two-iff : (a b : Bool) → (2 ≤ cond a 1 0 + cond b 2 0) ↔ (b ≡ true)
two-iff true true = (λ e. refl, λ e. omega arith)
two-iff false true = (λ e. refl, λ e. omega arith)
two-iff true false = (λ e. absurd (omega arith), λ e. absurd (false≢true e))
two-iff false false = (λ e. absurd (omega arith), λ e. absurd (false≢true e))

-- ---- formulas as typed

module _ (s : Snapshot) (goal : Raw) (globals : List Raw) (i : ℕ) (h : i < s.n) where
  at : get_or (row_of s (positive goal) (map positive globals)) i 0 ≡ cell_of s (positive goal) (map positive globals) i
  at = row_at s (positive goal) (map positive globals) i h

  -- the two tests of the byte
  holds : Raw → Bool
  holds g = sat s (positive g) i

  each : Bool
  each = all_of (λ g. sat s g i) (map positive globals)

  pub goal-bit : (get_or (row_of s (positive goal) (map positive globals)) i 0 % 2 ≡ 1) ↔ HoldsRaw s goal i
  unfolding holds each
  goal-bit = (
    λ e. (raw-sat s goal i h).0 ((odd-iff (holds goal) each).0 (ap (λ b. b % 2) (sym at) ∙ e)),
    λ e. ap (λ b. b % 2) at ∙ (odd-iff (holds goal) each).1 ((raw-sat s goal i h).1 e),
  )

  pub globals-bit : (2 ≤ get_or (row_of s (positive goal) (map positive globals)) i 0) ↔ ((g : Raw) → g ∈ globals → HoldsRaw s g i)
  unfolding holds each
  globals-bit = (
    λ e g m. (raw-sat s g i h).0 (true-T (holds g) (all-out (λ p. sat s p i) {l = map positive globals}
        (T_true each ((two-iff (holds goal) each).0 (subst (λ b. 2 ≤ b) at e))) (map-in positive m))),
    λ f. subst (λ b. 2 ≤ b) (sym at) ((two-iff (holds goal) each).1 (true-T each (all_in (λ p. sat s p i) (map positive globals)
        (λ p m. let r = map-out positive globals m in
        T_true (sat s p i) (ap (λ q. sat s q i) r.2 ∙ (raw-sat s r.0 i h).1 (f r.0 r.1)))))),
  )
