-- What closure members ask of links between types, as conditions; and when condition words say the same as the logic. Assumes nothing.
use Rattle.std.specs.Prelude.{◌≡◌, Option, Some, None, IfSome, Bool, true, false, not, ◌&&◌, List, ℕ, ◌+◌, ◌*◌, ◌/◌, ◌%◌, ◌^◌, ◌≤◌, ◌<◌, eqb, length, get_or}
use Rattle.ctl.specs.Links.{link_by, link_rule}
use Rattle.ctl.specs.Modes.{has_mode, single}
use Rattle.members.specs.Members.{forms}
use Rattle.truth.specs.Blocks.{has}
use Rattle.truth.specs.Tables.{arg_at, form, lean_forms, left_at, tag_at}
use Rattle.truth.specs.Truths.{true_at}
use Rattle.conditions.specs.Entries.{in_some, linked_by, refusing, side}
use Rattle.conditions.specs.declared.Condition.{Condition}
use Rattle.conditions.specs.declared.Rule.{Rule}
use Rattle.conditions.specs.declared.Rule.TheVariants.{Forward, Backward, BothWays}

-- links by a mode
abbrev pub Lk : List ℕ → List ℕ → ℕ → ℕ → ℕ → Bool
Lk ms ln = link_by (forms ms) (lean_forms ms ln)

-- the condition words of a table under a lean
pub record Conditions (ms ln : List ℕ) (w : ℕ) (cw : List ℕ) : Type 0 where
  pub room : w * 64 + 16 ≤ length cw
  pub links : (m : ℕ) → m < 16 → (t u : ℕ) → t < w * 64 → u < w * 64 → linked_by w cw (side w cw m) t u ≡ Lk ms ln m t u
  pub refuse : (m : ℕ) → m < 16 → (u : ℕ) → u < w * 64 → has w cw (refusing m) u ≡ in_some w cw (side w cw m) u

-- each EX and AX over one mode has a place in the lean, and an AU along a field both ways has AX over that field, of itself, there
pub record Placed (ms ln : List ℕ) : Type 0 where
  pub nexts : (i : ℕ) → i < length ms → 6 ≤ tag_at ms i → tag_at ms i ≤ 7 → single (arg_at ms i) ≡ true → (k : ℕ) × (k < length ln) × (get_or ln k 0 ≡ i)
  pub aus : (i m : ℕ) → i < length ms → m < 8 → tag_at ms i ≡ 9 → has_mode (arg_at ms i) m ≡ true → has_mode (arg_at ms i) (8 + m) ≡ true
      → (k : ℕ) × (k < length ln) × (tag_at ms (get_or ln k 0) ≡ 7) × (arg_at ms (get_or ln k 0) ≡ 2 ^ m) × (left_at ms (get_or ln k 0) ≡ i)

-- ---- how they are found

-- whether a type demands by a rule, by the truth of the member and of its body (or its right operand) there
unfoldable pub selects : Rule → Bool → Bool → Bool
selects Forward it pt = it
selects Backward it pt = not pt
selects BothWays it pt = it && not pt

-- the same rule, from the other end of a link: a type refuses by a rule if it demands by the reverse
unfoldable pub reverse : Rule → Rule
reverse Forward = Backward
reverse Backward = Forward
reverse BothWays = BothWays

-- a condition stands against a link along field m from t to u: it is of that field, t demands it, and u refuses it; where there is none, nothing does
unfoldable pub clash : List ℕ → List ℕ → Option Condition → ℕ → ℕ → ℕ → Bool
unfolding selects reverse
clash ms ln None m t u = false
clash ms ln (Some d) m t u =
    eqb d.field m && (selects d.rule (true_at ms ln d.whole t) (true_at ms ln d.part t) && selects (reverse d.rule) (true_at ms ln d.whole u) (true_at ms ln d.part u))

-- the condition, where there is one, is of a field, and made of members
abbrev pub Inside : List ℕ → Option Condition → Type 0
Inside ms o = IfSome o (λ d. (d.field < 8) × (d.whole < length ms) × (d.part < length ms))

-- it is what member j asks, if that is no AU; otherwise none
pub record Own (ms : List ℕ) (j : ℕ) (d : Option Condition) : Type 0 where
  pub inside : Inside ms d
  pub is : (ln : List ℕ) (m t u : ℕ) → m < 8 → (tag_at ms j ≡ 9 → ⊥) → link_rule (lean_forms ms ln) m t u (form ms j) ≡ not (clash ms ln d m t u)
  pub none : tag_at ms j ≡ 9 → d ≡ None

-- it is what the body of member j asks, if that is an AU, and j AX over the field; otherwise none
pub record Below (ms : List ℕ) (j : ℕ) (d : Option Condition) : Type 0 where
  pub inside : Inside ms d
  pub only : (ln : List ℕ) (m t u : ℕ) → m < 8 → clash ms ln d m t u ≡ true → (left_at ms j < length ms) × (link_rule (lean_forms ms ln) m t u (form ms (left_at ms j)) ≡ false)
  pub is : (ln : List ℕ) (m t u : ℕ) → m < 8 → tag_at ms j ≡ 7 → arg_at ms j ≡ 2 ^ m → tag_at ms (left_at ms j) ≡ 9 → link_rule (lean_forms ms ln) m t u (form ms (left_at ms j)) ≡ not (clash ms ln d m t u)

-- condition c, if there is one
pub record OfPlace (ms ln : List ℕ) (c : ℕ) (d : Option Condition) : Type 0 where
  pub even : c % 2 ≡ 0 → Own ms (get_or ln (c / 2) 0) d
  pub odd : c % 2 ≡ 1 → Below ms (get_or ln (c / 2) 0) d
  pub inside : Inside ms d
