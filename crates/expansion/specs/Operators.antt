-- Operators in dual pairs, told apart by a Boolean, with their expansions: one definition, one function of the code and one law for both. Assumes nothing.
use Rattle.std.specs.Prelude.{Bool, true, false, not, List, [], ◌∷◌, ◌++◌, map, ℕ, ◌^◌, get_or}
use Rattle.ctl.specs.Formula.{Form, tru, fls, and, or, ex, ax, eu, au, er, ar, lit, nlit}
use Rattle.ctl.specs.Expansion.{or_all, and_all}
use Rattle.ctl.specs.Closure.{or_spine, and_spine, ex_spine, ax_spine}

-- ---- EX (true) and AX (false)

abbrev pub next_form : Bool → ℕ → Form → Form
next_form true A p = ex A p
next_form false A p = ax A p

-- what joins the single ones, and what stands for none
abbrev pub join_form : Bool → Form → Form → Form
join_form true p q = or p q
join_form false p q = and p q

abbrev pub unit_form : Bool → Form
unit_form true = fls
unit_form false = tru

-- the tags of their members
abbrev pub next_tag : Bool → ℕ
next_tag true = 6
next_tag false = 7

abbrev pub join_tag : Bool → ℕ
join_tag true = 5
join_tag false = 4

abbrev pub unit_tag : Bool → ℕ
unit_tag true = 1
unit_tag false = 0

-- several formulas joined
abbrev pub join_all : Bool → List Form → Form
join_all true l = or_all l
join_all false l = and_all l

-- what joining them adds
unfoldable pub join_spine : Bool → List Form → List Form
unfolding or_spine and_spine
join_spine true l = or_spine l
join_spine false l = and_spine l

-- EX or AX with what its expansion adds
unfoldable pub next_spine : Bool → ℕ → Form → List Form
unfolding ex_spine ax_spine
next_spine true A p = ex_spine A p
next_spine false A p = ax_spine A p

-- EX or AX over each mode of a list alone
abbrev pub each_of : Bool → List ℕ → Form → List Form
each_of b ms p = map (λ m. next_form b (2 ^ m) p) ms

-- ---- EU (true) and AR (false)

abbrev pub plain_form : Bool → ℕ → Form → Form → Form
plain_form true A p q = eu A p q
plain_form false A p q = ar A p q

-- ---- AU (true) and ER (false)

abbrev pub strong_form : Bool → ℕ → Form → Form → Form
strong_form true A p q = au A p q
strong_form false A p q = er A p q

abbrev pub plain_tag : Bool → ℕ
plain_tag true = 8
plain_tag false = 11

abbrev pub strong_tag : Bool → ℕ
strong_tag true = 9
strong_tag false = 10

-- the left operand joined to x, and the right one to that
abbrev pub first_join : Bool → Form → Form → Form
first_join b p x = join_form (not b) p x

abbrev pub both_joins : Bool → Form → Form → Form → List Form
both_joins b p q x = first_join b p x ∷ (join_form b q (first_join b p x) ∷ [])

-- the step to the next nodes of AU or ER s: that there is one (none), and that s holds at each (at one)
abbrev pub step_form : Bool → ℕ → Form → Form
step_form b A s = join_form (not b) (next_form b A (unit_form (not b))) (next_form (not b) A s)

-- the step with all its parts
unfoldable pub step_parts : Bool → ℕ → Form → List Form
unfolding next_spine
step_parts b A s = ((unit_form (not b) ∷ next_spine b A (unit_form (not b))) ++ next_spine (not b) A s) ++ (step_form b A s ∷ [])

-- ---- a formula as read, or its negation

-- a sign, exchanged where the first holds
abbrev pub flip : Bool → Bool → Bool
flip true b = not b
flip false b = b

abbrev pub letter_form : Bool → ℕ → Form
letter_form true k = lit k
letter_form false k = nlit k

-- EU, AU, ER and AR (0 to 3), as the parser numbers them, or their duals where the sign is false
abbrev pub until_form : ℕ → Bool → ℕ → Form → Form → Form
until_form o b A p q = get_or (plain_form b A p q ∷ strong_form b A p q ∷ strong_form (not b) A p q ∷ plain_form (not b) A p q ∷ []) o (plain_form b A p q)

-- whether the left operand that EF, AF, EG and AG (0 to 3) have is `0`
abbrev pub until_unit : ℕ → Bool → Bool
until_unit o b = get_or (not b ∷ not b ∷ b ∷ b ∷ []) o b
