-- An evaluator of formulas on snapshots: each formula gets a row with an entry for each node. That it says what the meaning says is sat-iff (proofs/EvaluatorLaws).
-- Assumes nothing.
use Rattle.std.specs.Prelude.{ℕ, zero, suc, Bool, true, false, not, ◌&&◌, ◌||◌, List, map, get_or}
use Rattle.ctl.specs.Lists.{any_of, all_of, imp, below}
use Rattle.ctl.specs.Formula.{Form, tru, fls, lit, nlit, and, or, ex, ax, eu, au, er, ar}
use Rattle.ctl.specs.Modes.{modes}
use Rattle.ctl.specs.Snapshot.{Snapshot, step}

-- the row of f 0 to f (n - 1), and the entry at a place; false beyond the end
abbrev pub table : ℕ → (ℕ → Bool) → List Bool
table n f = map f (below n)

abbrev pub look : List Bool → ℕ → Bool
look l i = get_or l i false

-- A round of F, and the row after k rounds from the one that is false everywhere. A call's arguments are computed once, before the call, so a row that is read many
-- times is an argument.
abbrev pub round : ℕ → ((ℕ → Bool) → ℕ → Bool) → List Bool → List Bool
round n F x = table n (F (look x))

unfoldable pub rounds : ℕ → ((ℕ → Bool) → ℕ → Bool) → ℕ → List Bool
rounds n F zero = table n (λ i. false)
rounds n F (suc k) = round n F (rounds n F k)

-- rows over a graph with n nodes
module _ (n : ℕ) (edge : ℕ → ℕ → Bool) where
  -- x at some next node, x at each next node
  abbrev pub some_next : (ℕ → Bool) → ℕ → Bool
  some_next x i = any_of (λ j. edge i j && x j) (below n)

  abbrev pub each_next : (ℕ → Bool) → ℕ → Bool
  each_next x i = all_of (λ j. imp (edge i j) (x j)) (below n)

  -- a round of E(pUq) and of A(pUq)
  abbrev pub round_eu : (ℕ → Bool) → (ℕ → Bool) → (ℕ → Bool) → ℕ → Bool
  round_eu p q x i = q i || (p i && some_next x i)

  abbrev pub round_au : (ℕ → Bool) → (ℕ → Bool) → (ℕ → Bool) → ℕ → Bool
  round_au p q x i = q i || (p i && (some_next (λ j. true) i && each_next x i))

  -- n rounds are enough
  unfoldable pub table_eu : List Bool → List Bool → List Bool
  table_eu p q = rounds n (round_eu (look p) (look q)) n

  unfoldable pub table_au : List Bool → List Bool → List Bool
  table_au p q = rounds n (round_au (look p) (look q)) n

  abbrev pub table_ex : List Bool → List Bool
  table_ex x = table n (some_next (look x))

  abbrev pub table_ax : List Bool → List Bool
  table_ax x = table n (each_next (look x))

-- the rows of `&`, `|` and `!`
abbrev pub table_and : ℕ → List Bool → List Bool → List Bool
table_and n x y = table n (λ i. look x i && look y i)

abbrev pub table_or : ℕ → List Bool → List Bool → List Bool
table_or n x y = table n (λ i. look x i || look y i)

abbrev pub table_not : ℕ → List Bool → List Bool
table_not n x = table n (λ i. not (look x i))

-- some mode of A leads from node i to node j
unfoldable pub leads : Snapshot → ℕ → ℕ → ℕ → Bool
leads s A i j = any_of (λ m. step s m i j) (modes A)

-- the row of a formula; ER and AR through their duals
unfoldable pub row : Snapshot → Form → List Bool
row s tru = table s.n (λ i. true)
row s fls = table s.n (λ i. false)
row s (lit k) = table s.n (λ i. s.on k i)
row s (nlit k) = table s.n (λ i. not (s.on k i))
row s (and p q) = table_and s.n (row s p) (row s q)
row s (or p q) = table_or s.n (row s p) (row s q)
row s (ex A p) = table_ex s.n (leads s A) (row s p)
row s (ax A p) = table_ax s.n (leads s A) (row s p)
row s (eu A p q) = table_eu s.n (leads s A) (row s p) (row s q)
row s (au A p q) = table_au s.n (leads s A) (row s p) (row s q)
row s (er A p q) = table_not s.n (table_au s.n (leads s A) (table_not s.n (row s p)) (table_not s.n (row s q)))
row s (ar A p q) = table_not s.n (table_eu s.n (leads s A) (table_not s.n (row s p)) (table_not s.n (row s q)))

-- the formula at node i
unfoldable pub sat : Snapshot → Form → ℕ → Bool
sat s φ i = look (row s φ) i
