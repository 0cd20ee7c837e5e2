-- Sheets that tell wrong readings of the definitions from the right one, computed from formulas as typed to the verdict. Document 01's proved graphs themselves are one
-- table above the public library, computed from bytes. Assumes nothing.
use mathlib.Core.Path.{◌≡◌, refl}
use mathlib.Core.List.{List, [], ◌∷◌, map}
use Prim.Native.Nat.{ℕ, ◌+◌, ◌^◌}
use lib.ListN.{length, get_or}
use Rattle.ctl.specs.Lists.{elem, below}
use Rattle.ctl.specs.Raw.{Raw, zero, one, sym, neg, and, imp, ex, ax, ef, af, eg, au}
use Rattle.ctl.specs.Positive.{positive, signed}
use Rattle.ctl.specs.Tableau.{Tableau, namings, start_types}
use Rattle.ctl.specs.Links.{link_by}
use Rattle.ctl.specs.Elimination.{survivors}
use Rattle.ctl.specs.Verdict.{Verdict, unsatisfiable, open', verdict}
use Rattle.ctl.specs.Judging.{verdict_from}
use Rattle.ctl.specs.Published
use Rattle.ctl.specs.Demand3.{sheet_tableau}

-- a sheet: the spellings of line 1 as bytes, the symbols that are names, those that are values, the globals, the goal
record Drawing : Type 0 where
  spellings : List (List ℕ)
  names : List ℕ
  values : List ℕ
  globals : List Raw
  goal : Raw

tableau : Drawing → Tableau
unfolding sheet_tableau elem
tableau d = sheet_tableau (λ k. get_or d.spellings k []) (λ k. elem k d.names) d.values d.globals d.goal

judged : Drawing → Verdict
unfolding tableau verdict signed
judged d = verdict (tableau d) (positive d.goal)

-- ---- sheets

-- under `k f`, `mark field`: k is symbol 0, f field 1
kf : Raw → Drawing
kf goal = record { spellings = (107 ∷ []) ∷ (102 ∷ []) ∷ []; names = []; values = []; globals = []; goal = goal }

k : Raw
k = sym 0

-- f forward, backward, and both ways
forward : ℕ
forward = 2 ^ 1

backward : ℕ
backward = 2 ^ 9

both : ℕ
unfolding forward backward
both = forward + backward

-- 000, example 5.1: `k v f g`, `mark name field field`, `all v>(EX{f}k&EX{f}!k)`, `goal EX{g}v`
example51 : Drawing
example51 =
    let v = sym 1 in
    record { spellings = (107 ∷ []) ∷ (118 ∷ []) ∷ (102 ∷ []) ∷ (103 ∷ []) ∷ []; names = 1 ∷ []; values = []; globals = imp v (and (ex (2 ^ 2) k) (ex (2 ^ 2) (neg k))) ∷ []; goal = ex (2 ^ 3) v }

-- `k f`, `all !k`, `goal EF{f}k`
never_there : Drawing
never_there = record { spellings = (107 ∷ []) ∷ (102 ∷ []) ∷ []; names = []; values = []; globals = neg k ∷ []; goal = ef forward k }

-- `k f g`, `all EX{g}!k`, `goal AF{f,g}k&!k&EX{f}1`
other_way : Drawing
other_way = record { spellings = (107 ∷ []) ∷ (102 ∷ []) ∷ (103 ∷ []) ∷ []; names = []; values = []; globals = ex (2 ^ 2) (neg k) ∷ []; goal = and (af (2 ^ 1 + 2 ^ 2) k) (and (neg k) (ex (2 ^ 1) one)) }

-- `a b f`, `value value field`: a is symbol 0, b symbol 1, f field 2
abf : Raw → Drawing
abf goal = record { spellings = (97 ∷ []) ∷ (98 ∷ []) ∷ (102 ∷ []) ∷ []; names = []; values = 0 ∷ 1 ∷ []; globals = []; goal = goal }

-- `v a b f`, `name value value field`, `goal EX{f}(v&a)&EX{F}(v&b)`
named_value : Drawing
named_value =
    let v = sym 0 in
    record { spellings = (118 ∷ []) ∷ (97 ∷ []) ∷ (98 ∷ []) ∷ (102 ∷ []) ∷ []; names = 0 ∷ []; values = 1 ∷ 2 ∷ []; globals = []; goal = and (ex (2 ^ 3) (and v (sym 1))) (ex (2 ^ 11) (and v (sym 2))) }

-- `v w f g`, `name name field field`, `goal EX{f}(v&w)&EX{g}(v&!w)`
two_names : Drawing
two_names =
    let v = sym 0 in
    let w = sym 1 in
    record { spellings = (118 ∷ []) ∷ (119 ∷ []) ∷ (102 ∷ []) ∷ (103 ∷ []) ∷ []; names = 0 ∷ 1 ∷ []; values = []; globals = []; goal = and (ex (2 ^ 2) (and v w)) (ex (2 ^ 3) (and v (neg w))) }

-- `v w k f g`, `name name mark field field`, `goal EX{f}(v&k)&EX{g}(w&!k)`
two_sets : Drawing
two_sets =
    let v = sym 0 in
    let w = sym 1 in
    let m = sym 2 in
    record { spellings = (118 ∷ []) ∷ (119 ∷ []) ∷ (107 ∷ []) ∷ (102 ∷ []) ∷ (103 ∷ []) ∷ []; names = 0 ∷ 1 ∷ []; values = []; globals = []; goal = and (ex (2 ^ 3) (and v m)) (ex (2 ^ 4) (and w (neg m))) }

-- ---- verdicts

record Case : Type 0 where
  drawing : Drawing
  answer : Verdict

cases : List Case
unfolding kf k forward backward both example51 never_there other_way abf named_value two_names two_sets
cases =
    -- `EX{F}k&EX{F}!k`: not one predecessor for all backward EX
    record { drawing = kf (and (ex backward k) (ex backward (neg k))); answer = open' 0 6 }
    -- `AF{f}k&AX{f}0&!k`: a dead end does not satisfy AF
    ∷ record { drawing = kf (and (af forward k) (and (ax forward zero) (neg k))); answer = unsatisfiable }
    -- `A{f,F}(1Uk)&!k&EX{f}!k`: there is a both-ways rule
    ∷ record { drawing = kf (and (au both one k) (and (neg k) (ex forward (neg k)))); answer = unsatisfiable }
    -- `A{f,F}(1Uk)&!k&EX{f}k`: and it is not too strict
    ∷ record { drawing = kf (and (au both one k) (and (neg k) (ex forward k))); answer = open' 0 58 }
    -- `k&EX{f}AX{F}!k`: AX over a backward mode binds a forward link
    ∷ record { drawing = kf (and k (ex forward (ax backward (neg k)))); answer = unsatisfiable }
    -- `EG{f}k&AX{f}0`: a dead end satisfies ER
    ∷ record { drawing = kf (and (eg forward k) (ax forward zero)); answer = open' 0 3 }
    -- EU is checked
    ∷ record { drawing = never_there; answer = unsatisfiable }
    -- a rank goes through every EX of the modes
    ∷ record { drawing = other_way; answer = unsatisfiable }
    -- it takes more than one round
    ∷ record { drawing = example51; answer = unsatisfiable }
    -- values: `a`, `!a`: one that does not occur is in the lean
    ∷ record { drawing = abf (sym 0); answer = open' 0 1 }
    ∷ record { drawing = abf (neg (sym 0)); answer = open' 0 2 }
    -- `!a&!b`, `EX{f}(a&b)`: a node holds one, and no more
    ∷ record { drawing = abf (and (neg (sym 0)) (neg (sym 1))); answer = unsatisfiable }
    ∷ record { drawing = abf (ex (2 ^ 2) (and (sym 0) (sym 1))); answer = unsatisfiable }
    -- a name's set covers the values
    ∷ record { drawing = named_value; answer = unsatisfiable }
    -- and the other names
    ∷ record { drawing = two_names; answer = unsatisfiable }
    -- each name has a set of its own, the first one's in the low bits
    ∷ record { drawing = two_sets; answer = open' 2 24 }
    ∷ []

all-verdicts : map (λ c. judged c.drawing) cases ≡ map (λ c. c.answer) cases
unfolding judged cases
all-verdicts = refl

-- ---- sizes

record Sizes : Type 0 where
  drawing : Drawing
  sizes : List ℕ

-- how many members the closure has, places the lean, namings there are, and types at start under naming 0
sized : Drawing → List ℕ
unfolding tableau namings start_types
sized d = let S = tableau d in length S.cl ∷ length S.ln ∷ namings S ∷ length (start_types S 0) ∷ []

drawings : List Sizes
unfolding abf two_names
drawings =
    -- a value that does not occur is a lean place, and no closure member
    record { drawing = abf (sym 0); sizes = 1 ∷ 2 ∷ 1 ∷ 2 ∷ [] }
    -- a name's set has a bit for each other place. (Under naming 0 the start types are the one with each name alone, and those with none)
    ∷ record { drawing = two_names; sizes = 8 ∷ 4 ∷ 64 ∷ 6 ∷ [] }
    ∷ []

all-sizes : map (λ c. sized c.drawing) drawings ≡ map (λ c. c.sizes) drawings
unfolding sized drawings
all-sizes = refl

-- by the published namings the goal with two names was open
published-open : (let S = tableau two_names in verdict_from S.cl S.ln (Published.start_types S) (positive two_names.goal) (below (Published.namings S))) ≡ open' 0 12
unfolding tableau two_names verdict_from Published.start_types Published.namings signed survivors link_by
published-open = refl
