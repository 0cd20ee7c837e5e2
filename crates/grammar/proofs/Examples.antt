-- Worked examples of the grammar, computed. Assumes nothing.
use mathlib.Core.Path.{◌≡◌, refl}
use mathlib.Core.List.{List, [], ◌∷◌}
use Prim.Native.Nat.{ℕ}
use Rattle.syntax.specs.Raw.{zero, one, sym, neg, and, or, imp, ex, ax, af, eu, au, er}
use Rattle.spelling.specs.Spelling.{run, word, entry_from, entry_in}
use Rattle.token.specs.Token.{skip, spaces, sign_of, pair_of, run_front, plain_front, alone_front, head_front, front_by, token_by, token_at, inner_at}
use Rattle.operators.specs.Operators.{choice_of}
use Rattle.operators.specs.Modes.{marked_of, with_mode, mode_at, modes_at, braces_at}
use Rattle.syntax.specs.Parse.{good, bad, letter_low, path_from, formula_at, unit_at, line_at}

-- declarations: the mark `k` and the field `f`; the mark `k`, the name `v`, the fields `f` and `g`; the mark `run` and the field `next`
abbrev d1 : List ℕ
d1 = 107 ∷ 0 ∷ 0 ∷ 0 ∷ 0 ∷ 0 ∷ 0 ∷ 0 ∷ 0 ∷ 102 ∷ 0 ∷ 0 ∷ 0 ∷ 0 ∷ 0 ∷ 0 ∷ []

abbrev d2 : List ℕ
d2 = 107 ∷ 118 ∷ 0 ∷ 0 ∷ 0 ∷ 0 ∷ 0 ∷ 0 ∷ 0 ∷ 0 ∷ 102 ∷ 103 ∷ 0 ∷ 0 ∷ 0 ∷ 0 ∷ []

abbrev d3 : List ℕ
d3 = 7239026 ∷ 0 ∷ 0 ∷ 0 ∷ 0 ∷ 0 ∷ 0 ∷ 0 ∷ 0 ∷ 1954047342 ∷ 0 ∷ 0 ∷ 0 ∷ 0 ∷ 0 ∷ 0 ∷ []

-- `1`
ex-1 : line_at (49 ∷ []) d1 0 ≡ good one 1 9
unfolding run word entry_from entry_in skip spaces sign_of pair_of run_front plain_front alone_front head_front front_by token_by token_at inner_at choice_of marked_of with_mode mode_at modes_at braces_at letter_low path_from formula_at unit_at line_at
ex-1 = refl

-- `EX{f}k&EX{f}!k`
ex-2 : line_at (69 ∷ 88 ∷ 123 ∷ 102 ∷ 125 ∷ 107 ∷ 38 ∷ 69 ∷ 88 ∷ 123 ∷ 102 ∷ 125 ∷ 33 ∷ 107 ∷ []) d1 0 ≡ good (and (ex 2 (sym 0)) (ex 2 (neg (sym 0)))) 14 9
unfolding run word entry_from entry_in skip spaces sign_of pair_of run_front plain_front alone_front head_front front_by token_by token_at inner_at choice_of marked_of with_mode mode_at modes_at braces_at letter_low path_from formula_at unit_at line_at
ex-2 = refl

-- `EX{F}k&EX{F}!k`
ex-3 : line_at (69 ∷ 88 ∷ 123 ∷ 70 ∷ 125 ∷ 107 ∷ 38 ∷ 69 ∷ 88 ∷ 123 ∷ 70 ∷ 125 ∷ 33 ∷ 107 ∷ []) d1 0 ≡ good (and (ex 512 (sym 0)) (ex 512 (neg (sym 0)))) 14 9
unfolding run word entry_from entry_in skip spaces sign_of pair_of run_front plain_front alone_front head_front front_by token_by token_at inner_at choice_of marked_of with_mode mode_at modes_at braces_at letter_low path_from formula_at unit_at line_at
ex-3 = refl

-- `v>(EX{f}k&EX{f}!k)`
ex-4 : line_at (118 ∷ 62 ∷ 40 ∷ 69 ∷ 88 ∷ 123 ∷ 102 ∷ 125 ∷ 107 ∷ 38 ∷ 69 ∷ 88 ∷ 123 ∷ 102 ∷ 125 ∷ 33 ∷ 107 ∷ 41 ∷ []) d2 0 ≡ good (imp (sym 1) (and (ex 4 (sym 0)) (ex 4 (neg (sym 0))))) 18 9
unfolding run word entry_from entry_in skip spaces sign_of pair_of run_front plain_front alone_front head_front front_by token_by token_at inner_at choice_of marked_of with_mode mode_at modes_at braces_at letter_low path_from formula_at unit_at line_at
ex-4 = refl

-- `AF{f}k&AX{f}0&!k`
ex-5 : line_at (65 ∷ 70 ∷ 123 ∷ 102 ∷ 125 ∷ 107 ∷ 38 ∷ 65 ∷ 88 ∷ 123 ∷ 102 ∷ 125 ∷ 48 ∷ 38 ∷ 33 ∷ 107 ∷ []) d1 0 ≡ good (and (af 2 (sym 0)) (and (ax 2 zero) (neg (sym 0)))) 16 9
unfolding run word entry_from entry_in skip spaces sign_of pair_of run_front plain_front alone_front head_front front_by token_by token_at inner_at choice_of marked_of with_mode mode_at modes_at braces_at letter_low path_from formula_at unit_at line_at
ex-5 = refl

-- `A{f,F}(1Uk)&!k&EX{f}!k`
ex-6 : line_at (65 ∷ 123 ∷ 102 ∷ 44 ∷ 70 ∷ 125 ∷ 40 ∷ 49 ∷ 85 ∷ 107 ∷ 41 ∷ 38 ∷ 33 ∷ 107 ∷ 38 ∷ 69 ∷ 88 ∷ 123 ∷ 102 ∷ 125 ∷ 33 ∷ 107 ∷ []) d1 0 ≡ good (and (au 514 one (sym 0)) (and (neg (sym 0)) (ex 2 (neg (sym 0))))) 22 9
unfolding run word entry_from entry_in skip spaces sign_of pair_of run_front plain_front alone_front head_front front_by token_by token_at inner_at choice_of marked_of with_mode mode_at modes_at braces_at letter_low path_from formula_at unit_at line_at
ex-6 = refl

-- `k|k&k>k>0`
ex-7 : line_at (107 ∷ 124 ∷ 107 ∷ 38 ∷ 107 ∷ 62 ∷ 107 ∷ 62 ∷ 48 ∷ []) d1 0 ≡ good (imp (or (sym 0) (and (sym 0) (sym 0))) (imp (sym 0) zero)) 9 9
unfolding run word entry_from entry_in skip spaces sign_of pair_of run_front plain_front alone_front head_front front_by token_by token_at inner_at choice_of marked_of with_mode mode_at modes_at braces_at letter_low path_from formula_at unit_at line_at
ex-7 = refl

-- ` E { f } ( k R k ) `
ex-8 : line_at (32 ∷ 69 ∷ 32 ∷ 123 ∷ 32 ∷ 102 ∷ 32 ∷ 125 ∷ 32 ∷ 40 ∷ 32 ∷ 107 ∷ 32 ∷ 82 ∷ 32 ∷ 107 ∷ 32 ∷ 41 ∷ 32 ∷ []) d1 0 ≡ good (er 2 (sym 0) (sym 0)) 18 9
unfolding run word entry_from entry_in skip spaces sign_of pair_of run_front plain_front alone_front head_front front_by token_by token_at inner_at choice_of marked_of with_mode mode_at modes_at braces_at letter_low path_from formula_at unit_at line_at
ex-8 = refl

-- `EX{f}`
ex-9 : line_at (69 ∷ 88 ∷ 123 ∷ 102 ∷ 125 ∷ []) d1 0 ≡ bad
unfolding run word entry_from entry_in skip spaces sign_of pair_of run_front plain_front alone_front head_front front_by token_by token_at inner_at choice_of marked_of with_mode mode_at modes_at braces_at letter_low path_from formula_at unit_at line_at
ex-9 = refl

-- `EX{k}k`
ex-10 : line_at (69 ∷ 88 ∷ 123 ∷ 107 ∷ 125 ∷ 107 ∷ []) d1 0 ≡ good (ex 0 (sym 0)) 6 7
unfolding run word entry_from entry_in skip spaces sign_of pair_of run_front plain_front alone_front head_front front_by token_by token_at inner_at choice_of marked_of with_mode mode_at modes_at braces_at letter_low path_from formula_at unit_at line_at
ex-10 = refl

-- `EX{}k`
ex-11 : line_at (69 ∷ 88 ∷ 123 ∷ 125 ∷ 107 ∷ []) d1 0 ≡ good (ex 0 (sym 0)) 5 8
unfolding run word entry_from entry_in skip spaces sign_of pair_of run_front plain_front alone_front head_front front_by token_by token_at inner_at choice_of marked_of with_mode mode_at modes_at braces_at letter_low path_from formula_at unit_at line_at
ex-11 = refl

-- `EX{f,f}z`
ex-12 : line_at (69 ∷ 88 ∷ 123 ∷ 102 ∷ 44 ∷ 102 ∷ 125 ∷ 122 ∷ []) d1 0 ≡ good (ex 2 (sym 0)) 8 7
unfolding run word entry_from entry_in skip spaces sign_of pair_of run_front plain_front alone_front head_front front_by token_by token_at inner_at choice_of marked_of with_mode mode_at modes_at braces_at letter_low path_from formula_at unit_at line_at
ex-12 = refl

-- `E X{f}k`
ex-13 : line_at (69 ∷ 32 ∷ 88 ∷ 123 ∷ 102 ∷ 125 ∷ 107 ∷ []) d1 0 ≡ bad
unfolding run word entry_from entry_in skip spaces sign_of pair_of run_front plain_front alone_front head_front front_by token_by token_at inner_at choice_of marked_of with_mode mode_at modes_at braces_at letter_low path_from formula_at unit_at line_at
ex-13 = refl

-- `k k`
ex-14 : line_at (107 ∷ 32 ∷ 107 ∷ []) d1 0 ≡ bad
unfolding run word entry_from entry_in skip spaces sign_of pair_of run_front plain_front alone_front head_front front_by token_by token_at inner_at choice_of marked_of with_mode mode_at modes_at braces_at letter_low path_from formula_at unit_at line_at
ex-14 = refl

-- `kk`
ex-15 : line_at (107 ∷ 107 ∷ []) d1 0 ≡ good (sym 0) 2 7
unfolding run word entry_from entry_in skip spaces sign_of pair_of run_front plain_front alone_front head_front front_by token_by token_at inner_at choice_of marked_of with_mode mode_at modes_at braces_at letter_low path_from formula_at unit_at line_at
ex-15 = refl

-- `E{next}(runUEX{Next}run)`
ex-16 : line_at (69 ∷ 123 ∷ 110 ∷ 101 ∷ 120 ∷ 116 ∷ 125 ∷ 40 ∷ 114 ∷ 117 ∷ 110 ∷ 85 ∷ 69 ∷ 88 ∷ 123 ∷ 78 ∷ 101 ∷ 120 ∷ 116 ∷ 125 ∷ 114 ∷ 117 ∷ 110 ∷ 41 ∷ []) d3 0 ≡ good (eu 2 (sym 0) (ex 512 (sym 0))) 24 9
unfolding run word entry_from entry_in skip spaces sign_of pair_of run_front plain_front alone_front head_front front_by token_by token_at inner_at choice_of marked_of with_mode mode_at modes_at braces_at letter_low path_from formula_at unit_at line_at
ex-16 = refl

-- `EX{neXt}run`
ex-17 : line_at (69 ∷ 88 ∷ 123 ∷ 110 ∷ 101 ∷ 88 ∷ 116 ∷ 125 ∷ 114 ∷ 117 ∷ 110 ∷ []) d3 0 ≡ bad
unfolding run word entry_from entry_in skip spaces sign_of pair_of run_front plain_front alone_front head_front front_by token_by token_at inner_at choice_of marked_of with_mode mode_at modes_at braces_at letter_low path_from formula_at unit_at line_at
ex-17 = refl

-- `runrunrun`
ex-18 : line_at (114 ∷ 117 ∷ 110 ∷ 114 ∷ 117 ∷ 110 ∷ 114 ∷ 117 ∷ 110 ∷ []) d3 0 ≡ bad
unfolding run word entry_from entry_in skip spaces sign_of pair_of run_front plain_front alone_front head_front front_by token_by token_at inner_at choice_of marked_of with_mode mode_at modes_at braces_at letter_low path_from formula_at unit_at line_at
ex-18 = refl

-- `EX{Nextnextn}run`
ex-19 : line_at (69 ∷ 88 ∷ 123 ∷ 78 ∷ 101 ∷ 120 ∷ 116 ∷ 110 ∷ 101 ∷ 120 ∷ 116 ∷ 110 ∷ 125 ∷ 114 ∷ 117 ∷ 110 ∷ []) d3 0 ≡ bad
unfolding run word entry_from entry_in skip spaces sign_of pair_of run_front plain_front alone_front head_front front_by token_by token_at inner_at choice_of marked_of with_mode mode_at modes_at braces_at letter_low path_from formula_at unit_at line_at
ex-19 = refl
