-- Refusals computed from the bytes of sheets: document 01's drawn ones, one for each number, symbols of several letters, and values, all of which count in the lean. Assumes nothing.
use mathlib.Core.Path.{◌≡◌, refl}
use mathlib.Core.List.{List, [], ◌∷◌, ◌++◌, map}
use Prim.Native.Nat.{ℕ, zero, suc}
use Rattle.ctl.specs.Modes.{modes, single}
use Rattle.ctl.specs.Positive.{signed}
use Rattle.ctl.specs.Expansion.{expand, parts}
use Rattle.ctl.specs.Closure.{elem_f, dedupe, or_spine, and_spine, ex_spine, ax_spine, spine, closure_of, closure_all, closure}
use Rattle.ctl.specs.Lean.{bytes_lt, print_lt, symbol_lt, is_next, with_values, lean}
use Rattle.layout.specs.Text.{split, ended, same, begins, has}
use Rattle.layout.specs.Layout.{any_long, length_wrong, byte_wrong, starts_right, ends_right, layout_right, texts_of}
use Rattle.head.specs.Head.{has_text, name_right, names_from, names_of, kind_of, name_count, kind_right, kinds_from, kinds_of, declare, declared}
use Rattle.spelling.specs.Spelling.{run, spelled, word, entry_from, entry_in}
use Rattle.token.specs.Token.{skip, spaces, sign_of, pair_of, run_front, plain_front, alone_front, head_front, front_by, token_by, token_at, inner_at}
use Rattle.operators.specs.Operators.{choice_of}
use Rattle.operators.specs.Modes.{marked_of, with_mode, mode_at, modes_at, braces_at}
use Rattle.syntax.specs.Parse.{letter_low, path_from, formula_at, unit_at, line_at}
use Rattle.sheet.specs.Sheet.{trees}
use Rattle.sheet.specs.Refusal.{conditions, grammar_wrong, symbols_wrong, braces_wrong}
use Rattle.reader.specs.Reader.{refusal_within, refusal_of}
use Rattle.layout.specs.Ascii.{ascii}

-- one letter k more than n, joined
abbrev joined : ℕ → List ℕ
joined zero = ascii "k\n"
joined (suc n) = ascii "k&" ++ joined n

abbrev cases : List (List ℕ × ℕ)
cases =
    (ascii "k f\nmark field\ngoal EX{f}\n", 6)
    ∷ (ascii "k f\nmark field\ngoal EX{k}k\n", 7)
    ∷ (ascii "k f\nmark field\ngoal EX{}k\n", 8)
    ∷ (ascii "k f\nmark field\ngoal " ++ joined 63, 0)
    ∷ (ascii "k f\nmark field\ngoal " ++ joined 64, 9)
    ∷ (ascii "a b c d e g h f\nmark mark mark mark mark mark mark field\ngoal a&b&c&d&e&g&h&EX{f}a\n", 0)
    ∷ (ascii "a b c d e g h f\nmark mark mark mark mark mark mark field\ngoal a&b&c&d&e&g&h&EX{f}a&EX{f}b\n", 10)
    ∷ (ascii "", 1)
    ∷ (ascii "k f\nmark field\ngoal \t\n", 2)
    ∷ (ascii "k f\nmark field\ngoal k", 3)
    ∷ (ascii "k k\nmark field\ngoal k\n", 4)
    ∷ (ascii "k f\nmark  field\ngoal k\n", 5)
    ∷ (ascii "k f\nmark field\nall EX{}k\ngoal EX{\n", 6)
    ∷ (ascii "k f\nmark field\nall EX{}k\ngoal z\n", 7)
    ∷ (ascii "k f\nmark field\ngoal EX{f}k\n", 0)
    ∷ (ascii "kk k\nmark mark\ngoal k&kk\n", 0)
    ∷ (ascii "k f\nmark field\ngoal kk\n", 7)
    ∷ (ascii "thread waits\nmark field\ngoal E{Waits,waits}(threadUthread)\n", 0)
    ∷ (ascii "threadsss waits\nmark field\ngoal 1\n", 4)
    ∷ (ascii "k f\nmark field\ngoal kkkkkkkkk\n", 6)
    ∷ (ascii "k next\nmark field\ngoal EX{neXt}k\n", 6)
    ∷ (ascii "k a b f\nmark value value field\ngoal EX{f}a\n", 0)
    ∷ (ascii "k a b f\nmark value value field\ngoal EX{a}k\n", 7)
    ∷ (ascii "k a b f\nmark value values field\ngoal k\n", 5)
    ∷ (ascii "a b c d e g h f\nvalue value value value value value value field\ngoal EX{f}1\n", 0)
    ∷ (ascii "a b c d e g h f\nvalue value value value value value value field\ngoal EX{f}1&EX{F}1\n", 10)
    ∷ []

found : map (λ c. refusal_of c.0) cases ≡ map (λ c. c.1) cases
unfolding split ended same begins has any_long length_wrong byte_wrong starts_right ends_right layout_right has_text name_right names_from names_of kind_of name_count kind_right kinds_from kinds_of texts_of declare declared run spelled word entry_from entry_in skip spaces sign_of pair_of run_front plain_front alone_front head_front front_by token_by token_at inner_at choice_of marked_of with_mode mode_at modes_at braces_at letter_low path_from formula_at unit_at line_at trees conditions grammar_wrong symbols_wrong braces_wrong refusal_within modes single signed expand parts elem_f dedupe or_spine and_spine ex_spine ax_spine spine closure_of closure_all closure bytes_lt print_lt symbol_lt is_next with_values lean
found = refl
