-- What Clean writes of sheets, and what it refuses, computed from the bytes of each. Assumes nothing.
use mathlib.Core.Path.{◌≡◌, refl}
use mathlib.Core.List.{List, [], ◌∷◌, map}
use Prim.Native.Nat.{ℕ}
use Prim.Native.String.{String}
use Rattle.ctl.specs.Closure.{and_spine, ax_spine, closure, closure_all, closure_of, dedupe, elem_f, ex_spine, or_spine, spine}
use Rattle.ctl.specs.Expansion.{expand, parts}
use Rattle.ctl.specs.Lean.{bytes_lt, is_next, lean, print_lt, symbol_lt, with_values}
use Rattle.ctl.specs.Modes.{modes, single}
use Rattle.ctl.specs.Positive.{signed}
use Rattle.ctl.specs.Print.{braces, capital, print, print_mode, print_modes}
use Rattle.layout.specs.Text.{begins, ended, has, same, split}
use Rattle.layout.specs.Layout.{any_long, byte_wrong, ends_right, layout_right, length_wrong, starts_right, texts_of, unlines}
use Rattle.head.specs.Head.{declare, declared, kind_of, kind_right, kinds_from, kinds_of, name_count, has_text, name_right, names_from, names_of}
use Rattle.spelling.specs.Spelling.{run as letterRun, spelled, word, entry_from, entry_in}
use Rattle.token.specs.Token.{pair_of, sign_of, run_front, plain_front, alone_front, head_front, front_by, token_by, skip, spaces, token_at, inner_at}
use Rattle.operators.specs.Operators.{choice_of}
use Rattle.operators.specs.Modes.{braces_at, marked_of, mode_at, modes_at, with_mode}
use Rattle.syntax.specs.Parse.{formula_at, letter_low, line_at, path_from, unit_at}
use Rattle.sheet.specs.Sheet.{trees}
use Rattle.sheet.specs.Reading.{globals_of, goal_of}
use Rattle.sheet.specs.Refusal.{braces_wrong, conditions, grammar_wrong, symbols_wrong}
use Rattle.reader.specs.Reader.{refusal_within}
use Rattle.layout.specs.Ascii.{ascii}
use Rattle.clean.specs.Clean.{clean_text, clean_wrong, formula_lines}
use Rattle.limits.specs.Limits.{limits_wrong, refusal_under, usual}
use Rattle.outcomes.specs.Outcomes.{clean_refusal}

-- a sheet, and what is written of it; the refusal of a store of so many bytes, 0 for none
record Case : Type 0 where
  sheet : List ℕ
  text : List ℕ
  room : ℕ
  refusal : ℕ

abbrev case : String → String → ℕ → ℕ → Case
case s t room k = record { sheet = ascii s; text = ascii t; room = room; refusal = k }

abbrev cases : List Case
cases =
    case "k f\nmark field\ngoal !EF{f}k\n" "k f\nmark field\ngoal A{f}(0R!k)\n" 31 0
    ∷ case "k f\nmark field\ngoal !EF{f}k\n" "k f\nmark field\ngoal A{f}(0R!k)\n" 30 18
    ∷ case "lock waits held\nmark field field\nall lock > EX { Held , waits } ! lock\ngoal 1\n" "lock waits held\nmark field field\nall (!lock|EX{waits,Held}!lock)\ngoal 1\n" 1024 0
    ∷ []

computed : Case → Case
unfolding limits_wrong refusal_under and_spine ax_spine closure closure_all closure_of dedupe elem_f ex_spine or_spine spine expand parts bytes_lt is_next lean print_lt symbol_lt with_values modes single signed braces capital print print_mode print_modes begins ended has same split any_long byte_wrong ends_right layout_right length_wrong starts_right texts_of unlines declare declared kind_of kind_right kinds_from kinds_of name_count has_text name_right names_from names_of letterRun spelled word entry_from entry_in pair_of sign_of run_front plain_front alone_front head_front front_by token_by skip spaces token_at inner_at choice_of braces_at marked_of mode_at modes_at with_mode formula_at letter_low line_at path_from unit_at trees globals_of goal_of braces_wrong conditions grammar_wrong symbols_wrong refusal_within clean_text clean_wrong formula_lines clean_refusal
computed c = record { sheet = c.sheet; text = clean_text c.sheet; room = c.room; refusal = clean_refusal usual c.sheet c.room }

as-cleaned : map computed cases ≡ cases
unfolding computed
as-cleaned = refl
