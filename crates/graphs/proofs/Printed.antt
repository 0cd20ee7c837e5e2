-- What the program prints for sheets of document 01, computed from the bytes of each. Assumes nothing.
use mathlib.Core.Path.{◌≡◌, refl}
use mathlib.Core.List.{List, [], ◌∷◌, map}
use Prim.Native.Nat.{ℕ}
use Prim.Native.String.{String}
use Rattle.ctl.specs.Closure.{and_spine, ax_spine, closure, closure_all, closure_of, dedupe, elem_f, ex_spine, or_spine, spine}
use Rattle.ctl.specs.Demand3.{sheet_tableau}
use Rattle.ctl.specs.Expansion.{expand, parts}
use Rattle.ctl.specs.Lean.{bytes_lt, is_next, lean, print_lt, symbol_lt}
use Rattle.ctl.specs.Modes.{modes, single}
use Rattle.ctl.specs.Positive.{signed}
use Rattle.ctl.specs.Tableau.{namings, start_types}
use Rattle.ctl.specs.Verdict.{rounds_of, surviving_types, verdict}
use Rattle.layout.specs.Text.{begins, ended, has, same, split}
use Rattle.layout.specs.Layout.{any_long, byte_wrong, ends_right, layout_right, length_wrong, starts_right, texts_of}
use Rattle.head.specs.Head.{declare, declared, kind_of, kind_right, kinds_from, kinds_of, name_count, has_text, name_right, names_from, names_of}
use Rattle.spelling.specs.Spelling.{run as letterRun, spelled, word, entry_from, entry_in}
use Rattle.token.specs.Token.{pair_of, sign_of, run_front, plain_front, alone_front, head_front, front_by, token_by, skip, spaces, token_at, inner_at}
use Rattle.operators.specs.Operators.{choice_of}
use Rattle.operators.specs.Modes.{braces_at, marked_of, mode_at, modes_at, with_mode}
use Rattle.syntax.specs.Parse.{formula_at, letter_low, line_at, path_from, unit_at}
use Rattle.sheet.specs.Sheet.{trees}
use Rattle.sheet.specs.Reading.{globals_of, goal_of}
use Rattle.sheet.specs.Refusal.{braces_wrong, conditions, grammar_wrong, symbols_wrong}
use Rattle.reader.specs.Reader.{refusal_within}
use Rattle.layout.specs.Ascii.{ascii}
use Rattle.lines.specs.Lines.{decimal, digits, heading_line, naming_line, refused_line, spaced, verdict_heading, verdict_line}
use Rattle.fitted.specs.Accepted.{verdict_in}
use Rattle.limits.specs.Limits.{limits_wrong, refusal_under, usual}
use Rattle.report.specs.Text.{lines_of, naming_of, text_of}

-- a sheet, and what is printed for it
record Case : Type 0 where
  sheet : List ℕ
  text : List ℕ

abbrev case : String → String → Case
case s t = record { sheet = ascii s; text = ascii t }

abbrev cases : List Case
cases =
    case "k f\nmark field\ngoal EX{f}k\n" "naming start left rounds\n0 4 4 0\nverdict naming type\nopen 0 2\n"
    ∷ case "k f\nmark field\ngoal 0\n" "naming start left rounds\n0 1 1 0\nverdict naming type\nunsatisfiable - -\n"
    ∷ case "k f\nmark field\ngoal EX{f}\n" "refused 6\n"
    ∷ []

computed : Case → Case
unfolding limits_wrong refusal_under and_spine ax_spine closure closure_all closure_of dedupe elem_f ex_spine or_spine spine sheet_tableau expand parts bytes_lt is_next lean print_lt symbol_lt modes single signed namings start_types rounds_of surviving_types verdict begins ended has same split any_long byte_wrong ends_right layout_right length_wrong starts_right texts_of declare declared kind_of kind_right kinds_from kinds_of name_count has_text name_right names_from names_of letterRun spelled word entry_from entry_in pair_of sign_of run_front plain_front alone_front head_front front_by token_by skip spaces token_at inner_at choice_of braces_at marked_of mode_at modes_at with_mode formula_at letter_low line_at path_from unit_at trees globals_of goal_of braces_wrong conditions grammar_wrong symbols_wrong refusal_within decimal digits heading_line naming_line refused_line spaced verdict_heading verdict_line verdict_in lines_of naming_of text_of
computed c = record { sheet = c.sheet; text = text_of usual c.sheet (ascii "\n") }

as-printed : map computed cases ≡ cases
unfolding computed
as-printed = refl
