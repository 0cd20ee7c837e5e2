-- Document 01's proved graphs, and sheets with values and with two names, from the bytes of each sheet, through the definitions that the contracts cite, to what Verdict and Table answer, which types
-- survive, as a set and as List lists them, the rows of snapshots and the numbers that refuse them: one table, computed. Assumes nothing.
use mathlib.Core.Path.{◌≡◌, refl}
use mathlib.Core.List.{List, [], ◌∷◌, ◌++◌, map}
use Prim.Native.Nat.{ℕ}
use Prim.Native.String.{String}
use lib.ListN.{length, replicate}
use Rattle.ctl.specs.Closure.{and_spine, ax_spine, closure, closure_all, closure_of, dedupe, elem_f, ex_spine, or_spine, spine}
use Rattle.ctl.specs.Demand3.{sheet_tableau}
use Rattle.ctl.specs.Expansion.{expand, parts}
use Rattle.ctl.specs.Lean.{bytes_lt, is_next, lean, print_lt, symbol_lt, with_values}
use Rattle.ctl.specs.Modes.{modes, single}
use Rattle.ctl.specs.Positive.{signed}
use Rattle.ctl.specs.Tableau.{namings, start_types}
use Rattle.ctl.specs.Verdict.{rounds_of, surviving_types, verdict}
use Rattle.ctl.specs.Evaluator.{leads, rounds, row, sat, table_au, table_eu}
use Rattle.ctl.specs.Snapshot.{step}
use Rattle.wordset.specs.Below.{all_below, any_below, count_below}
use Rattle.evaluator.specs.Rows.{row_of}
use Rattle.snapshot_text.specs.Lines.{byte_step, line_count, line_store, run, starts}
use Rattle.snapshot.specs.Read.{fits, judged, line_fits, not_one, read_snapshot, twice}
use Rattle.snapshot_text.specs.Store.{entry_at, of_store}
use Rattle.layout.specs.Text.{begins, ended, has, same, split}
use Rattle.layout.specs.Layout.{any_long, byte_wrong, ends_right, layout_right, length_wrong, starts_right, texts_of}
use Rattle.head.specs.Head.{declare, declared, kind_of, kind_right, kinds_from, kinds_of, name_count, has_text, name_right, names_from, names_of}
use Rattle.spelling.specs.Spelling.{run as letterRun, spelled, word, entry_from, entry_in}
use Rattle.token.specs.Token.{pair_of, sign_of, run_front, plain_front, alone_front, head_front, front_by, token_by, skip, spaces, token_at, inner_at}
use Rattle.operators.specs.Operators.{choice_of}
use Rattle.operators.specs.Modes.{braces_at, marked_of, mode_at, modes_at, with_mode}
use Rattle.syntax.specs.Parse.{formula_at, letter_low, line_at, path_from, unit_at}
use Rattle.sheet.specs.Sheet.{trees}
use Rattle.sheet.specs.Reading.{globals_of, goal_of}
use Rattle.sheet.specs.Refusal.{braces_wrong, conditions, grammar_wrong, symbols_wrong}
use Rattle.reader.specs.Reader.{refusal_within}
use Rattle.layout.specs.Ascii.{ascii}
use Rattle.std.specs.Prelude.{Result, Ok}
use Rattle.refusal.specs.declared.Refusal.{Refusal}
use Rattle.judge.specs.declared.Verdict.{Verdict}
use Rattle.judge.specs.declared.Verdict.TheVariants as Judging
use Rattle.outcomes.specs.declared.Tabled.{Tabled}
use Rattle.limits.specs.Limits.{limits_wrong, refusal_under, usual}
use Rattle.prepare.specs.Width.{words_for}
use Rattle.outcomes.specs.Outcomes.{snapshot_refusal, snapshot_row, table_answer, table_refusal, verdict_of}
use Rattle.fitted.specs.Accepted.{listed_in, survivors_in, verdict_in, words_in}

-- a sheet, and what document 01, or the request named beside it, says of it: the verdict; what Table answers with stores of 4 words under a naming (how many words; types at start, left, rounds); the types that survive
-- under a naming; the same in document 02's order; the row of a snapshot's text; the number that refuses a text with so many bytes for its row
record Graph : Type 0 where
  sheet : List ℕ
  verdict : List (Result Verdict Refusal)
  tables : List (ℕ × Result Tabled Refusal)
  survivors : List (ℕ × List ℕ)
  lists : List (ℕ × List ℕ)
  rows : List (List ℕ × List ℕ)
  refused : List (List ℕ × ℕ × ℕ)

-- the lines of a sheet with one goal and no globals, under `k f`, `mark field`
abbrev under : String → List ℕ
under goal = ascii "k f\nmark field\ngoal " ++ ascii goal ++ ascii "\n"

-- the answers
abbrev open' : ℕ → ℕ → Result Verdict Refusal
open' r t = Ok (Judging.Open r t)

abbrev unsatisfiable : Result Verdict Refusal
unsatisfiable = Ok Judging.Unsatisfiable

abbrev done : ℕ → ℕ → ℕ → ℕ → Result Tabled Refusal
done words start left rounds = Ok (record { words = words; start = start; left = left; rounds = rounds })

abbrev graph : List ℕ → Result Verdict Refusal → Graph
graph s v = record { sheet = s; verdict = v ∷ []; tables = []; survivors = []; lists = []; rows = []; refused = [] }

abbrev graphs : List Graph
graphs =
    record { sheet = under "EX{f}k"; verdict = open' 0 2 ∷ []; tables = (0, done 1 4 4 0) ∷ []; survivors = []; lists = []; rows = (ascii "k f\n0 2\n1 0\n", 3 ∷ 2 ∷ []) ∷ []; refused = [] }
    ∷ graph (under "1") (open' 0 0)
    ∷ record { sheet = under "0"; verdict = unsatisfiable ∷ []; tables = (0, done 1 1 1 0) ∷ []; survivors = []; lists = []; rows = []; refused = [] }
    ∷ graph (under "EX{f}k&EX{f}!k") unsatisfiable
    ∷ graph (under "EX{F}k&EX{F}!k") (open' 0 6)
    ∷ record {
      sheet = ascii "k v f g\nmark name field field\nall v>(EX{f}k&EX{f}!k)\ngoal EX{g}v\n";
      verdict = unsatisfiable ∷ [];
      tables = (0, done 1 16 6 1) ∷ (10, done 1 17 6 2) ∷ [];
      survivors = (10, 0 ∷ 1 ∷ 4 ∷ 5 ∷ 16 ∷ 17 ∷ []) ∷ [];
      lists = (10, 0 ∷ 1 ∷ 4 ∷ 16 ∷ 5 ∷ 17 ∷ []) ∷ [];
      rows = [];
      refused = [];
    }
    ∷ graph (under "AF{f}k&AX{f}0&!k") unsatisfiable
    ∷ graph (under "A{f,F}(1Uk)&!k&EX{f}!k") unsatisfiable
    -- document 01 has open 0 12 here. By document 02 §4 a name's set covers the other names, so v's one node cannot have w through f and not have it through g
    ∷ record {
      sheet = ascii "v w f g\nname name field field\ngoal EX{f}(v&w)&EX{g}(v&!w)\n";
      verdict = unsatisfiable ∷ [];
      tables = (0, done 1 6 4 1) ∷ (1, done 1 5 2 1) ∷ [];
      survivors = [];
      lists = [];
      rows = [];
      refused = [];
    }
    -- §4: each name has a set of its own, the first name's in the low bits
    ∷ record {
      sheet = ascii "v w k f g\nname name mark field field\ngoal EX{f}(v&k)&EX{g}(w&!k)\n";
      verdict = open' 2 24 ∷ [];
      tables = (2, done 1 10 10 0) ∷ [];
      survivors = [];
      lists = [];
      rows = [];
      refused = [];
    }
    ∷ record { sheet = under "EG{f}!k"; verdict = []; tables = []; survivors = []; lists = []; rows = (ascii "k f\n0 0\n", 3 ∷ []) ∷ []; refused = [] }
    ∷ record { sheet = under "AF{f}k"; verdict = []; tables = []; survivors = []; lists = []; rows = (ascii "k f\n0 1\n", 2 ∷ []) ∷ (ascii "k f\n0 0\n", 2 ∷ []) ∷ []; refused = [] }
    -- document 02 §3: a declared value that does not occur is in the lean, and every type at start holds exactly one
    ∷ record {
      sheet = ascii "thread lock next\nvalue value field\ngoal EX{next}thread\n";
      verdict = open' 0 5 ∷ [];
      tables = (0, done 1 4 4 0) ∷ [];
      survivors = [];
      lists = (0, 1 ∷ 2 ∷ 5 ∷ 6 ∷ []) ∷ [];
      rows = (ascii "thread lock next\n1 0 2\n0 1 0\n", 2 ∷ 2 ∷ []) ∷ [];
      refused = [];
    }
    ∷ graph (ascii "a b f\nvalue value field\ngoal EX{f}(!a&!b)\n") unsatisfiable
    -- §3: 15 before 17 before 16, and 14 before 17
    ∷ record {
      sheet = ascii "v a b\nname value value\ngoal v&a\n";
      verdict = open' 1 3 ∷ [];
      tables = (1, done 1 3 3 0) ∷ [];
      survivors = [];
      lists = [];
      rows = [];
      refused =
          (ascii "v a b\n1 1 1\n1 1 0\n", 2, 15)
          ∷ (ascii "v a b\n1 1 1\n0 1 0\n", 1, 17)
          ∷ (ascii "v a b\n1 1 0\n0 1 0\n", 1, 16)
          ∷ (ascii "v a b\n1 2 0\n0 0 0\n", 2, 14)
          ∷ [];
    }
    ∷ []

-- the row that Snapshot leaves of one of n bytes
abbrev row_left : List ℕ → List ℕ → ℕ → List ℕ
row_left s t n = snapshot_row s t (snapshot_refusal usual s t n) (replicate n 0)

computed : Graph → Graph
unfolding limits_wrong refusal_under words_for and_spine ax_spine closure closure_all closure_of dedupe elem_f ex_spine or_spine spine sheet_tableau expand parts bytes_lt is_next lean print_lt symbol_lt with_values modes single signed namings start_types rounds_of surviving_types verdict begins ended has same split any_long byte_wrong declare declared ends_right kind_of kind_right kinds_from kinds_of layout_right length_wrong name_count has_text name_right names_from names_of starts_right texts_of letterRun spelled word entry_from entry_in pair_of sign_of run_front plain_front alone_front head_front front_by token_by skip spaces token_at inner_at choice_of braces_at marked_of mode_at modes_at with_mode formula_at letter_low line_at path_from unit_at trees globals_of goal_of braces_wrong conditions grammar_wrong symbols_wrong refusal_within table_refusal listed_in verdict_in verdict_of words_in step leads row rounds table_eu table_au sat row_of of_store entry_at byte_step run starts line_count line_store line_fits fits twice not_one judged read_snapshot snapshot_refusal all_below any_below count_below
computed g = record {
  sheet = g.sheet;
  verdict = map (λ v. verdict_of usual g.sheet) g.verdict;
  tables = map (λ t. (t.0, table_answer g.sheet t.0 (table_refusal usual g.sheet t.0 4 4))) g.tables;
  survivors = map (λ t. (t.0, survivors_in g.sheet t.0)) g.survivors;
  lists = map (λ t. (t.0, listed_in g.sheet t.0)) g.lists;
  rows = map (λ t. (t.0, row_left g.sheet t.0 (length t.1))) g.rows;
  refused = map (λ t. (t.0, t.1, snapshot_refusal usual g.sheet t.0 t.1)) g.refused;
}

as-drawn : map computed graphs ≡ graphs
unfolding computed
as-drawn = refl
