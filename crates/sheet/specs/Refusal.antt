-- The refusals 1 to 8: document 01's table, a condition each, and the lowest number that applies over the whole sheet. Assumes nothing.
use Rattle.std.specs.Prelude.{Bool, true, false, not, List, [], ◌∷◌, map, ℕ, suc, length, eqb}
use Rattle.ctl.specs.Lists.{any_of}
use Rattle.syntax.specs.Parse.{Out, good, bad, line_at}
use Rattle.layout.specs.Layout.{length_wrong, byte_wrong, layout_right, texts}
use Rattle.head.specs.Head.{spellings, kinds, declared}
use Rattle.spelling.specs.Spelling.{word}

-- the declarations of a sheet
abbrev pub decls : List ℕ → List ℕ
decls s = declared (map word (spellings s)) (kinds s)

-- what a formula's text is, under declarations
abbrev pub read : List ℕ → List ℕ → Out
read decl t = line_at t decl 0

-- a text that does not parse; one that parses, with the lowest refusal k of its symbols and braces
abbrev pub unread : Out → Bool
unread bad = true
unread (good p e low) = false

abbrev pub finds : ℕ → Out → Bool
finds k bad = false
finds k (good p e low) = eqb low k

-- 4, names: line 1. 5, kinds: line 2, or 3 names
abbrev pub names_wrong : List ℕ → Bool
names_wrong s = eqb (length (spellings s)) 0

abbrev pub kinds_wrong : List ℕ → Bool
kinds_wrong s = not (eqb (length (kinds s)) (length (spellings s)))

-- 6, grammar: a formula does not parse
unfoldable pub grammar_wrong : List ℕ → Bool
grammar_wrong s = any_of (λ t. unread (read (decls s) t)) (texts s)

-- 7, symbol: undeclared, or wrong kind for its position. 8, braces: empty, or a mode twice (in a formula with no such symbol)
unfoldable pub symbols_wrong : List ℕ → Bool
symbols_wrong s = any_of (λ t. finds 7 (read (decls s) t)) (texts s)

unfoldable pub braces_wrong : List ℕ → Bool
braces_wrong s = any_of (λ t. finds 8 (read (decls s) t)) (texts s)

-- the number of the first that applies, counted from k; 0 where none does
abbrev pub first_of : ℕ → List Bool → ℕ
first_of k [] = 0
first_of k (true ∷ bs) = k
first_of k (false ∷ bs) = first_of (suc k) bs

-- the conditions 1 to 8, in their order
unfoldable pub conditions : List ℕ → List Bool
conditions s =
    length_wrong s
    ∷ byte_wrong s
    ∷ not (layout_right s)
    ∷ names_wrong s
    ∷ kinds_wrong s
    ∷ grammar_wrong s
    ∷ symbols_wrong s
    ∷ braces_wrong s
    ∷ []

-- the lowest number that applies, over the whole sheet; 0 where none does
unfoldable pub read_refusal : List ℕ → ℕ
unfolding conditions
read_refusal s = first_of 1 (conditions s)
