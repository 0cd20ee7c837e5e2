-- Lines 1 and 2 of a sheet: the symbols' spellings and kinds, the refusals 4 and 5, and the declarations. Assumes nothing: these are definitions.
use Rattle.std.specs.Prelude.{◌≡◌, Bool, false, cond, not, ◌&&◌, ◌||◌, List, [], ◌∷◌, ◌++◌, map, ℕ, suc, ◌+◌, ◌≤◌, length, take, drop, set, replicate, ltb, eqb, Option, Some, None, Result, Ok, Err}
use Rattle.head.specs.declared.names.Names.{Names}
use Rattle.head.specs.declared.kinds.Kinds.{Kinds}
use Rattle.head.specs.declared.Head.{Head}
use Rattle.refusal.specs.declared.Refusal.{Refusal}
use Rattle.refusal.specs.Number.{number_of}
use Rattle.spelling.specs.Spelling.{spelled, word}
use Rattle.layout.specs.Text.{split, same, has}
use Rattle.layout.specs.Layout.{lines, lines_from, line_of, length_wrong, byte_wrong, layout_right}

abbrev pub space : ℕ
space = 32

-- ---- 4, names: line 1 has 1 to 8 different spellings, single spaces between
-- a text is among some
unfoldable pub has_text : List ℕ → List (List ℕ) → Bool
has_text w [] = false
has_text w (v ∷ vs) = same v w || has_text w vs

-- a word that is a spelling, none of the earlier ones, which are below 8
unfoldable pub name_right : List (List ℕ) → List ℕ → Bool
name_right seen w = spelled w && ltb (length seen) 8 && not (has_text w seen)

-- the same where the earlier ones are packed
unfoldable pub word_right : List ℕ → List ℕ → Bool
word_right seen w = spelled w && ltb (length seen) 8 && not (has (word w) seen)

-- the words of line 1, after those seen; none where a word is wrong
unfoldable pub names_from : List (List ℕ) → List (List ℕ) → List (List ℕ)
names_from seen [] = seen
names_from seen (w ∷ ws) = cond (name_right seen w) (names_from (seen ++ (w ∷ [])) ws) []

unfoldable pub names_of : List ℕ → List (List ℕ)
names_of line = names_from [] (split space line)

-- the spellings of line 1, as words in an array of 8
pub record NamesAre (line : List ℕ) (r : Names) : Type 0 where
  pub some : 1 ≤ r.count
  pub few : r.count ≤ 8
  pub room : length r.words ≡ 8
  pub are : take r.count r.words ≡ map word (names_of line)

-- what a reader of line 1 answers: none where the line is wrong
abbrev pub NamesRead : List ℕ → Option Names → Type 0
NamesRead line None = names_of line ≡ []
NamesRead line (Some r) = NamesAre line r

-- ---- 5, kinds: line 2 has as many words, each `mark`, `name`, `field` or `value`, at most two of them `name`
-- a word's kind: 1 mark, 2 name, 3 field, 4 value, 0 none
abbrev pub mark_word : List ℕ
mark_word = 109 ∷ 97 ∷ 114 ∷ 107 ∷ []

abbrev pub name_word : List ℕ
name_word = 110 ∷ 97 ∷ 109 ∷ 101 ∷ []

abbrev pub field_word : List ℕ
field_word = 102 ∷ 105 ∷ 101 ∷ 108 ∷ 100 ∷ []

abbrev pub value_word : List ℕ
value_word = 118 ∷ 97 ∷ 108 ∷ 117 ∷ 101 ∷ []

unfoldable pub kind_of : List ℕ → ℕ
kind_of w = cond (same w mark_word) 1 (cond (same w name_word) 2 (cond (same w field_word) 3 (cond (same w value_word) 4 0)))

-- how many of the kinds are names
unfoldable pub name_count : List ℕ → ℕ
name_count [] = 0
name_count (k ∷ ks) = cond (eqb k 2) (suc (name_count ks)) (name_count ks)

-- a kind that may follow those seen: below 8 in all, and no third name
unfoldable pub kind_right : List ℕ → ℕ → Bool
kind_right seen k = ltb 0 k && ltb (length seen) 8 && (not (eqb k 2) || ltb (name_count seen) 2)

-- the kinds of line 2's words, after those seen; none where a word is wrong
unfoldable pub kinds_from : List ℕ → List (List ℕ) → List ℕ
kinds_from seen [] = seen
kinds_from seen (w ∷ ws) = cond (kind_right seen (kind_of w)) (kinds_from (seen ++ (kind_of w ∷ [])) ws) []

unfoldable pub kinds_of : List ℕ → List ℕ
kinds_of line = kinds_from [] (split space line)

-- the kinds of line 2, in an array of 8
pub record KindsAre (line : List ℕ) (r : Kinds) : Type 0 where
  pub some : 1 ≤ r.count
  pub few : r.count ≤ 8
  pub room : length r.kinds ≡ 8
  pub are : take r.count r.kinds ≡ kinds_of line

-- what a reader of line 2 answers: none where the line is wrong
abbrev pub KindsRead : List ℕ → Option Kinds → Type 0
KindsRead line None = kinds_of line ≡ []
KindsRead line (Some r) = KindsAre line r

-- ---- the symbols
-- the symbols' spellings and kinds, in line 1 order
abbrev pub spellings : List ℕ → List (List ℕ)
spellings s = names_of (line_of s 0)

abbrev pub kinds : List ℕ → List ℕ
kinds s = kinds_of (line_of s 1)

-- the lowest of the refusals 1 to 5 that applies, 0 where none does
unfoldable pub layout_refusal : List ℕ → ℕ
layout_refusal s =
    cond (length_wrong s) 1
    (cond (byte_wrong s) 2
    (cond (not (layout_right s)) 3
    (cond (eqb (length (spellings s)) 0) 4
    (cond (not (eqb (length (kinds s)) (length (spellings s)))) 5 0))))

-- ---- declarations: 16 numbers. Number i is the word of symbol i where that is a mark, a name or a value, number 8 + i where it is a field, and 0 where there is none;
-- so a symbol's entry (spelling: entry_in) is 0 undeclared, 1 + i the mark, name or value i, 9 + i the field i
abbrev pub place_of : ℕ → ℕ → ℕ
place_of i k = cond (eqb k 3) (8 + i) i

-- the words of symbols from number i on, set in a table
unfoldable pub declare : ℕ → List ℕ → List ℕ → List ℕ → List ℕ
declare i [] ks tab = tab
declare i (x ∷ xs) [] tab = tab
declare i (x ∷ xs) (k ∷ ks) tab = declare (suc i) xs ks (set tab (place_of i k) x)

unfoldable pub declared : List ℕ → List ℕ → List ℕ
declared xs ks = declare 0 xs ks (replicate 16 0)

-- lines 1 and 2 of a sheet that none of the refusals 1 to 5 applies to
pub record Accepted (s : List ℕ) (r : Head) : Type 0 where
  pub count : r.count ≡ length (spellings s)
  pub few : r.count ≤ 8
  pub words_are : take r.count r.words ≡ map word (spellings s)
  pub kinds-are : take r.count r.kinds ≡ kinds s
  pub decl-is : r.decl ≡ declared (map word (spellings s)) (kinds s)
  pub inside : r.from ≤ length s
  pub third : lines_from s r.from ≡ drop 2 (lines s)
  pub short : length s ≤ 1024
  pub bounded : length (lines s) ≤ 7

-- what a reader of lines 1 and 2 answers: what they say, or the lowest of the refusals 1 to 5
abbrev pub HeadRead : List ℕ → Result Head Refusal → Type 0
HeadRead s (Ok h) = (layout_refusal s ≡ 0) × Accepted s h
HeadRead s (Err e) = layout_refusal s ≡ number_of e
