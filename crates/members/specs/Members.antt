-- What a word of a table of closure members means: a member, over the members before it. The closure writes such tables; tableau and snapshot read them. Assumes nothing.
use Rattle.std.specs.Prelude.{List, [], ◌∷◌, ◌++◌, ℕ, ◌+◌, ◌*◌, ◌/◌, ◌%◌, ◌≤◌, ◌<◌, length, get_or}
use Rattle.ctl.specs.Formula.{Form, tru, fls, lit, nlit, and, or, ex, ax, eu, au, er, ar}
use Rattle.ctl.specs.Sorting.{Unique}

-- a word and its parts: the tag, the symbol or the set of modes, and the places of the operands (ex and ax have theirs left)
abbrev pub word_of : ℕ → ℕ → ℕ → ℕ → ℕ
word_of t a l r = t + 16 * a + 1048576 * l + 268435456 * r

abbrev pub tag_w : ℕ → ℕ
tag_w w = w % 16

abbrev pub arg_w : ℕ → ℕ
arg_w w = w / 16 % 65536

abbrev pub left_w : ℕ → ℕ
left_w w = w / 1048576 % 256

abbrev pub right_w : ℕ → ℕ
right_w w = w / 268435456 % 256

-- the formula of a tag, a number and operands
abbrev pub form_by : ℕ → ℕ → Form → Form → Form
form_by k n p q = get_or (tru ∷ fls ∷ lit n ∷ nlit n ∷ and p q ∷ or p q ∷ ex n p ∷ ax n p ∷ eu n p q ∷ au n p q ∷ er n p q ∷ ar n p q ∷ []) k tru

-- the formula of a word over the earlier members
unfoldable pub form_of : List Form → ℕ → Form
form_of acc w = form_by (tag_w w) (arg_w w) (get_or acc (left_w w) tru) (get_or acc (right_w w) tru)

-- the formulas of more words, behind those of the earlier ones
unfoldable pub forms_from : List Form → List ℕ → List Form
forms_from acc [] = acc
forms_from acc (x ∷ xs) = forms_from (acc ++ (form_of acc x ∷ [])) xs

-- the formulas of a table
unfoldable pub forms : List ℕ → List Form
forms ws = forms_from [] ws

-- words that stand for a member over n earlier ones, each in one way
pub data Canon (n : ℕ) : ℕ → Type 0 where
  c-tru : Canon n (word_of 0 0 0 0)
  c-fls : Canon n (word_of 1 0 0 0)
  c-lit : {k : ℕ} → k < 65536 → Canon n (word_of 2 k 0 0)
  c-nlit : {k : ℕ} → k < 65536 → Canon n (word_of 3 k 0 0)
  c-and : {l r : ℕ} → l < n → r < n → Canon n (word_of 4 0 l r)
  c-or : {l r : ℕ} → l < n → r < n → Canon n (word_of 5 0 l r)
  c-ex : {A l : ℕ} → A < 65536 → l < n → Canon n (word_of 6 A l 0)
  c-ax : {A l : ℕ} → A < 65536 → l < n → Canon n (word_of 7 A l 0)
  c-eu : {A l r : ℕ} → A < 65536 → l < n → r < n → Canon n (word_of 8 A l r)
  c-au : {A l r : ℕ} → A < 65536 → l < n → r < n → Canon n (word_of 9 A l r)
  c-er : {A l r : ℕ} → A < 65536 → l < n → r < n → Canon n (word_of 10 A l r)
  c-ar : {A l r : ℕ} → A < 65536 → l < n → r < n → Canon n (word_of 11 A l r)

-- a table of members: each word stands for a member over those before it, and no formula stands there twice
pub record Members (ws : List ℕ) : Type 0 where
  pub few : length ws ≤ 256
  pub canon : (i : ℕ) → i < length ws → Canon i (get_or ws i 0)
  pub unique : Unique (forms ws)
