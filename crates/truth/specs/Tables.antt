-- A table of closure members with a lean: its members one by one, and what is asked of it. Assumes nothing.
use Rattle.std.specs.Prelude.{◌≡◌, List, map, ℕ, ◌≤◌, ◌<◌, length, get_or}
use Rattle.ctl.specs.Formula.{Form, tru}
use Rattle.members.specs.Members.{arg_w, forms, left_w, right_w, tag_w}

-- member i, and the parts of its word
unfoldable pub form : List ℕ → ℕ → Form
form ms i = get_or (forms ms) i tru

abbrev pub tag_at : List ℕ → ℕ → ℕ
tag_at ms i = tag_w (get_or ms i 0)

abbrev pub arg_at : List ℕ → ℕ → ℕ
arg_at ms i = arg_w (get_or ms i 0)

abbrev pub left_at : List ℕ → ℕ → ℕ
left_at ms i = left_w (get_or ms i 0)

abbrev pub right_at : List ℕ → ℕ → ℕ
right_at ms i = right_w (get_or ms i 0)

-- the lean, of which ln has the members by their places in the table
unfoldable pub lean_forms : List ℕ → List ℕ → List Form
lean_forms ms ln = map (form ms) ln

-- Of a table: operands come before the members that have them, a member without operands has 0 there, no two members are equal
pub record Table (ms : List ℕ) : Type 0 where
  pub tags : (i : ℕ) → i < length ms → tag_at ms i < 12
  pub operands : (i : ℕ) → i < length ms → 4 ≤ tag_at ms i → (left_at ms i < i) × (right_at ms i < i)
  pub bare : (i : ℕ) → i < length ms → tag_at ms i < 4 → left_at ms i ≡ 0
  pub distinct : (i j : ℕ) → i < length ms → j < length ms → form ms i ≡ form ms j → i ≡ j

-- of a lean: few places, and each of them a member of the table
pub record Leans (ms ln : List ℕ) : Type 0 where
  pub short : length ln ≤ 60
  pub inside : (k : ℕ) → k < length ln → get_or ln k 0 < length ms
