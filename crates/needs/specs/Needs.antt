-- What a round asks for, listed once for a sheet: an EU or an AU by itself, an EX over one backward mode by itself, and all EX over one field together. Those share their targets: a link along a field gives the bodies of
-- all EX over it that are true in the type that it leads from. Assumes nothing.
use Rattle.std.specs.Prelude.{◌≡◌, Bool, true, ◌&&◌, List, ℕ, ◌+◌, ◌*◌, ◌^◌, ◌≤◌, ◌<◌, eqb, length, get_or}
use Rattle.wordset.specs.Below.{any_below}
use Rattle.truth.specs.Blocks.{has}
use Rattle.truth.specs.Tables.{arg_at, tag_at}
use Rattle.truth.specs.Truths.{true_at}
use Rattle.needs.specs.NeedWords.{field_need, need_of}

-- member i is EX over field f alone
abbrev pub ex_over : List ℕ → ℕ → ℕ → Bool
ex_over ms f i = eqb (tag_at ms i) 6 && eqb (arg_at ms i) (2 ^ f)

-- in t some EX over field f alone is true
unfoldable pub some_ex : List ℕ → List ℕ → ℕ → ℕ → Bool
some_ex ms ln f t = any_below (length ms) (λ i. ex_over ms f i && true_at ms ln i t)

-- the blocks behind those of the members
pub record Fields (ms ln : List ℕ) (w : ℕ) (tw : List ℕ) : Type 0 where
  pub room : (length ms + 9) * w ≤ length tw
  pub each : (f : ℕ) → f < 8 → (t : ℕ) → t < w * 64 → has w tw (length ms + f) t ≡ some_ex ms ln f t
  pub all : (t : ℕ) → t < w * 64 → has w tw (length ms + 8) t ≡ true

pub data Need (ms : List ℕ) (x : ℕ) : Type 0 where
  of_field : (f : ℕ) → f < 8 → x ≡ field_need (length ms) f → Need ms x
  of-mode : (i m : ℕ) → i < length ms → 8 ≤ m → m < 16 → tag_at ms i ≡ 6 → arg_at ms i ≡ 2 ^ m → x ≡ need_of ms i → Need ms x
  of-until : (i : ℕ) → i < length ms → 8 ≤ tag_at ms i → tag_at ms i ≤ 9 → x ≡ need_of ms i → Need ms x

-- x is one of the needs
abbrev pub Among : List ℕ → ℕ → Type 0
Among ns x = (j : ℕ) × (j < length ns) × (get_or ns j 0 ≡ x)

-- the list has nothing else, and leaves nothing out
pub record Listed (ms ns : List ℕ) : Type 0 where
  pub only : (j : ℕ) → j < length ns → Need ms (get_or ns j 0)
  pub fields : (i f : ℕ) → i < length ms → f < 8 → tag_at ms i ≡ 6 → arg_at ms i ≡ 2 ^ f → Among ns (field_need (length ms) f)
  pub modes : (i m : ℕ) → i < length ms → 8 ≤ m → m < 16 → tag_at ms i ≡ 6 → arg_at ms i ≡ 2 ^ m → Among ns (need_of ms i)
  pub untils : (i : ℕ) → i < length ms → 8 ≤ tag_at ms i → tag_at ms i ≤ 9 → Among ns (need_of ms i)
