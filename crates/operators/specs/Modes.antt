-- Sets of modes in braces. Assumes nothing: these are definitions.
use Rattle.std.specs.Prelude.{◌≡◌, Option, Some, None, List, ℕ, suc, ◌+◌, ◌-◌, ◌/◌, ◌%◌, ◌^◌, ◌≤◌, ◌<◌, min, length, ltb, leb, eqb}
use Rattle.spelling.specs.Spelling.{entry_in}
use Rattle.token.specs.declared.Tok.{Tok}
use Rattle.token.specs.declared.Tok.TheVariants.{Letter, Capital, CloseBrace, Comma}
use Rattle.token.specs.declared.Token.{Token}
use Rattle.operators.specs.declared.sets.Marked.{Marked}
use Rattle.operators.specs.declared.braced.Modes.{Modes}
use Rattle.token.specs.Token.{pick, token_at, inner_at, on_open_brace, on_close_brace}

-- a set with a mode more; a mode that it has already is the refusal 8
unfoldable pub marked_of : ℕ → ℕ → Marked
marked_of mask m = pick (eqb (mask / 2 ^ m % 2) 1) (record { mask = mask; low = 8 }) (record { mask = mask + 2 ^ m; low = 9 })

-- a set with the mode of a symbol, from its entry in the declarations (9 + i for the field i); `back` is 0 for forward and 8 for backward.
-- A symbol that is no field is the refusal 7
unfoldable pub with_mode : ℕ → ℕ → ℕ → Marked
with_mode mask v back = pick (ltb v 9) (record { mask = mask; low = 7 }) (pick (leb v 16) (marked_of mask (v - 9 + back)) (record { mask = mask; low = 7 }))

-- braces that were read up to a position, with their set of modes and the lowest refusal
abbrev pub braced : ℕ → ℕ → ℕ → Option Modes
braced at mask low = Some (record { next = at; mask = mask; low = low })

-- what a mode that was read gives
abbrev pub found : Marked → ℕ → Option Modes
found m at = braced at m.mask m.low

-- one mode: a field's spelling goes forward, and backward with its first letter in capital
module _ (decl : List ℕ) where
  abbrev pub mode_from : ℕ → Tok → ℕ → Option Modes
  mode_from mask (Letter k) at = found (with_mode mask (entry_in decl k) 0) at
  mode_from mask (Capital k) at = found (with_mode mask (entry_in decl k) 8) at
  mode_from mask _ at = None

module _ (s decl : List ℕ) where
  unfoldable pub mode_at : ℕ → ℕ → Option Modes
  mode_at at mask = mode_from decl mask (inner_at s at).tok (inner_at s at).next

  -- what follows a mode: a comma and more modes, or the closing brace
  abbrev pub more_from : (ℕ → Option Modes) → ℕ → ℕ → Tok → ℕ → Option Modes
  more_from more mask low Comma at = more at
  more_from more mask low CloseBrace at = braced at mask low
  more_from more mask low _ at = None

  abbrev pub more_after : (ℕ → ℕ → ℕ → Option Modes) → ℕ → Option Modes → Option Modes
  more_after more low None = None
  more_after more low (Some b) = more_from (λ at. more at b.mask (min low b.low)) b.mask (min low b.low) (inner_at s b.next).tok (inner_at s b.next).next

  -- modes with commas between, up to the closing brace
  unfoldable pub modes_at : (fuel : ℕ) → ℕ → ℕ → ℕ → Option Modes
  modes_at ℕ.zero at mask low = None
  modes_at (suc fuel) at mask low = more_after (λ p m l. modes_at fuel p m l) low (mode_at at mask)

  -- braces: empty ones are the refusal 8
  unfoldable pub braces_at : ℕ → Option Modes
  braces_at at =
      on_open_brace (token_at s at).tok
      (λ _.
      let inner = (token_at s at).next in
      let modes = modes_at (length s + 1) inner 0 9 in
      on_close_brace (inner_at s inner).tok (braced (inner_at s inner).next 0 8) modes)
      None

-- what a reader of one mode answers of its token: it goes on behind the token, with a set of at most 16 modes
abbrev pub ModeInside : ℕ → Option Modes → Type 0
ModeInside next None = Unit {0}
ModeInside next (Some b) = (b.next ≡ next) × (b.mask < 65536)

pub record ModeRead (decl : List ℕ) (mask : ℕ) (t : Token) (r : Option Modes) : Type 0 where
  pub is : r ≡ mode_from decl mask t.tok t.next
  pub inside : ModeInside t.next r

-- where a reader of modes goes on, with a set of at most 16 modes
abbrev pub ModesInside : ℕ → ℕ → Option Modes → Type 0
ModesInside len at None = Unit {0}
ModesInside len at (Some b) = (at < b.next) × ((b.next ≤ len) × (b.mask < 65536))

pub record ModesRead (s decl : List ℕ) (at mask low : ℕ) (r : Option Modes) : Type 0 where
  pub inside : ModesInside (length s) at r
  pub meets : (f : ℕ) → length s - at < f → r ≡ modes_at s decl f at mask low
