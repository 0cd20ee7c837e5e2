-- All tokens of a line. Assumes nothing: these are definitions.
use Rattle.std.specs.Prelude.{Bool, true, false, List, [], ◌∷◌, ℕ, suc, length, drop}
use Rattle.token.specs.declared.Tok.{Tok}
use Rattle.token.specs.declared.Tok.TheVariants.{OpenBrace, CloseBrace}
use Rattle.token.specs.declared.Token.{Token}
use Rattle.token.specs.Token.{token_at, inner_at, on_end}

-- whether the bytes behind a token are in braces: they are from `{` on, up to `}`
abbrev pub within : Bool → Tok → Bool
within i OpenBrace = true
within i CloseBrace = false
within i _ = i

-- the token at a position, in braces or outside
abbrev pub read_at : Bool → List ℕ → ℕ → Token
read_at true s at = inner_at s at
read_at false s at = token_at s at

-- the tokens of bytes, one read after the other, at most so many
unfoldable pub tokens_by : (most : ℕ) → Bool → List ℕ → List Tok
unfolding token_at inner_at
tokens_by ℕ.zero i s = []
tokens_by (suc n) i s = on_end (read_at i s 0).tok [] ((read_at i s 0).tok ∷ tokens_by n (within i (read_at i s 0).tok) (drop (read_at i s 0).next s))

-- a token has a byte, so there are at most as many as bytes
unfoldable pub tokens_in : Bool → List ℕ → List Tok
unfolding tokens_by
tokens_in i s = tokens_by (length s) i s

-- the tokens of a line
abbrev pub tokens : List ℕ → List Tok
tokens s = tokens_in false s
