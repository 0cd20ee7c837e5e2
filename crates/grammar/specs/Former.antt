-- The tokens of document 01, where every letter is a token by itself: what request §1 is compared with. Nothing but proofs/FormerLaws cites it. Assumes nothing.
use Rattle.std.specs.Prelude.{List, [], ◌∷◌, ℕ, ◌+◌, eqb}
use Rattle.spelling.specs.Spelling.{lower}
use Rattle.std.specs.Prelude.{Option, Some, None}
use Rattle.token.specs.declared.Modal.{Modal}
use Rattle.token.specs.declared.Tok.{Tok}
use Rattle.token.specs.declared.Tok.TheVariants.{Letter, Capital, Operator}
use Rattle.token.specs.Token.{pick, upper, sign_of, pair_of}
use Rattle.grammar.specs.Grammar.{Tree, IsFormula}

-- the token of one byte: a letter and a capital by the number of the lower-case letter
unfoldable pub former_single : ℕ → Tok
former_single b = pick (upper b) (Capital (b + 32)) (pick (lower b) (Letter b) (sign_of b))

-- What the byte b begins, before the tokens that follow. An operator of two letters stands before the tokens after its second letter, `far`;
-- any other token stands before the tokens after b, `near`; a space is no token
abbrev pub begins : ℕ → Option Modal → List Tok → List Tok → List Tok
begins b (Some m) near far = Operator m ∷ far
begins b None near far = pick (eqb b 32) near (former_single b ∷ near)

-- the tokens of a line's bytes
unfoldable pub former_tokens : List ℕ → List Tok
former_tokens [] = []
former_tokens (b ∷ []) = begins b None [] []
former_tokens (b ∷ (c ∷ r)) = begins b (pair_of b c) (former_tokens (c ∷ r)) (former_tokens r)

-- what the grammar of document 01 derived: its rules are the same
abbrev pub FormerLine : List ℕ → Tree → Type 0
FormerLine s t = IsFormula 0 (former_tokens s) t
