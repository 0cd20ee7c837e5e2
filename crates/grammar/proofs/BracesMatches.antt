-- Braces: the reader by positions and the reader of trees find the same modes. Assumes nothing.
use mathlib.Core.Bool.{true, false}
use mathlib.Core.List.{List, [], ◌∷◌}
use Prim.Native.Nat.{ℕ, suc, ◌+◌, min}
use lib.ListN.{length, drop}
use Rattle.token.specs.declared.Tok.{Tok}
use Rattle.token.specs.declared.Tok.TheVariants.{Letter, Capital, OpenBrace, CloseBrace, Comma}
use Rattle.token.specs.Token.{token_at, inner_at, on_open_brace, on_close_brace}
use Rattle.token.specs.Tokens.{within, tokens_in, tokens}
use Rattle.token.proofs.TokensLaws.{first, later, ahead}
use Rattle.ctl.specs.Numbers.{number}
use Rattle.operators.specs.declared.braced.Modes.{Modes}
use Rattle.std.specs.Prelude.{Option, None}
use Rattle.operators.specs.Modes.{braced, mode_from, mode_at, more_from, more_after, modes_at, braces_at}
use Rattle.grammar.specs.Grammar.{Mode, forward, backward, mode_set, some_no_field, empty_or_twice}
use Rattle.grammar.proofs.TreeReader.{FoundModes, modes, no_modes, before, more_on, mode_on, modes_on, braces_on}
use Rattle.grammar.proofs.ModeSets.{lowest, marked, mask_from, low_from, mask_is, low-is}

module _ (s decl : List ℕ) where
  -- modes read on from a set and a refusal
  data SameModes (mask low : ℕ) : FoundModes → Option Modes → Type 0 where
    no-list : SameModes mask low no_modes None
    same-list : (m : Mode) (A : List Mode) (e : ℕ) → SameModes mask low (modes (m ∷ A) (tokens (drop e s))) (braced e (mask_from decl mask (m ∷ A)) (low_from decl mask low (m ∷ A)))

  before_same : (mask low : ℕ) (m : Mode) {o : FoundModes} {o' : Option Modes} → SameModes (marked decl mask m).mask (min low (marked decl mask m).low) o o' → SameModes mask low (before m o) o'
  before_same mask low m no-list = no-list
  before_same mask low m (same-list n A e) = same-list m (n ∷ A) e

  module _ (more : List Tok → FoundModes) (more' : ℕ → ℕ → ℕ → Option Modes) (h : (at mask low : ℕ) → SameModes mask low (more (tokens_in true (drop at s))) (more' at mask low)) where
    more_same : (mask low : ℕ) (n : Mode) (k : Tok) (at : ℕ) → SameModes mask low (more_on more n k (tokens_in (within true k) (drop at s))) (more_from s decl (λ p. more' p (marked decl mask n).mask (min low (marked decl mask n).low)) (marked decl mask n).mask (min low (marked decl mask n).low) k at)
    more_same mask low n CloseBrace at = same-list n [] at
    more_same mask low n Comma at = before_same mask low n (h at (marked decl mask n).mask (min low (marked decl mask n).low))
    more_same mask low n _ at = no-list

    mode-same : (mask low : ℕ) (k : Tok) (at : ℕ) → SameModes mask low (mode_on more k (tokens_in (within true k) (drop at s))) (more_after s decl more' low (mode_from decl mask k at))
    mode-same mask low (Letter k) at = let a = ahead true s at in rw (a.now, a.rest) (more_same mask low (forward k) (inner_at s at).tok (inner_at s at).next)
    mode-same mask low (Capital k) at = let a = ahead true s at in rw (a.now, a.rest) (more_same mask low (backward k) (inner_at s at).tok (inner_at s at).next)
    mode-same mask low _ at = no-list

  modes-same : (fuel at mask low : ℕ) → SameModes mask low (modes_on fuel (tokens_in true (drop at s))) (modes_at s decl fuel at mask low)
  unfolding modes_on modes_at mode_at
  modes-same ℕ.zero at mask low = no-list
  modes-same (suc fuel) at mask low =
      let a = ahead true s at in
      rw (a.now, a.rest) (mode-same (λ r. modes_on fuel r) (λ p m l. modes_at s decl fuel p m l) (λ p m l. modes-same fuel p m l) mask low (inner_at s at).tok (inner_at s at).next)

  -- the modes of braces, their set, and the lowest refusal of the braces
  pub data MatchesModes : FoundModes → Option Modes → Type 0 where
    no-modes : MatchesModes no_modes None
    same-modes : (A : List Mode) (e : ℕ) → MatchesModes (modes A (tokens (drop e s))) (braced e (mode_set decl A) (lowest (some_no_field decl A) (empty_or_twice decl A)))

  all-modes : {o : FoundModes} {o' : Option Modes} → SameModes 0 9 o o' → MatchesModes o o'
  all-modes no-list = no-modes
  all-modes (same-list m A e) = rw (mask_is decl (m ∷ A), low-is decl (m ∷ A)) (same-modes (m ∷ A) e)

  empty-modes : (e : ℕ) → MatchesModes (modes [] (tokens (drop e s))) (braced e 0 8)
  unfolding mode_set number
  empty-modes e = same-modes [] e

  closing-match : {b : FoundModes} {b' : Option Modes} (k : Tok) (e : ℕ) → MatchesModes b b' → MatchesModes (on_close_brace k (modes [] (tokens_in (within true k) (drop e s))) b) (on_close_brace k (braced e 0 8) b')
  closing-match CloseBrace e h = empty-modes e
  closing-match _ e h = h

  -- behind the opening brace
  inner-match : (p : ℕ) → MatchesModes (on_close_brace (first (tokens_in true (drop p s))) (modes [] (later (tokens_in true (drop p s)))) (modes_on (length s + 1) (tokens_in true (drop p s))))
      (on_close_brace (inner_at s p).tok (braced (inner_at s p).next 0 8) (modes_at s decl (length s + 1) p 0 9))
  inner-match p = let a = ahead true s p in rw (a.now, a.rest) (closing-match (inner_at s p).tok (inner_at s p).next (all-modes (modes-same (length s + 1) p 0 9)))

  opening-match : (k : Tok) (p : ℕ) → MatchesModes (on_open_brace k (λ _. on_close_brace (first (tokens_in (within false k) (drop p s))) (modes [] (later (tokens_in (within false k) (drop p s)))) (modes_on (length s + 1) (tokens_in (within false k) (drop p s)))) no_modes)
      (on_open_brace k (λ _. on_close_brace (inner_at s p).tok (braced (inner_at s p).next 0 8) (modes_at s decl (length s + 1) p 0 9)) None)
  opening-match OpenBrace p = inner-match p
  opening-match _ p = no-modes

  pub braces-match : (at : ℕ) → MatchesModes (braces_on (length s + 1) (tokens (drop at s))) (braces_at s decl at)
  unfolding braces_on braces_at
  braces-match at = let a = ahead false s at in rw (a.now, a.rest) (opening-match (token_at s at).tok (token_at s at).next)
