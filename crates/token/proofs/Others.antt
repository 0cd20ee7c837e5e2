-- A token that is not the one looked for. Assumes nothing.
use mathlib.Core.Path.{◌≡◌, refl}
use Prim.Native.Nat.{ℕ}
use Rattle.token.specs.declared.Tok.{Tok}
use Rattle.token.specs.declared.Tok.TheVariants.{End, Capital, Open, Close, OpenBrace, CloseBrace}
use Rattle.token.specs.Token.{on_open, on_close, on_open_brace, on_close_brace, on_capital, on_end}

module _ {B : Type 0} (b : B) where
  pub no-open : (a : Unit {0} → B) (k : Tok) → (k ≡ Open → ⊥) → on_open k a b ≡ b
  no-open a Open h = absurd (h refl)
  no-open a _ h = refl

  pub no-close : (a : B) (k : Tok) → (k ≡ Close → ⊥) → on_close k a b ≡ b
  no-close a Close h = absurd (h refl)
  no-close a _ h = refl

  pub no-open_brace : (a : Unit {0} → B) (k : Tok) → (k ≡ OpenBrace → ⊥) → on_open_brace k a b ≡ b
  no-open_brace a OpenBrace h = absurd (h refl)
  no-open_brace a _ h = refl

  pub no-close_brace : (a : B) (k : Tok) → (k ≡ CloseBrace → ⊥) → on_close_brace k a b ≡ b
  no-close_brace a CloseBrace h = absurd (h refl)
  no-close_brace a _ h = refl

  pub no-capital : (a : ℕ → B) (k : Tok) → ((x : ℕ) → k ≡ Capital x → ⊥) → on_capital k a b ≡ b
  no-capital a (Capital x) h = absurd (h x refl)
  no-capital a _ h = refl

  pub no-end : (a : B) (k : Tok) → (k ≡ End → ⊥) → on_end k a b ≡ b
  no-end a End h = absurd (h refl)
  no-end a _ h = refl
