-- Laws of sets of modes in braces. Assumes nothing.
use mathlib.Core.Path.{◌≡◌, refl, sym, ap, ◌∙◌}
use mathlib.Core.List.{List}
use Prim.Native.Nat.{ℕ, suc, ◌+◌, ◌-◌, ◌*◌, ◌/◌, ◌%◌, ◌^◌, ◌≤◌, ◌<◌, min}
use native.Mathlib.Omega.{arith}
use native.Mathlib.Nat.{one-mul, zero-mul, mod-lt}
use lib.ListN.{length}
use lib.Dec.{lit<}
use lib.Bits.{bit_and, bit_or, and_high, or_disjoint, or_lt}
use lib.Pow.{pow_pos, pow-lt, shl_exact, high_ones}
use borrow.Author.Tests.{eq-eqb, ne_eqb}
use Rattle.token.specs.declared.Tok.{Tok}
use Rattle.token.specs.declared.Tok.TheVariants.{OpenBrace, CloseBrace, Comma}
use Rattle.token.specs.declared.Token.{Token}
use Rattle.operators.specs.declared.sets.Marked.{Marked}
use Rattle.std.specs.Prelude.{Option, Some, None}
use Rattle.operators.specs.declared.braced.Modes.{Modes}
use Rattle.token.specs.Token.{TokenIs, InnerIs}
use Rattle.operators.specs.Modes.{marked_of, braced, mode_at, more_from, more_after, modes_at, braces_at, ModeRead, ModesInside, ModesRead}
use Rattle.token.proofs.Tokens.{token-past}
use Rattle.token.proofs.TokensLaws.{closing_same, closing-inner}
use Rattle.token.proofs.Others.{no-open_brace, no-close_brace}

-- ---- bits
pub one_bit : (m : ℕ) → m < 16 → (1 * 2 ^ m) % 2 ^ 32 ≡ 2 ^ m
one_bit m h = shl_exact 1 m 32 (lit< tt) (omega arith) ∙ one-mul (2 ^ m)

two-less-one : (m : ℕ) → 2 ^ (1 + m) - 2 ^ m ≡ 2 ^ m
two-less-one m = high_ones 1 m ∙ one-mul (2 ^ m)

-- what a set and one bit have in common: the set's digit there
and_bit : (mask m : ℕ) → bit_and mask (2 ^ m) ≡ mask / 2 ^ m % 2 * 2 ^ m
and_bit mask m = ap (bit_and mask) (sym (two-less-one m)) ∙ and_high mask 1 m

-- a digit that is 0 can be added
or_bit : (mask m : ℕ) → bit_and mask (2 ^ m) ≡ 0 → bit_or mask (2 ^ m) ≡ mask + 2 ^ m
or_bit mask m e = or_disjoint mask (2 ^ m) e

pub bit-fits : (mask m : ℕ) → mask < 65536 → m < 16 → (mask / 2 ^ m % 2 ≡ 1 → ⊥) → mask + 2 ^ m < 65536
bit-fits mask m h g ne =
    let z : mask / 2 ^ m % 2 ≡ 0 = omega (arith, mod-lt (mask / 2 ^ m) {m = 2} (lit< tt)) in
    rw (← or_bit mask m (and_bit mask m ∙ rw z (zero-mul (2 ^ m)))) (or_lt 16 mask (2 ^ m) h (pow-lt g))

-- ---- a token that is neither a comma nor a closing brace
module _ (s decl : List ℕ) (more : ℕ → Option Modes) (mask low at : ℕ) where
  no_more : (k : Tok) → (k ≡ Comma → ⊥) → (k ≡ CloseBrace → ⊥) → more_from s decl more mask low k at ≡ None
  no_more Comma h g = absurd (h refl)
  no_more CloseBrace h g = absurd (g refl)
  no_more _ h g = refl

-- ---- where a reader of modes goes on
pub modes-done : {len at : ℕ} {b : Modes} {r : Option Modes} → ModesInside len at r → r ≡ Some b → (at < b.next) × ((b.next ≤ len) × (b.mask < 65536))
modes-done i d = rw d at i

modes-earlier : (len at at' : ℕ) (r : Option Modes) → at < at' → ModesInside len at' r → ModesInside len at r
modes-earlier len at at' None h i = tt
modes-earlier len at at' (Some b) h i = (omega arith, i.1)

-- ---- a mode added to a set
module _ (mask m b : ℕ) (e : b ≡ 2 ^ m) (fits : mask < 65536) where
  pub marked-twice : (bit_and mask b ≡ 0 → ⊥) → ◌≡◌ {A = Marked} (record { mask = mask; low = 8 }) (marked_of mask m) × (mask < 65536)
  unfolding marked_of
  marked-twice t =
      let no : mask / 2 ^ m % 2 ≡ 0 → ⊥ = λ z. t (rw e (and_bit mask m ∙ rw z (zero-mul (2 ^ m)))) in
      let o : mask / 2 ^ m % 2 ≡ 1 = omega (arith, mod-lt (mask / 2 ^ m) {m = 2} (lit< tt)) in
      (rw (eq-eqb (mask / 2 ^ m % 2) 1 o) refl, fits)

  pub marked-new : m < 16 → bit_and mask b ≡ 0 → ◌≡◌ {A = Marked} (record { mask = bit_or mask b; low = 9 }) (marked_of mask m) × (bit_or mask b < 65536)
  unfolding marked_of
  marked-new g t =
      let z : bit_and mask (2 ^ m) ≡ 0 = rw e at t in
      let no : mask / 2 ^ m % 2 ≡ 1 → ⊥ = λ q. let w : 2 ^ m ≡ 0 = sym (and_bit mask m ∙ rw q (one-mul (2 ^ m))) ∙ z in omega (arith, pow_pos m) in
      rw e (rw (ne_eqb (mask / 2 ^ m % 2) 1 no, or_bit mask m z) refl, or_lt 16 mask (2 ^ m) fits (pow-lt g))

-- ---- modes with commas between
module _ (s decl : List ℕ) (at mask low : ℕ) where
  -- the definition, at a mode that was read
  modes-step : (f : ℕ) (r : Option Modes) → r ≡ mode_at s decl at mask → modes_at s decl (suc f) at mask low ≡ more_after s decl (λ p m l. modes_at s decl f p m l) low r
  unfolding modes_at
  modes-step f r e = rw e refl

  modes-read : (r₁ r : Option Modes) → r₁ ≡ mode_at s decl at mask → ModesInside (length s) at r → ((f : ℕ) → length s - at ≤ f → r ≡ more_after s decl (λ p m l. modes_at s decl f p m l) low r₁) → ModesRead s decl at mask low r
  modes-read r₁ r e w m = record { inside = w; meets = go }
    where
      go : (f : ℕ) → length s - at < f → r ≡ modes_at s decl f at mask low
      go ℕ.zero h = absurd (never h)
        where
          never : length s - at < 0 → ⊥
          never h = omega arith
      go (suc f) h = m f (omega arith) ∙ sym (modes-step f r₁ e)

  -- the first token, and the mode that it is
  module _ {t : Token} (i : InnerIs s at t) {r₁ : Option Modes} (a : ModeRead decl mask t r₁) where
    mode-is : r₁ ≡ mode_at s decl at mask
    unfolding mode_at
    mode-is = rw (← i.is) a.is

    pub modes-wrong : r₁ ≡ None → ModesRead s decl at mask low None
    modes-wrong d = modes-read r₁ None mode-is tt (λ f h. rw d refl)

    -- the second token
    module _ {b : Modes} (d : r₁ ≡ Some b) {u : Token} (j : InnerIs s t.next u) where
      mode-behind : (b.next ≡ t.next) × (b.mask < 65536)
      mode-behind = rw d at a.inside

      pub modes-none : (u.tok ≡ Comma → ⊥) → (u.tok ≡ CloseBrace → ⊥) → ModesRead s decl at mask low None
      modes-none h g = modes-read r₁ None mode-is tt (λ f k. rw (d, mode-behind.0, ← j.is) (sym (no_more s decl _ b.mask (min low b.low) u.next u.tok h g)))

      pub modes-last : {n : ℕ} → u.tok ≡ CloseBrace → n ≡ min low b.low → ModesRead s decl at mask low (braced u.next b.mask n)
      modes-last k g =
          let c : t.next < u.next = token-past j k refl in
          modes-read r₁ _ mode-is (omega (arith, i.past), (j.inside, mode-behind.1)) (λ f h. rw (d, mode-behind.0, ← j.is, k, g) refl)

      pub modes-more : {n : ℕ} {r : Option Modes} → u.tok ≡ Comma → n ≡ min low b.low → ModesRead s decl u.next b.mask n r → ModesRead s decl at mask low r
      modes-more {r} k g w =
          let c : t.next < u.next = token-past j k refl in
          modes-read r₁ r mode-is (modes-earlier (length s) at u.next r (omega (arith, i.past)) w.inside) (λ f h. rw (d, mode-behind.0, ← j.is, k, ← g) (w.meets f (omega (arith, i.past, j.inside))))

-- ---- braces
module _ (s decl : List ℕ) (at : ℕ) {t : Token} (i : TokenIs s at t) where
  pub braces-none : (t.tok ≡ OpenBrace → ⊥) → (None ≡ braces_at s decl at) × Unit {0}
  unfolding braces_at
  braces-none o = (rw (← i.is) (sym (no-open_brace None _ t.tok o)), tt)

  -- what stands behind the brace, read as outside braces
  module _ {u : Token} (k : t.tok ≡ OpenBrace) (j : TokenIs s t.next u) where
    pub braces-empty : u.tok ≡ CloseBrace → (braced u.next 0 8 ≡ braces_at s decl at) × ((at < u.next) × ((u.next ≤ length s) × (0 < 65536)))
    unfolding braces_at
    braces-empty c =
        let a : at < t.next = token-past i k refl in
        let b : t.next < u.next = token-past j c refl in
        (rw (← i.is, k, closing-inner s t.next (rw (← j.is) c), ← j.is, c) refl, (omega arith, (j.inside, omega arith)))

    pub braces-modes : {r : Option Modes} → (u.tok ≡ CloseBrace → ⊥) → ModesRead s decl t.next 0 9 r → (r ≡ braces_at s decl at) × ModesInside (length s) at r
    unfolding braces_at
    braces-modes {r} o w =
        let a : at < t.next = token-past i k refl in
        (rw (← i.is, k, closing_same _ _ s t.next, ← j.is) (w.meets (length s + 1) (omega arith) ∙ sym (no-close_brace _ _ u.tok o)), modes-earlier (length s) at t.next r a w.inside)
