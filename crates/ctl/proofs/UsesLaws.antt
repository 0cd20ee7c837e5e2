-- What holds of the symbols and of the sets of modes that a formula has: positive form and closure keep it. Assumes nothing.
use mathlib.Core.Path.{refl, sym, subst}
use mathlib.Core.Bool.{true, false}
use mathlib.Core.List.Memᴰ
use mathlib.Core.List.{List, [], ◌∷◌, map}
use Prim.Native.Nat.{ℕ, ◌^◌}
use Rattle.ctl.specs.Lists.{◌∈◌}
use Rattle.ctl.specs.Formula.{Form, tru, fls, lit, nlit, and, or, ex, ax, eu, au, er, ar}
use Rattle.ctl.specs.Raw.{Raw}
use Rattle.ctl.specs.Modes.{modes}
use Rattle.ctl.specs.Positive.{signed}
use Rattle.ctl.specs.Expansion.{or_all, and_all, expand, parts}
use Rattle.ctl.specs.Alphabet.{Uses, UsesRaw}
use Rattle.ctl.specs.Closure.{closure}
use Rattle.ctl.proofs.ClosureLaws.{closure-least}

-- what follows of each symbol and of each set follows of the formula
module _ {S S' M M' : ℕ → Type 0} (f : (k : ℕ) → S k → S' k) (g : (A : ℕ) → M A → M' A) where
  pub uses-all : (p : Form) → Uses S M p → Uses S' M' p
  uses-all tru h = tt
  uses-all fls h = tt
  uses-all (lit k) h = f k h
  uses-all (nlit k) h = f k h
  uses-all (and p q) h = (uses-all p h.0, uses-all q h.1)
  uses-all (or p q) h = (uses-all p h.0, uses-all q h.1)
  uses-all (ex A p) h = (g A h.0, uses-all p h.1)
  uses-all (ax A p) h = (g A h.0, uses-all p h.1)
  uses-all (eu A p q) h = (g A h.0, uses-all p h.1, uses-all q h.2)
  uses-all (au A p q) h = (g A h.0, uses-all p h.1, uses-all q h.2)
  uses-all (er A p q) h = (g A h.0, uses-all p h.1, uses-all q h.2)
  uses-all (ar A p q) h = (g A h.0, uses-all p h.1, uses-all q h.2)

  pub uses-raw : (p : Raw) → UsesRaw S M p → UsesRaw S' M' p
  uses-raw Raw.zero h = tt
  uses-raw Raw.one h = tt
  uses-raw (Raw.sym k) h = f k h
  uses-raw (Raw.neg p) h = uses-raw p h
  uses-raw (Raw.and p q) h = (uses-raw p h.0, uses-raw q h.1)
  uses-raw (Raw.or p q) h = (uses-raw p h.0, uses-raw q h.1)
  uses-raw (Raw.imp p q) h = (uses-raw p h.0, uses-raw q h.1)
  uses-raw (Raw.ex A p) h = (g A h.0, uses-raw p h.1)
  uses-raw (Raw.ax A p) h = (g A h.0, uses-raw p h.1)
  uses-raw (Raw.ef A p) h = (g A h.0, uses-raw p h.1)
  uses-raw (Raw.af A p) h = (g A h.0, uses-raw p h.1)
  uses-raw (Raw.eg A p) h = (g A h.0, uses-raw p h.1)
  uses-raw (Raw.ag A p) h = (g A h.0, uses-raw p h.1)
  uses-raw (Raw.eu A p q) h = (g A h.0, uses-raw p h.1, uses-raw q h.2)
  uses-raw (Raw.au A p q) h = (g A h.0, uses-raw p h.1, uses-raw q h.2)
  uses-raw (Raw.er A p q) h = (g A h.0, uses-raw p h.1, uses-raw q h.2)
  uses-raw (Raw.ar A p q) h = (g A h.0, uses-raw p h.1, uses-raw q h.2)

module _ (S M : ℕ → Type 0) where
  -- the positive form of a formula, and of its negation
  pub uses-signed : (p : Raw) → UsesRaw S M p → Uses S M (signed true p) × Uses S M (signed false p)
  unfolding signed
  uses-signed Raw.zero o = (tt, tt)
  uses-signed Raw.one o = (tt, tt)
  uses-signed (Raw.sym k) o = (o, o)
  uses-signed (Raw.neg p) o = let h = uses-signed p o in (h.1, h.0)
  uses-signed (Raw.and p q) o = let h = uses-signed p o.0 in let k = uses-signed q o.1 in ((h.0, k.0), (h.1, k.1))
  uses-signed (Raw.or p q) o = let h = uses-signed p o.0 in let k = uses-signed q o.1 in ((h.0, k.0), (h.1, k.1))
  uses-signed (Raw.imp p q) o = let h = uses-signed p o.0 in let k = uses-signed q o.1 in ((h.1, k.0), (h.0, k.1))
  uses-signed (Raw.ex A p) o = let h = uses-signed p o.1 in ((o.0, h.0), (o.0, h.1))
  uses-signed (Raw.ax A p) o = let h = uses-signed p o.1 in ((o.0, h.0), (o.0, h.1))
  uses-signed (Raw.ef A p) o = let h = uses-signed p o.1 in ((o.0, tt, h.0), (o.0, tt, h.1))
  uses-signed (Raw.af A p) o = let h = uses-signed p o.1 in ((o.0, tt, h.0), (o.0, tt, h.1))
  uses-signed (Raw.eg A p) o = let h = uses-signed p o.1 in ((o.0, tt, h.0), (o.0, tt, h.1))
  uses-signed (Raw.ag A p) o = let h = uses-signed p o.1 in ((o.0, tt, h.0), (o.0, tt, h.1))
  uses-signed (Raw.eu A p q) o = let h = uses-signed p o.1 in let k = uses-signed q o.2 in ((o.0, h.0, k.0), (o.0, h.1, k.1))
  uses-signed (Raw.au A p q) o = let h = uses-signed p o.1 in let k = uses-signed q o.2 in ((o.0, h.0, k.0), (o.0, h.1, k.1))
  uses-signed (Raw.er A p q) o = let h = uses-signed p o.1 in let k = uses-signed q o.2 in ((o.0, h.0, k.0), (o.0, h.1, k.1))
  uses-signed (Raw.ar A p q) o = let h = uses-signed p o.1 in let k = uses-signed q o.2 in ((o.0, h.0, k.0), (o.0, h.1, k.1))

  one-of : {p q : Form} → q ∈ p ∷ [] → Uses S M p → Uses S M q
  one-of {p} (Memᴰ.head e) h = subst (Uses S M) (sym e) h
  one-of (Memᴰ.tail m) h = absurd (Memᴰ.not-nil m)

  two-of : {p r q : Form} → q ∈ p ∷ (r ∷ []) → Uses S M p → Uses S M r → Uses S M q
  two-of (Memᴰ.head e) h k = subst (Uses S M) (sym e) h
  two-of (Memᴰ.tail m) h k = one-of m k

  part-uses : (p q : Form) → Uses S M p → q ∈ parts p → Uses S M q
  unfolding parts
  part-uses tru q h m = absurd (Memᴰ.not-nil m)
  part-uses fls q h m = absurd (Memᴰ.not-nil m)
  part-uses (lit k) q h m = absurd (Memᴰ.not-nil m)
  part-uses (nlit k) q h m = one-of {p = lit k} m h
  part-uses (and p r) q h m = two-of m h.0 h.1
  part-uses (or p r) q h m = two-of m h.0 h.1
  part-uses (ex A p) q h m = one-of m h.1
  part-uses (ax A p) q h m = one-of m h.1
  part-uses (eu A p r) q h m = two-of m h.1 h.2
  part-uses (au A p r) q h m = two-of m h.1 h.2
  part-uses (er A p r) q h m = two-of m h.1 h.2
  part-uses (ar A p r) q h m = two-of m h.1 h.2

  or-uses : (f : ℕ → Form) (ms : List ℕ) → ((m : ℕ) → m ∈ ms → Uses S M (f m)) → Uses S M (or_all (map f ms))
  or-uses f [] g = tt
  or-uses f (a ∷ []) g = g a (Memᴰ.head refl)
  or-uses f (a ∷ (b ∷ r)) g = (g a (Memᴰ.head refl), or-uses f (b ∷ r) (λ m k. g m (Memᴰ.tail k)))

  and-uses : (f : ℕ → Form) (ms : List ℕ) → ((m : ℕ) → m ∈ ms → Uses S M (f m)) → Uses S M (and_all (map f ms))
  and-uses f [] g = tt
  and-uses f (a ∷ []) g = g a (Memᴰ.head refl)
  and-uses f (a ∷ (b ∷ r)) g = (g a (Memᴰ.head refl), and-uses f (b ∷ r) (λ m k. g m (Memᴰ.tail k)))

  -- where it holds of a set, it holds of each of its modes alone
  module _ (one : (A m : ℕ) → M A → m ∈ modes A → M (2 ^ m)) where
    expand-uses : (p : Form) → Uses S M p → Uses S M (expand p)
    unfolding expand
    expand-uses tru h = h
    expand-uses fls h = h
    expand-uses (lit k) h = h
    expand-uses (nlit k) h = h
    expand-uses (and p q) h = h
    expand-uses (or p q) h = h
    expand-uses (ex A p) h = or-uses (λ m. ex (2 ^ m) p) (modes A) (λ m k. (one A m h.0 k, h.1))
    expand-uses (ax A p) h = and-uses (λ m. ax (2 ^ m) p) (modes A) (λ m k. (one A m h.0 k, h.1))
    expand-uses (eu A p q) h = (h.2, (h.1, (h.0, h)))
    expand-uses (ar A p q) h = (h.2, (h.1, (h.0, h)))
    expand-uses (au A p q) h = (h.2, (h.1, ((h.0, tt), (h.0, h))))
    expand-uses (er A p q) h = (h.2, (h.1, ((h.0, tt), (h.0, h))))

    pub closure-uses : (l : List Form) → ((p : Form) → p ∈ l → Uses S M p) → (p : Form) → p ∈ closure l → Uses S M p
    closure-uses l = closure-least (Uses S M) (record { part = part-uses; expansion = expand-uses }) l
