-- The conditions 6, 7 and 8 in the grammar's words: some line derives no tree; some line's tree has a symbol that is wrong; some line's tree, with no such symbol, has braces that are
-- wrong. Assumes nothing.
use mathlib.Core.Path.{◌≡◌, refl, sym, ◌∙◌, subst}
use mathlib.Core.Logic.{◌↔◌}
use mathlib.Core.Bool.{Bool, true, false}
use mathlib.Core.List.{List}
use Prim.Native.Nat.{ℕ}
use native.Mathlib.Omega.{arith}
use lib.Dec.{T, eqb, eqb→eq}
use Rattle.token.specs.Token.{pick}
use Rattle.ctl.specs.Lists.{◌∈◌}
use Rattle.ctl.proofs.ListLaws.{any-in, any_out}
use Rattle.syntax.specs.Parse.{Out, good, bad}
use Rattle.grammar.specs.Grammar.{Tree, Line, symbol_wrong, braces_wrong, low_of}
use Rattle.grammar.proofs.GrammarLaws.{line-derives, line-parses, line_refused}
use Rattle.layout.specs.Layout.{texts}
use Rattle.sheet.specs.Refusal.{decls, read, unread, finds, grammar_wrong, symbols_wrong, braces_wrong as bracesWrongIn}

module _ (decl t : List ℕ) where
  unread-iff : T (unread (read decl t)) ↔ ((u : Tree) → Line t u → ⊥)
  unread-iff = (λ h. (line_refused t decl).0 (go (read decl t) refl h), λ h. subst (λ o. T (unread o)) (sym ((line_refused t decl).1 h)) tt)
    where
      go : (o : Out) → read decl t ≡ o → T (unread o) → read decl t ≡ bad
      go bad e h = e
      go (good p e low) q h = absurd h

  -- a line with the lowest refusal k has a tree with it
  finds-out : (k : ℕ) → T (finds k (read decl t)) → (u : Tree) × Line t u × (low_of decl u ≡ k)
  finds-out k h = go (read decl t) refl h
    where
      go : (o : Out) → read decl t ≡ o → T (finds k o) → (u : Tree) × Line t u × (low_of decl u ≡ k)
      go bad e h = absurd h
      go (good p e low) q h = let r = line-derives t decl p e low q in (r.0, r.1, sym r.3 ∙ eqb→eq low k h)

  finds-in : (k : ℕ) (u : Tree) → Line t u → T (eqb (low_of decl u) k) → T (finds k (read decl t))
  finds-in k u d h = subst (λ o. T (finds k o)) (sym (line-parses t decl u d).1) h

module _ (decl : List ℕ) (u : Tree) where
  seven-out : low_of decl u ≡ 7 → T (symbol_wrong decl u)
  seven-out e = go (symbol_wrong decl u) (braces_wrong decl u) e
    where
      go : (a b : Bool) → ◌≡◌ {A = ℕ} (pick a 7 (pick b 8 9)) 7 → T a
      go true b e = tt
      go false true e = absurd (omega arith)
      go false false e = absurd (omega arith)

  seven-in : T (symbol_wrong decl u) → T (eqb (low_of decl u) 7)
  seven-in h = go (symbol_wrong decl u) h
    where
      go : (a : Bool) → T a → T (eqb (pick a 7 (pick (braces_wrong decl u) 8 9)) 7)
      go true h = tt
      go false h = absurd h

  eight-out : low_of decl u ≡ 8 → (T (symbol_wrong decl u) → ⊥) × T (braces_wrong decl u)
  eight-out e = go (symbol_wrong decl u) (braces_wrong decl u) e
    where
      go : (a b : Bool) → ◌≡◌ {A = ℕ} (pick a 7 (pick b 8 9)) 8 → (T a → ⊥) × T b
      go true b e = absurd (omega arith)
      go false true e = (λ h. h, tt)
      go false false e = absurd (omega arith)

  eight-in : (T (symbol_wrong decl u) → ⊥) → T (braces_wrong decl u) → T (eqb (low_of decl u) 8)
  eight-in n h = go (symbol_wrong decl u) (braces_wrong decl u) n h
    where
      go : (a b : Bool) → (T a → ⊥) → T b → T (eqb (pick a 7 (pick b 8 9)) 8)
      go true b n h = absurd (n tt)
      go false true n h = tt
      go false false n h = absurd h

module _ (s : List ℕ) where
  pub grammar-wrong-iff : T (grammar_wrong s) ↔ ((t : List ℕ) × (t ∈ texts s) × ((u : Tree) → Line t u → ⊥))
  unfolding grammar_wrong
  grammar-wrong-iff = (
    λ h. let r = any_out (λ t. unread (read (decls s) t)) (texts s) h in (r.0, r.1, (unread-iff (decls s) r.0).0 r.2),
    λ r. any-in (λ t. unread (read (decls s) t)) r.1 ((unread-iff (decls s) r.0).1 r.2),
  )

  pub symbols-wrong-iff : T (symbols_wrong s) ↔ ((t : List ℕ) × (u : Tree) × (t ∈ texts s) × Line t u × T (symbol_wrong (decls s) u))
  unfolding symbols_wrong
  symbols-wrong-iff = (
    λ h. let r = any_out (λ t. finds 7 (read (decls s) t)) (texts s) h in let w = finds-out (decls s) r.0 7 r.2 in (r.0, w.0, r.1, w.1, seven-out (decls s) w.0 w.2),
    λ r. any-in (λ t. finds 7 (read (decls s) t)) r.2 (finds-in (decls s) r.0 7 r.1 r.3 (seven-in (decls s) r.1 r.4)),
  )

  pub braces-wrong-iff : T (bracesWrongIn s) ↔ ((t : List ℕ) × (u : Tree) × (t ∈ texts s) × Line t u × (T (symbol_wrong (decls s) u) → ⊥) × T (braces_wrong (decls s) u))
  unfolding bracesWrongIn
  braces-wrong-iff = (
    λ h. let r = any_out (λ t. finds 8 (read (decls s) t)) (texts s) h in let w = finds-out (decls s) r.0 8 r.2 in let x = eight-out (decls s) w.0 w.2 in (r.0, w.0, r.1, w.1, x.0, x.1),
    λ r. any-in (λ t. finds 8 (read (decls s) t)) r.2 (finds-in (decls s) r.0 8 r.1 r.3 (eight-in (decls s) r.1 r.4 r.5)),
  )
