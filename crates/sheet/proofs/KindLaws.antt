-- The declarations of a sheet say what lines 1 and 2 do: a spelling is taken for a mark, a name or a value exactly if it is declared as one, and for a field exactly if it is
-- declared as one. Assumes nothing.
use mathlib.Core.Path.{◌≡◌, refl, sym, ap, ◌∙◌, subst}
use mathlib.Core.Logic.{◌⊎◌, inl, inr, ◌↔◌}
use mathlib.Core.Bool.{Bool, true, false, cond, not, ◌&&◌, ◌||◌}
use mathlib.Core.List.Memᴰ
use mathlib.Core.List.{List, [], ◌∷◌, ◌++◌}
use Prim.Native.Nat.{ℕ, suc, ◌+◌, ◌≤◌, ◌<◌}
use native.Mathlib.Omega.{arith}
use native.Mathlib.Decide.{ℕ_discrete}
use lib.Dec.{T, leb, ltb, eqb, leb→le, le→leb}
use lib.ListN.{length, get_or}
use Rattle.spelling.specs.Spelling.{word}
use borrow.Author.Tests.{eqb-true, eqb-false, ltb-true}
use Rattle.ctl.specs.Lists.{◌∈◌}
use Rattle.ctl.proofs.BoolLaws.{and_0, and-1, and_in, and_both}
use Rattle.ctl.proofs.ListLaws.{find, get_d-in}
use Rattle.grammar.specs.Grammar.{forward, entry_of, is_symbol, is_field}
use Rattle.layout.specs.Text.{same, split}
use Rattle.head.specs.Head.{space, mark_word, name_word, field_word, value_word, name_count, kind_of, kind_right, kinds_from, kinds_of, spellings, kinds}
use Rattle.layout.specs.Layout.{line_of}
use Rattle.head.proofs.Spellings.{sheet-spellings}
use Rattle.head.proofs.Entries.{sheet-entry, sheet-no-entry}
use Rattle.sheet.specs.Refusal.{decls}
use Rattle.sheet.specs.Symbols.{DeclaredAs, Proposition, Field}

-- ---- a kind is 1, 2, 3 or 4
abbrev Kind : ℕ → Type 0
Kind k = (1 ≤ k) × (k ≤ 4)

kind-four : (w : List ℕ) → kind_of w ≤ 4
unfolding kind_of
kind-four w = go (same w mark_word) (same w name_word) (same w field_word) (same w value_word)
  where
    go : (a b c d : Bool) → cond a 1 (cond b 2 (cond c 3 (cond d 4 0))) ≤ 4
    go true b c d = omega arith
    go false true c d = omega arith
    go false false true d = omega arith
    go false false false true = omega arith
    go false false false false = omega arith

kind-some : (seen : List ℕ) (k : ℕ) → kind_right seen k ≡ true → 1 ≤ k
unfolding kind_right
kind-some seen k e = let h = ltb-true 0 k (and_both (ltb 0 k) (ltb (length seen) 8) (and_both (ltb 0 k && ltb (length seen) 8) (not (eqb k 2) || ltb (name_count seen) 2) e).0).0 in omega arith

-- what holds of the kind of each word that is taken holds of each kind
kinds-each : (P : ℕ → Type 0) (ws : List (List ℕ)) (seen : List ℕ) → ((w : List ℕ) → w ∈ ws → (before : List ℕ) → kind_right before (kind_of w) ≡ true → P (kind_of w)) → ((k : ℕ) → k ∈ seen → P k)
    → (k : ℕ) → k ∈ kinds_from seen ws → P k
unfolding kinds_from
kinds-each P [] seen g f k m = f k m
kinds-each P (w ∷ ws) seen g f k m =
    go (kind_right seen (kind_of w)) (λ e. kinds-each P ws (seen ++ (kind_of w ∷ [])) (λ v i. g v (Memᴰ.tail i)) (λ j i. more e j (Memᴰ.append_cases seen i)) k) m
  where
    more : kind_right seen (kind_of w) ≡ true → (j : ℕ) → (j ∈ seen) ⊎ (j ∈ kind_of w ∷ []) → P j
    more e j (inl i) = f j i
    more e j (inr i) = subst P (sym (Memᴰ.eq_of_singleton i)) (g w (Memᴰ.head refl) seen e)

    go : (b : Bool) → (b ≡ true → k ∈ kinds_from (seen ++ (kind_of w ∷ [])) ws → P k) → k ∈ cond b (kinds_from (seen ++ (kind_of w ∷ [])) ws) [] → P k
    go true rec i = rec refl i
    go false rec i = absurd (Memᴰ.not-nil i)

pub sheet-kinds : (P : ℕ → Type 0) (s : List ℕ) → ((w : List ℕ) → w ∈ split space (line_of s 1) → (before : List ℕ) → kind_right before (kind_of w) ≡ true → P (kind_of w)) → (j : ℕ) → j < length (kinds s) → P (get_or (kinds s) j 0)
unfolding kinds_of
sheet-kinds P s g j h = kinds-each P (split space (line_of s 1)) [] g (λ k m. absurd (Memᴰ.not-nil m)) (get_or (kinds s) j 0) (get_d-in 0 (kinds s) j h)

sheet-kind : (s : List ℕ) (j : ℕ) → j < length (kinds s) → Kind (get_or (kinds s) j 0)
sheet-kind s = sheet-kinds Kind s (λ w m before e. (kind-some before (kind_of w) e, kind-four w))

no_field : (n : ℕ) → Kind n → (n ≡ 3 → ⊥) → Dec (n ≡ 1) → Dec (n ≡ 2) → (n ≡ 1) ⊎ ((n ≡ 2) ⊎ (n ≡ 4))
no_field n h f (yes e) d = inl e
no_field n h f (no e) (yes d) = inr (inl d)
no_field n h f (no e) (no d) = inr (inr (omega arith))

-- ---- the entry of a spelling, where each symbol has a kind
module _ (s : List ℕ) (c : length (kinds s) ≡ length (spellings s)) where
  data Entry (k : ℕ) : Type 0 where
    none : entry_of (decls s) k ≡ 0 → Entry k
    symbol : (j : ℕ) → DeclaredAs s k j → Proposition s j → entry_of (decls s) k ≡ 1 + j → Entry k
    field : (j : ℕ) → DeclaredAs s k j → Field s j → entry_of (decls s) k ≡ 9 + j → Entry k

  declared : (k j : ℕ) → DeclaredAs s k j → (b : Bool) → eqb (get_or (kinds s) j 0) 3 ≡ b → entry_of (decls s) k ≡ cond b (9 + j) (1 + j) → Entry k
  declared k j d true e q = field j d (d.0, eqb-true _ _ e) q
  declared k j d false e q =
      let h = d.0 in
      symbol j d (h, no_field (get_or (kinds s) j 0) (sheet-kind s j (omega arith)) (eqb-false _ _ e) (ℕ_discrete (get_or (kinds s) j 0) 1) (ℕ_discrete (get_or (kinds s) j 0) 2)) q

  -- the entry at a place
  place-entry : (j : ℕ) (b : Bool) → suc (cond b (8 + j) j) ≡ cond b (9 + j) (1 + j)
  place-entry j true = omega arith
  place-entry j false = omega arith

  entry : (k : ℕ) → Entry k
  entry k = go (find (length (spellings s)) (λ j. eqb (word (get_or (spellings s) j [])) k))
    where
      go : ((j : ℕ) × (j < length (spellings s)) × (eqb (word (get_or (spellings s) j [])) k ≡ true)) ⊎ ((j : ℕ) → j < length (spellings s) → eqb (word (get_or (spellings s) j [])) k ≡ false) → Entry k
      go (inl r) =
          let l = eqb-true (word (get_or (spellings s) r.0 [])) k r.2 in
          let b = eqb (get_or (kinds s) r.0 0) 3 in
          declared k r.0 (r.1, l) b refl (ap (entry_of (decls s)) (sym l) ∙ sheet-entry s r.0 r.1 c ∙ place-entry r.0 b)
      go (inr f) = none (sheet-no-entry s k (λ j h. eqb-false (word (get_or (spellings s) j [])) k (f j h)))

  -- a spelling outside braces is right exactly if it is declared as a mark, a name or a value, and its entry gives that symbol
  pub symbol-iff : (k : ℕ) → T (is_symbol (decls s) k) ↔ ((j : ℕ) × DeclaredAs s k j × Proposition s j × (entry_of (decls s) k ≡ 1 + j))
  symbol-iff k = (
    λ t. out (leb→le 1 (entry_of (decls s) k) (and_0 (leb 1 (entry_of (decls s) k)) (leb (entry_of (decls s) k) 8) t)) (leb→le (entry_of (decls s) k) 8 (and-1 (leb 1 (entry_of (decls s) k)) (leb (entry_of (decls s) k) 8) t)) (entry k),
    λ r. (let h = r.2.0 in let e = r.3 in let f = (sheet-spellings s).few in and_in (leb 1 (entry_of (decls s) k)) (leb (entry_of (decls s) k) 8) (le→leb 1 (entry_of (decls s) k) (omega arith)) (le→leb (entry_of (decls s) k) 8 (omega arith))),
  )
    where
      out : 1 ≤ entry_of (decls s) k → entry_of (decls s) k ≤ 8 → Entry k → (j : ℕ) × DeclaredAs s k j × Proposition s j × (entry_of (decls s) k ≡ 1 + j)
      out l h (none e) = absurd (omega arith)
      out l h (symbol j d m e) = (j, d, m, e)
      out l h (field j d m e) = absurd (omega arith)

  -- a spelling in braces is right, forward and backward, exactly if it is declared as a field, and its entry gives that symbol
  pub field-iff : (k : ℕ) → T (is_field (decls s) (forward k)) ↔ ((j : ℕ) × DeclaredAs s k j × Field s j × (entry_of (decls s) k ≡ 9 + j))
  field-iff k = (
    λ t. out (leb→le 9 (entry_of (decls s) k) (and_0 (leb 9 (entry_of (decls s) k)) (leb (entry_of (decls s) k) 16) t)) (entry k),
    λ r. (let h = r.2.0 in let e = r.3 in let f = (sheet-spellings s).few in and_in (leb 9 (entry_of (decls s) k)) (leb (entry_of (decls s) k) 16) (le→leb 9 (entry_of (decls s) k) (omega arith)) (le→leb (entry_of (decls s) k) 16 (omega arith))),
  )
    where
      out : 9 ≤ entry_of (decls s) k → Entry k → (j : ℕ) × DeclaredAs s k j × Field s j × (entry_of (decls s) k ≡ 9 + j)
      out l (none e) = absurd (omega arith)
      out l (symbol j d m e) = absurd (let h = m.0 in let f = (sheet-spellings s).few in omega arith)
      out l (field j d m e) = (j, d, m, e)
