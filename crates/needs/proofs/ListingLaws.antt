-- The list of needs, as it grows: one need more or none, and the whole. Assumes nothing.
use mathlib.Core.Path.{◌≡◌, refl, sym, ap, ap₂, ◌∙◌, subst}
use mathlib.Core.Bool.{Bool, true, false, ◌&&◌, cond, false≢true}
use mathlib.Core.List.{List}
use mathlib.Core.Logic.{◌⊎◌, inl, inr}
use Prim.Native.Nat.{ℕ, ◌+◌, ◌≤◌, ◌<◌}
use native.Mathlib.Omega.{arith}
use lib.ListN.{length, get_or, set, take}
use lib.Seq.{get_or-set_other, get_or-set_same, get_or-take, length-take-le}
use borrow.Author.Tests.{eq-eqb}
use Rattle.ctl.specs.Modes.{has_mode}
use Rattle.wordset.proofs.BelowLaws.{any-intro, top}
use Rattle.wordset.specs.Below.{any_below}
use Rattle.needs.specs.FieldBlocks.{ExFields}
use Rattle.needs.specs.Listing.{Asks, Own, SoFar, Within, by_mode, by-until}
use Rattle.needs.specs.NeedWords.{field_need, need_of}
use Rattle.needs.specs.Needs.{Among, Listed, Need, ex_over, of_field, of-mode, of-until}

-- ---- one need more, or none

abbrev Put : List ℕ → ℕ → ℕ → Bool → List ℕ
Put ns r x b = cond b (set ns r x) ns

abbrev Next : ℕ → Bool → ℕ
Next r b = cond b (r + 1) r

module _ (ns : List ℕ) (r x : ℕ) (h : r < length ns) where
  kept : (b : Bool) (y : ℕ) → Within ns r y → Within (Put ns r x b) (Next r b) y
  kept true y (j, l, e) = (j, omega arith, get_or-set_other ns r j x 0 (omega arith) ∙ e)
  kept false y w = w

  new : (b : Bool) → b ≡ true → Within (Put ns r x b) (Next r b) x
  new true e = (r, omega arith, get_or-set_same ns r x 0 h)
  new false e = absurd (false≢true e)

  put_only : (ms : List ℕ) (b : Bool) → ((j : ℕ) → j < r → Need ms (get_or ns j 0)) → (b ≡ true → Need ms x) → (j : ℕ) → j < Next r b → Need ms (get_or (Put ns r x b) j 0)
  put_only ms true o n j l = go (top j r (omega arith))
    where
      go : (j ≡ r) ⊎ (j < r) → Need ms (get_or (set ns r x) j 0)
      go (inl q) = subst (Need ms) (sym (ap (λ k. get_or (set ns r x) k 0) q ∙ get_or-set_same ns r x 0 h)) (n refl)
      go (inr m) = subst (Need ms) (sym (get_or-set_other ns r j x 0 (omega arith))) (o j m)
  put_only ms false o n j l = o j l

next_le : (r : ℕ) (b : Bool) → Next r b ≤ r + 1
next_le r true = omega arith
next_le r false = omega arith

-- ---- as the list grows

own-need : (ms : List ℕ) (i : ℕ) → i < length ms → Own (get_or ms i 0) → Need ms (need_of ms i)
own-need ms i h (by_mode m k l t e) = of-mode i m h k l t e refl
own-need ms i h (by-until k l) = of-until i h k l refl

module _ {ms ns : List ℕ} {f i r : ℕ} (s : SoFar ms ns f i r) (x : ℕ) (h : r < length ns) (b : Bool) where
  field_put : f < 8 → (a : ℕ) → ExFields ms a → b ≡ has_mode a f → x ≡ field_need (length ms) f → SoFar ms (Put ns r x b) (f + 1) i (Next r b)
  field_put l a u eb ex = record {
    few = (let q = s.few in let n = next_le r b in omega arith);
    only = put_only ns r x h ms b s.only (λ e. of_field f l ex);
    fields = λ g m e. go g e (top g f (omega arith));
    members = λ k m o. kept ns r x h b (need_of ms k) (s.members k m o);
  }
    where
      go : (g : ℕ) → any_below (length ms) (ex_over ms g) ≡ true → (g ≡ f) ⊎ (g < f) → Within (Put ns r x b) (Next r b) (field_need (length ms) g)
      go g e (inl q) =
          subst (Within (Put ns r x b) (Next r b)) (ex ∙ ap (field_need (length ms)) (sym q))
          (new ns r x h b (eb ∙ u.is f l ∙ ap (λ k. any_below (length ms) (ex_over ms k)) (sym q) ∙ e))
      go g e (inr m) = kept ns r x h b (field_need (length ms) g) (s.fields g m e)

  member-put : i < length ms → Asks (get_or ms i 0) b → x ≡ need_of ms i → SoFar ms (Put ns r x b) f (i + 1) (Next r b)
  member-put l u ex = record {
    few = (let q = s.few in let n = next_le r b in omega arith);
    only = put_only ns r x h ms b s.only (λ e. subst (Need ms) (sym ex) (own-need ms i l (u.on e)));
    fields = λ g m e. kept ns r x h b (field_need (length ms) g) (s.fields g m e);
    members = λ k m o. go k o (top k i (omega arith));
  }
    where
      go : (k : ℕ) → Own (get_or ms k 0) → (k ≡ i) ⊎ (k < i) → Within (Put ns r x b) (Next r b) (need_of ms k)
      go k o (inl q) =
          subst (Within (Put ns r x b) (Next r b)) (ex ∙ ap (need_of ms) (sym q))
          (new ns r x h b (u.all (subst (λ j. Own (get_or ms j 0)) q o)))
      go k o (inr m) = kept ns r x h b (need_of ms k) (s.members k m o)

module _ {ms ns : List ℕ} {f i r : ℕ} (s : SoFar ms ns f i r) (h : r < length ns) {x : ℕ} {b : Bool} {ns' : List ℕ} {r' : ℕ}
    (put : (r' ≡ cond b (r + 1) r) × (ns' ≡ cond b (set ns r x) ns)) where
  pub field-on : f < 8 → {a : ℕ} → ExFields ms a → b ≡ has_mode a f → x ≡ field_need (length ms) f → SoFar ms ns' (f + 1) i r'
  field-on l {a} u eb ex = rw (put.0, put.1) (field_put s x h b l a u eb ex)

  pub member-on : i < length ms → Asks (get_or ms i 0) b → x ≡ need_of ms i → SoFar ms ns' f (i + 1) r'
  member-on l u ex = rw (put.0, put.1) (member-put s x h b l u ex)

-- ---- the whole list

module _ {ms ns : List ℕ} {r : ℕ} (s : SoFar ms ns 8 (length ms) r) (h : r ≤ length ns) where
  size : length (take r ns) ≡ r
  size = length-take-le r ns h

  among : (x : ℕ) → Within ns r x → Among (take r ns) x
  among x (j, l, e) = (j, (let q = size in omega arith), get_or-take r ns j 0 l ∙ e)

  pub listed : Listed ms (take r ns)
  listed = record {
    only = λ j l. (let q = size in let m : j < r = omega arith in subst (Need ms) (sym (get_or-take r ns j 0 m)) (s.only j m));
    fields = λ i f l k t e. among (field_need (length ms) f) (s.fields f k (any-intro (ex_over ms f) (length ms) i l (ap₂ ◌&&◌ (eq-eqb _ _ t) (eq-eqb _ _ e))));
    modes = λ i m l k n t e. among (need_of ms i) (s.members i l (by_mode m k n t e));
    untils = λ i l k n. among (need_of ms i) (s.members i l (by-until k n));
  }
