-- The loop that takes one type after another out of a set, with all that refuse as much, and drops what is linked to it. Assumes nothing.
use mathlib.Core.Path.{◌≡◌, refl, sym, ap, ap₂, ◌∙◌}
use mathlib.Core.Bool.{Bool, true, false, not, ◌&&◌, beq, and-true, and-false, false≢true}
use mathlib.Core.List.{List}
use Prim.Native.Nat.{ℕ, ◌+◌, ◌*◌, ◌/◌, ◌%◌, ◌<◌}
use native.Mathlib.Omega.{arith}
use borrow.Author.Tests.{not-true}
use lib.ListN.{length}
use Rattle.ctl.proofs.BoolLaws.{and_both, and-make}
use Rattle.wordset.proofs.BelowLaws.{all-false, any-ext, any_false, any-intro, any_none, count-ext, least-below, least-holds, least-le, least_lt}
use Rattle.wordset.proofs.CompareLaws.{both_ways, count-fewer}
use Rattle.wordset.specs.Below.{any_below, count_below, least}
use Rattle.wordset.specs.Word.{bit}
use Rattle.wordset.specs.Words.{member}
use Rattle.truth.specs.Blocks.{has}
use Rattle.conditions.specs.Entries.{in_some, linked_by, linked_to, partner}
use Rattle.image.specs.Covering.{Refused, RefusedBy}
use Rattle.image.specs.Narrowing.{not_all, passing}

-- some number passes
pub some : (n : ℕ) (P : ℕ → Bool) → any_below n P ≡ true → (j : ℕ) × (j < n) × (P j ≡ true)
some n P e = let l = least_lt n P e in (least n P, l, least-holds n P l)

-- ---- what the partners of r are for: to be in one of them is to demand something of r

-- t demands one of the conditions that are refused in the entries r
unfoldable demands : ℕ → List ℕ → ℕ → ℕ → Bool
demands w cw r t = any_below 64 (λ c. bit r c && has w cw (partner c) t)

turned : (c : ℕ) → c < 64 → partner (partner c) ≡ c
turned c h = omega arith

any-turned : (P : ℕ → Bool) → any_below 64 (λ c. P (partner c)) ≡ any_below 64 P
any-turned P =
    both_ways _ _
    (λ e. (let s = some 64 (λ c. P (partner c)) e in any-intro P 64 (partner s.0) (omega arith) s.2))
    (λ e. (let s = some 64 P e in any-intro (λ c. P (partner c)) 64 (partner s.0) (omega arith) (ap P (turned s.0 s.1) ∙ s.2)))

partners-demand : (w : ℕ) (cw : List ℕ) (r s t : ℕ) → ((c : ℕ) → c < 64 → bit s c ≡ bit r (partner c)) → in_some w cw s t ≡ demands w cw r t
unfolding in_some demands
partners-demand w cw r s t f =
    any-ext (λ c. bit s c && has w cw c t) (λ c. Q (partner c)) 64 (λ c h. ap₂ (λ b (x : ℕ). b && has w cw x t) (f c h) (sym (turned c h))) ∙ any-turned Q
  where
    Q : ℕ → Bool
    Q c = bit r c && has w cw (partner c) t

-- ---- a turn

module _ (w : ℕ) (cw : List ℕ) (a : ℕ) where
  pub linked-ext : (Y Z : ℕ → Bool) (t : ℕ) → ((u : ℕ) → u < w * 64 → Y u ≡ Z u) → linked_to w cw a Y t ≡ linked_to w cw a Z t
  unfolding linked_to
  linked-ext Y Z t e = any-ext (λ u. Y u && linked_by w cw a t u) (λ u. Z u && linked_by w cw a t u) (w * 64) (λ u l. ap (λ z. z && linked_by w cw a t u) (e u l))

  linked-none : (Z : ℕ → Bool) (t : ℕ) → any_below (w * 64) Z ≡ false → linked_to w cw a Z t ≡ false
  unfolding linked_to
  linked-none Z t e = any_none (λ u. Z u && linked_by w cw a t u) (w * 64) (λ u l. ap (λ z. z && linked_by w cw a t u) (any_false Z (w * 64) e u l))

  -- one type q of Z is taken out, with all that refuse the conditions r which q refuses
  module _ (Z : ℕ → Bool) (r q : ℕ) (f : RefusedBy w cw a q r) where
    abbrev Left : ℕ → Bool
    Left u = Z u && not_all w cw r u

    -- q is one of those
    gone : not_all w cw r q ≡ false
    unfolding not_all
    gone = any_none (λ c. bit r c && not (has w cw c q)) 64 (λ c l. ap (λ z. z && not (has w cw c q)) (f c) ∙ out (bit a c) (has w cw c q))
      where
        out : (b e : Bool) → ((b && e) && not e) ≡ false
        out true true = refl
        out true false = refl
        out false e = refl

    module _ (t : ℕ) where
      -- who demands nothing of r is linked to q
      turn-linked : q < w * 64 → Z q ≡ true → demands w cw r t ≡ false → linked_to w cw a Z t ≡ true
      unfolding linked_to linked_by demands
      turn-linked h m e =
          any-intro (λ u. Z u && linked_by w cw a t u) (w * 64) q h
          (and-make (Z q) _ m (ap not (any_none (λ c. bit a c && (has w cw (partner c) t && has w cw c q)) 64
          (λ c l. swap (bit a c) (has w cw (partner c) t) (has w cw c q) ∙ ap (λ z. z && has w cw (partner c) t) (sym (f c)) ∙ any_false (λ c. bit r c && has w cw (partner c) t) 64 e c l))))
        where
          swap : (b x y : Bool) → (b && (x && y)) ≡ ((b && y) && x)
          swap true true y = sym (and-true y)
          swap true false y = sym (and-false y)
          swap false x y = refl

      turn-less : linked_to w cw a Left t ≡ true → linked_to w cw a Z t ≡ true
      unfolding linked_to
      turn-less e =
          let s = some (w * 64) (λ u. Left u && linked_by w cw a t u) e in
          let b = and_both (Left s.0) _ s.2 in
          any-intro (λ u. Z u && linked_by w cw a t u) (w * 64) s.0 s.1 (and-make (Z s.0) _ (and_both (Z s.0) _ b.0).0 b.1)

      -- who demands something of r is linked to none that refuses all of r
      turn-left : demands w cw r t ≡ true → linked_to w cw a Z t ≡ true → linked_to w cw a Left t ≡ true
      unfolding linked_to linked_by demands not_all
      turn-left e x =
          let i = some 64 (λ c. bit r c && has w cw (partner c) t) e in
          let s = some (w * 64) (λ u. Z u && linked_by w cw a t u) x in
          let b = and_both (bit r i.0) (has w cw (partner i.0) t) i.2 in
          let d = and_both (bit a i.0) (has w cw i.0 q) (sym (f i.0) ∙ b.0) in
          let y = and_both (Z s.0) (linked_by w cw a t s.0) s.2 in
          let n = any_false (λ c. bit a c && (has w cw (partner c) t && has w cw c s.0)) 64 (not-true _ y.1) i.0 i.1 in
          let k : has w cw i.0 s.0 ≡ false = ap₂ (λ p z. p && (z && has w cw i.0 s.0)) (sym d.0) (sym b.1) ∙ n in
          let l : not_all w cw r s.0 ≡ true = any-intro (λ c. bit r c && not (has w cw c s.0)) 64 i.0 i.1 (and-make (bit r i.0) _ b.0 (ap not k)) in
          any-intro (λ u. Left u && linked_by w cw a t u) (w * 64) s.0 s.1 (and-make (Left s.0) _ (and-make (Z s.0) _ y.0 l) y.1)

      turn : q < w * 64 → Z q ≡ true → (d : Bool) → ((d && demands w cw r t) && not (linked_to w cw a Left t)) ≡ (d && not (linked_to w cw a Z t))
      turn h m d = go d (demands w cw r t) (linked_to w cw a Left t) (linked_to w cw a Z t) (turn-linked h m) turn-less turn-left
        where
          go : (d s x y : Bool) → (s ≡ false → y ≡ true) → (x ≡ true → y ≡ true) → (s ≡ true → y ≡ true → x ≡ true) → ((d && s) && not x) ≡ (d && not y)
          go false s x y f g k = refl
          go true true true y f g k = sym (ap not (g refl))
          go true true false true f g k = absurd (false≢true (k refl refl))
          go true true false false f g k = refl
          go true false x y f g k = sym (ap not (f refl))

-- ---- the loop: dst lacks those of dst₀ that are linked to a type of rest₀ that is not in `rest`; with those that are still to be dropped, all that are linked to a type of rest₀. A type of `rest` refuses r

module _ (w : ℕ) (set : List ℕ) {q : ℕ} (e : q ≡ least (w * 64) (member set)) where
  pub first-lt : (q ≡ w * 64 → ⊥) → q < w * 64
  first-lt n = let l = least-le (w * 64) (member set) in omega (arith, n)

  pub first_some : any_below (w * 64) (member set) ≡ true → q < w * 64
  first_some a = let l = least_lt (w * 64) (member set) a in omega arith

-- the least member of a set refuses r
pub first-own : {w : ℕ} {cw : List ℕ} {a q r : ℕ} {set : List ℕ} → q ≡ least (w * 64) (member set) → q < w * 64 → RefusedBy w cw a (q / 64 * 64 + q % 64) r → Refused w cw a set r
first-own {w} {cw} {a} {q} {r} {set} e h f =
    let s : q / 64 * 64 + q % 64 ≡ q = omega arith in
    record { who = q / 64 * 64 + q % 64; below = omega arith; inside = ap (member set) (s ∙ e) ∙ least-holds (w * 64) (member set) (omega arith); is = f }

-- there is none
pub drain-none : (w : ℕ) (cw : List ℕ) (a : ℕ) {q : ℕ} (dst rest : List ℕ) → q ≡ least (w * 64) (member rest) → q ≡ w * 64 → (t : ℕ) → t < w * 64 → member dst t ≡ (member dst t && not (linked_to w cw a (member rest) t))
drain-none w cw a dst rest e h t l =
    sym (and-true (member dst t)) ∙ ap (λ x. member dst t && not x) (sym (linked-none w cw a (member rest) t (any_none (member rest) (w * 64) (λ u k. least-below (w * 64) (member rest) u (omega arith)))))

pub record Draining (w : ℕ) (cw : List ℕ) (a : ℕ) (dst₀ rest₀ dst rest : List ℕ) (r : ℕ) : Type 0 where
  pub long : length dst ≡ length dst₀
  pub long_rest : length rest ≡ length rest₀
  pub own : Refused w cw a rest r
  pub is : (t : ℕ) → t < w * 64 → (member dst t && not (linked_to w cw a (member rest) t)) ≡ (member dst₀ t && not (linked_to w cw a (member rest₀) t))

module _ {w : ℕ} {cw : List ℕ} {a : ℕ} {dst₀ rest₀ : List ℕ} where
  pub drain-start : {r : ℕ} → Refused w cw a rest₀ r → Draining w cw a dst₀ rest₀ dst₀ rest₀ r
  drain-start o = record { long = refl; long_rest = refl; own = o; is = λ t l. refl }

  -- a turn with r, whose partners are p
  module _ {dst rest : List ℕ} {r : ℕ} (s : Draining w cw a dst₀ rest₀ dst rest r) (p : ℕ) (f : (c : ℕ) → c < 64 → bit p c ≡ bit r (partner c)) (dst' : List ℕ)
      (fd : (t : ℕ) → t < w * 64 → member dst' t ≡ (member dst t && passing w cw p false t)) where
    kept : (t : ℕ) → t < w * 64 → (member dst' t && not (linked_to w cw a (λ u. member rest u && not_all w cw r u) t)) ≡ (member dst₀ t && not (linked_to w cw a (member rest₀) t))
    unfolding passing
    kept t l =
        ap (λ x. x && not (linked_to w cw a (λ u. member rest u && not_all w cw r u) t)) (fd t l ∙ ap (λ x. member dst t && x) (partners-demand w cw r p t f))
        ∙ turn w cw a (member rest) r s.own.who s.own.is t s.own.below s.own.inside (member dst t) ∙ s.is t l

    -- none is left to be dropped
    pub drain-empty : any_below (w * 64) (member dst') ≡ false → (t : ℕ) → t < w * 64 → member dst' t ≡ (member dst₀ t && not (linked_to w cw a (member rest₀) t))
    drain-empty e t l = let z = any_false (member dst') (w * 64) e t l in z ∙ sym (ap (λ x. x && not (linked_to w cw a (λ u. member rest u && not_all w cw r u) t)) z) ∙ kept t l

    module _ (rest' : List ℕ) (fr : (t : ℕ) → t < w * 64 → member rest' t ≡ (member rest t && passing w cw r true t)) where
      now-is : (t : ℕ) → t < w * 64 → (member dst' t && not (linked_to w cw a (member rest') t)) ≡ (member dst₀ t && not (linked_to w cw a (member rest₀) t))
      unfolding passing
      now-is t l = ap (λ x. member dst' t && not x) (linked-ext w cw a (member rest') (λ u. member rest u && not_all w cw r u) t fr) ∙ kept t l

      -- none is left that others could be linked to
      pub drain_rest : any_below (w * 64) (member rest') ≡ false → (t : ℕ) → t < w * 64 → member dst' t ≡ (member dst₀ t && not (linked_to w cw a (member rest₀) t))
      drain_rest e t l = sym (and-true (member dst' t)) ∙ ap (λ x. member dst' t && not x) (sym (linked-none w cw a (member rest') t e)) ∙ now-is t l

      pub drain-on : {r' : ℕ} → length dst' ≡ length dst → length rest' ≡ length rest → Refused w cw a rest' r' → Draining w cw a dst₀ rest₀ dst' rest' r'
      drain-on ld lr o = record { long = ld ∙ s.long; long_rest = lr ∙ s.long_rest; own = o; is = now-is }

-- the member that refuses r leaves
pub drain-less : {w : ℕ} {cw : List ℕ} {a : ℕ} {rest : List ℕ} {r : ℕ} → Refused w cw a rest r → (rest' : List ℕ) → ((t : ℕ) → t < w * 64 → member rest' t ≡ (member rest t && passing w cw r true t))
    → count_below (w * 64) (member rest') < count_below (w * 64) (member rest)
unfolding passing
drain-less {w} {cw} {a} {rest} {r} o rest' f =
    let e = count-ext (member rest') Q (w * 64) f in
    let l = count-fewer (member rest) Q (w * 64) (λ j h. (and_both (member rest j) _ h).0)
    (all-false (λ j. beq (member rest j) (Q j)) (w * 64) o.who o.below (ap₂ beq o.inside (ap (λ x. member rest o.who && x) (gone w cw a (member rest) r o.who o.is) ∙ and-false (member rest o.who)))) in
    omega arith
  where
    Q : ℕ → Bool
    Q u = member rest u && not_all w cw r u
