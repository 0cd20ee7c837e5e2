-- A search: the copy loses the types that have what an EU or an AU asks of them against the ranked, until there are none. Assumes nothing.
use mathlib.Core.Path.{ap₂, ◌≡◌, refl, sym, ap, ◌∙◌, subst}
use mathlib.Core.Bool.{Bool, true, false, not, ◌&&◌, beq, ◌||◌, and-true, true≢false}
use mathlib.Core.List.{List}
use mathlib.Core.Logic.{◌⊎◌, inl, inr, ⊎_elim}
use Prim.Native.Nat.{ℕ, ◌*◌, ◌≤◌, ◌<◌}
use native.Mathlib.Omega.{arith}
use lib.Dec.{T}
use lib.ListN.{length}
use Rattle.ctl.specs.Elimination as E
use Rattle.ctl.proofs.BoolLaws.{and_0, and-1, and_both, and_in, both_ways, imp-in, imp-out, or-0, or-out, T-cast, T-cast⁻, T_true, true-T}
use Rattle.ctl.proofs.GrowLaws.{reach-first, reach-next, reach-out}
use Rattle.ctl.proofs.ListLaws.{all_in, all-out, any-in, any_out, elem_in, elem_out}
use Rattle.ctl.specs.ClosedFamily.{one_of}
use Rattle.ctl.specs.Elimination.{reach}
use Rattle.ctl.specs.Formula.{Form, and, ar, au, ax, er, eu, ex, fls, lit, nlit, or, tru}
use Rattle.ctl.specs.Modes.{single}
use Rattle.ctl.specs.Lists.{◌∈◌, elem}
use Rattle.wordset.proofs.BelowLaws.{all-false, any_false, count-ext, least-holds, least_lt, same_or}
use Rattle.wordset.proofs.CompareLaws.{count-fewer}
use Rattle.wordset.specs.Below.{any_below, count_below, least}
use Rattle.wordset.specs.Words.{member}
use Rattle.members.specs.Members.{forms, right_w}
use Rattle.truth.specs.Tables.{form, left_at, right_at, tag_at}
use Rattle.truth.specs.Blocks.{has, list_of}
use Rattle.truth.specs.Truths.{Tr, true_at}
use Rattle.tableau.specs.Families.{Finds, Follows, Good, Linked, Next, Ready, Until, Within, leaving, passes, ranked}
use Rattle.tableau.proofs.Asks.{wants_is}
use Rattle.tableau.proofs.NeedFits.{ranked-member, until-left, until-right}
use Rattle.truth.proofs.ListWords.{list-in, list-out}
use Rattle.truth.proofs.MemberLaws.{form-tag, left_in, right-in}
use Rattle.truth.proofs.TruthLaws.{truth-bit}

-- ---- what is asked against a set is had against a wider one

module _ (ms ln : List ℕ) (U Y : List ℕ) (sub : (x : ℕ) → x ∈ U → x ∈ Y) where
  next_more : (a t : ℕ) (p : Form) → T (Next ms ln U a p t) → T (Next ms ln Y a p t)
  unfolding E.next
  next_more a t p h = let r = any_out (λ u. Tr ms ln u p && Linked ms ln a t u) U h in any-in (λ u. Tr ms ln u p && Linked ms ln a t u) (sub r.0 r.1) r.2

  follow-more : (a t : ℕ) (f : Form) → T (Follows ms ln U a t f) → T (Follows ms ln Y a t f)
  unfolding E.ex_next
  follow-more a t tru h = h
  follow-more a t fls h = h
  follow-more a t (lit k) h = h
  follow-more a t (nlit k) h = h
  follow-more a t (and p q) h = h
  follow-more a t (or p q) h = h
  follow-more a t (ex B v) h =
      imp-in (one_of a B) _ (λ o. imp-in (Tr ms ln t (ex B v)) _ (λ c. next_more B t v (imp-out (Tr ms ln t (ex B v)) _ (imp-out (one_of a B) _ h o) c)))
  follow-more a t (ax B v) h = h
  follow-more a t (eu B p q) h = h
  follow-more a t (au B p q) h = h
  follow-more a t (er B p q) h = h
  follow-more a t (ar B p q) h = h

  pass-more : (t : ℕ) (f : Form) → T (passes ms ln U t f) → T (passes ms ln Y t f)
  unfolding passes
  pass-more t tru h = h
  pass-more t fls h = h
  pass-more t (lit k) h = h
  pass-more t (nlit k) h = h
  pass-more t (and p q) h = h
  pass-more t (or p q) h = h
  pass-more t (ex A p) h = imp-in (single A) _ (λ s. next_more A t p (imp-out (single A) _ h s))
  pass-more t (ax A p) h = h
  pass-more t (eu A p q) h = let r = any_out (Linked ms ln A t) U h in any-in (Linked ms ln A t) (sub r.0 r.1) r.2
  pass-more t (au A p q) h = all_in (Follows ms ln Y A t) (forms ms) (λ f m. follow-more A t f (all-out (Follows ms ln U A t) h m))
  pass-more t (er A p q) h = h
  pass-more t (ar A p q) h = h

-- ---- the growing set

-- what member i asks of t against U, and where the set begins
unfoldable pub asked : List ℕ → List ℕ → ℕ → List ℕ → ℕ → Bool
asked ms ln i U t = true_at ms ln (left_at ms i) t && passes ms ln U t (form ms i)

unfoldable pub begun : List ℕ → List ℕ → ℕ → ℕ → Bool
begun ms ln i t = true_at ms ln (right_at ms i) t

-- the set that is looked for
unfoldable pub Reached : List ℕ → List ℕ → ℕ → ℕ → List ℕ → List ℕ
Reached ms ln w i src = reach (list_of w src) (asked ms ln i) (begun ms ln i)

pub record Ranking (ms ln : List ℕ) (w i : ℕ) (src u : List ℕ) : Type 0 where
  pub sound : (t : ℕ) → t < w * 64 → T (member u t) → t ∈ Reached ms ln w i src
  pub base : (t : ℕ) → t ∈ list_of w src → T (begun ms ln i t) → T (member u t)

module _ {ms ln : List ℕ} {w : ℕ} {tw cw ns : List ℕ} (r : Ready ms ln w tw cw ns) {x i : ℕ} (k : Until ms x i) (src : List ℕ) (room : w ≤ length src) where
  asked-more : (U Y : List ℕ) → ((x : ℕ) → x ∈ U → x ∈ Y) → (t : ℕ) → T (asked ms ln i U t) → T (asked ms ln i Y t)
  unfolding asked
  asked-more U Y sub t a =
      and_in (true_at ms ln (left_at ms i) t) (passes ms ln Y t (form ms i)) (and_0 (true_at ms ln (left_at ms i) t) (passes ms ln U t (form ms i)) a)
      (pass-more ms ln U Y sub t (form ms i) (and-1 (true_at ms ln (left_at ms i) t) (passes ms ln U t (form ms i)) a))

  -- it is what an EU or an AU calls good
  good-is : Reached ms ln w i src ≡ Good ms ln (list_of w src) (form ms i)
  unfolding Reached asked begun E.good E.eu_test E.au_test passes
  good-is =
      ⊎_elim
      (λ e. ap (λ f. reach (list_of w src) (λ U t. true_at ms ln (left_at ms i) t && passes ms ln U t f) (true_at ms ln (right_at ms i))) (form-tag r.table i k.inside 8 e)
      ∙ sym (ap (Good ms ln (list_of w src)) (form-tag r.table i k.inside 8 e)))
      (λ e. ap (λ f. reach (list_of w src) (λ U t. true_at ms ln (left_at ms i) t && passes ms ln U t f) (true_at ms ln (right_at ms i))) (form-tag r.table i k.inside 9 e)
      ∙ sym (ap (Good ms ln (list_of w src)) (form-tag r.table i k.inside 9 e)))
      kind
    where
      kind : (tag_at ms i ≡ 8) ⊎ (tag_at ms i ≡ 9)
      kind = ⊎_elim (λ e. inl e) (λ f. inr (let a = k.low in let b = k.high in omega arith)) (same_or (tag_at ms i) 8)

  -- the beginning: ranked are the family's types with the right operand
  pub search-start : (copy : List ℕ) {q : ℕ} → q ≡ right_w x → ((t : ℕ) → t < w * 64 → member copy t ≡ (member src t && not (has w tw q t))) → Ranking ms ln w i src (ranked w src copy)
  unfolding Reached begun
  search-start copy {q} e f = record {
    sound = λ t l m. (let a = T-cast (first t l) m in
        reach-first (list_of w src) (asked ms ln i) (begun ms ln i) (list-in w src l (and_0 (member src t) (true_at ms ln (right_at ms i) t) a)) (and-1 (member src t) (true_at ms ln (right_at ms i) t) a));
    base = λ t m b. (let k = list-out w src m in T-cast⁻ (first t k.0) (and_in (member src t) (true_at ms ln (right_at ms i) t) k.1 b));
  }
    where
      both : (s h : Bool) → (s && not (s && not h)) ≡ (s && h)
      both true true = refl
      both true false = refl
      both false h = refl

      first : (t : ℕ) → t < w * 64 → member (ranked w src copy) t ≡ (member src t && true_at ms ln (right_at ms i) t)
      first t l =
          ranked-member w src copy room t l ∙ ap (λ b. member src t && not b) (f t l) ∙ both (member src t) (has w tw q t)
          ∙ ap (λ b. member src t && b) (ap (λ j. has w tw j t) (e ∙ until-right r k) ∙ truth-bit r.truths (right_at ms i) (right-in r.table i k.inside (let a = k.low in omega arith)) t l)

  module _ (copy : List ℕ) (s : Ranking ms ln w i src (ranked w src copy)) where
    abbrev U : List ℕ
    U = list_of w (ranked w src copy)

    -- what has to be so of those that leave the copy
    leaving-is : (t : ℕ) → t < w * 64 → leaving w tw cw ns src copy x t ≡ asked ms ln i U t
    unfolding asked
    leaving-is t l =
        ap₂ (λ a b. a && b) (ap (λ j. has w tw j t) (until-left r k) ∙ truth-bit r.truths (left_at ms i) (left_in r.table i k.inside (let a = k.low in omega arith)) t l)
        (wants_is r (ranked w src copy) t x i l k)

    -- none is ranked but those that are looked for
    pub search-own : (t : ℕ) → t < w * 64 → member (ranked w src copy) t ≡ true → member (ranked w src copy) t ≡ elem t (Good ms ln (list_of w src) (form ms i))
    search-own t l q = q ∙ sym (true-T _ (elem_in (s.sound t l (T_true _ q)))) ∙ ap (elem t) good-is

    -- of dst, none that has the member is left in the copy
    pub search-found : (dst : List ℕ) → Within w dst src → ((t : ℕ) → t < w * 64 → member dst t ≡ true → has w tw i t ≡ true → member copy t ≡ false) → Finds ms ln w tw src dst i copy
    search-found dst sub f t l d h = search-own t l (ranked-member w src copy room t l ∙ ap₂ (λ a b. a && not b) (sub t l d) (f t l d h))

    -- none of the copy leaves: all are ranked that are looked for
    search-end : ((t : ℕ) → t < w * 64 → (member copy t && leaving w tw cw ns src copy x t) ≡ false) → (t : ℕ) → t < w * 64 → member (ranked w src copy) t ≡ elem t (Good ms ln (list_of w src) (form ms i))
    search-end none t l = both_ways _ _ (λ m. elem_in (s.sound t l m)) (λ m. (list-out w (ranked w src copy) (into (elem_out t (Reached ms ln w i src) m))).1) ∙ ap (elem t) good-is
      where
        stuck : (a b c : Bool) → (b && c) ≡ false → T a → T c → T (a && not b)
        stuck true true true n p q = subst T n tt
        stuck false b c n p q = elim p [ ]
        stuck true true false n p q = elim q [ ]
        stuck true false true n p q = tt
        stuck true false false n p q = elim q [ ]

        -- a type that has what is asked is ranked already
        closed : (Y : List ℕ) (t : ℕ) → t ∈ list_of w src → ((x : ℕ) → x ∈ Y → x ∈ U) → T (asked ms ln i Y t) → t ∈ U
        closed Y t m sub ask =
            let j = list-out w src m in
            list-in w (ranked w src copy) j.0 (T-cast⁻ (ranked-member w src copy room t j.0) (stuck (member src t) (member copy t) (leaving w tw cw ns src copy x t) (none t j.0) j.1 (T-cast⁻ (leaving-is t j.0) (asked-more Y U sub t ask))))

        into : {t : ℕ} → t ∈ Reached ms ln w i src → t ∈ U
        into {t} m =
            (reach-out (list_of w src) (asked ms ln i) (λ n t. t ∈ U) (λ n t x. x) (λ n Y t m sub a. closed Y t m sub a) (begun ms ln i)
            (λ t m b. (let j = list-out w src m in list-in w (ranked w src copy) j.0 (s.base t m b))) t (unfold Reached in m)).1

    -- those that leave the copy are ranked
    module _ (copy' : List ℕ) (f : (t : ℕ) → t < w * 64 → member copy' t ≡ (member copy t && not (leaving w tw cw ns src copy x t))) where
      grown : (t : ℕ) → t < w * 64 → member (ranked w src copy') t ≡ (member (ranked w src copy) t || (member src t && asked ms ln i U t))
      grown t l =
          ranked-member w src copy' room t l ∙ ap (λ b. member src t && not b) (f t l ∙ ap (λ b. member copy t && not b) (leaving-is t l)) ∙ more (member src t) (member copy t) (asked ms ln i U t)
          ∙ ap (λ b. b || (member src t && asked ms ln i U t)) (sym (ranked-member w src copy room t l))
        where
          more : (s c a : Bool) → (s && not (c && not a)) ≡ ((s && not c) || (s && a))
          more true true true = refl
          more true true false = refl
          more true false a = refl
          more false c a = refl

      pub search-on : Ranking ms ln w i src (ranked w src copy')
      unfolding Reached
      search-on = record {
        sound = λ t l m. ⊎_elim (λ y. s.sound t l y) (λ y. reach-next (list_of w src) (asked ms ln i) (begun ms ln i) (list-in w src l (and_0 (member src t) _ y)) (asked-more U (Reached ms ln w i src) inside t (and-1 (member src t) _ y)))
            (or-out (member (ranked w src copy) t) _ (T-cast (grown t l) m));
        base = λ t m b. T-cast⁻ (grown t (list-out w src m).0) (or-0 (member (ranked w src copy) t) _ (s.base t m b));
      }
        where
          inside : (z : ℕ) → z ∈ U → z ∈ Reached ms ln w i src
          inside z m = let j = list-out w (ranked w src copy) m in s.sound z j.0 j.1

      -- there are none
      pub search-last : (dst : List ℕ) → any_below (w * 64) (λ t. member copy t && leaving w tw cw ns src copy x t) ≡ false → Finds ms ln w tw src dst i copy'
      search-last dst e t l d h =
          ranked-member w src copy' room t l ∙ ap (λ b. member src t && not b) (f t l ∙ same (member copy t) (leaving w tw cw ns src copy x t) (none t l)) ∙ sym (ranked-member w src copy room t l) ∙ search-end none t l
        where
          none : (t : ℕ) → t < w * 64 → (member copy t && leaving w tw cw ns src copy x t) ≡ false
          none = any_false (λ t. member copy t && leaving w tw cw ns src copy x t) (w * 64) e

          same : (c q : Bool) → (c && q) ≡ false → (c && not q) ≡ c
          same true true n = sym n
          same true false n = refl
          same false q n = refl

-- a copy that some type leaves gets shorter
pub copy-fewer : (copy copy' : List ℕ) (n : ℕ) (q : ℕ → Bool) → ((t : ℕ) → t < n → member copy' t ≡ (member copy t && not (q t))) → any_below n (λ t. member copy t && q t) ≡ true → count_below n (member copy') < count_below n (member copy)
copy-fewer copy copy' n q f e =
    let l = least_lt n (λ t. member copy t && q t) e in
    let m = and_both (member copy _) _ (least-holds n (λ t. member copy t && q t) l) in
    let fewer = count-fewer (member copy) (λ t. member copy t && not (q t)) n (λ j h. (and_both (member copy j) _ h).0)
    (all-false (λ j. beq (member copy j) (member copy j && not (q j))) n (least n (λ t. member copy t && q t)) l (ap₂ (λ a b. beq a (a && not b)) m.0 m.1)) in
    let same = count-ext (member copy') (λ t. member copy t && not (q t)) n f in
    omega arith

-- none of dst that is in a block is left in the copy
pub none_left : (w : ℕ) (tw dst copy : List ℕ) {j i : ℕ} → j ≡ i → any_below (w * 64) (λ t. (member dst t && member copy t) && has w tw j t) ≡ false
    → (t : ℕ) → t < w * 64 → member dst t ≡ true → has w tw i t ≡ true → member copy t ≡ false
none_left w tw dst copy {j} q e t l m h = out (member dst t) (member copy t) (has w tw j t) m (ap (λ n. has w tw n t) q ∙ h) (any_false (λ t. (member dst t && member copy t) && has w tw j t) (w * 64) e t l)
  where
    out : (d c h : Bool) → d ≡ true → h ≡ true → ((d && c) && h) ≡ false → c ≡ false
    out true c true p q e = sym (and-true c) ∙ e
    out true c false p q e = absurd (true≢false (sym q))
    out false c h p q e = absurd (true≢false (sym p))

-- ---- the loop, for whichever table the words are of

pub record Searching (w : ℕ) (tw cw ns : List ℕ) (x : ℕ) (src copy₀ todo₀ v₀ rest₀ copy todo v rest : List ℕ) : Type 0 where
  pub long : length copy ≡ length copy₀
  pub long_todo : length todo ≡ length todo₀
  pub long_v : length v ≡ length v₀
  pub long_rest : length rest ≡ length rest₀
  pub is : (ms ln : List ℕ) (i : ℕ) → Ready ms ln w tw cw ns → Until ms x i → Ranking ms ln w i src (ranked w src copy)
