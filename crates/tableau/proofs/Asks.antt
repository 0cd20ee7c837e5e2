-- What members ask of a type against a set of types that is given by words, and what the listed needs ask of it. Assumes nothing.
use mathlib.Core.Path.{◌≡◌, refl, sym, ap, ap₂, ◌∙◌}
use mathlib.Core.Bool.{and-true, and_assoc, or-false, true≢false, Bool, true, false, not, ◌&&◌, ◌||◌, cond}
use mathlib.Core.List.{List}
use mathlib.Core.Logic.{◌⊎◌, inl, inr, ⊎_elim}
use Prim.Native.Nat.{ℕ, ◌+◌, ◌-◌, ◌*◌, ◌^◌, ◌≤◌, ◌<◌}
use native.Mathlib.Omega.{arith}
use lib.Dec.{T, eqb}
use lib.ListN.{length, get_or}
use borrow.Author.Tests.{eq-eqb, ne_eqb, eqb-true, lt-ltb}
use Rattle.ctl.specs.Elimination as E
use Rattle.ctl.specs.Lists as L
use Rattle.ctl.proofs.BoolLaws.{and_both, and-make, decide, false_of, T-cast, T-cast⁻, T_true, and_0, and-1, and_in, both_ways, true-T}
use Rattle.ctl.proofs.ListLaws.{any-in, any_out, below_in}
use Rattle.ctl.proofs.ModeLaws.{mode-lt, modes-has, modes-in, modes-one, single-in, single-out}
use Rattle.ctl.specs.ClosedFamily.{linked, one_of}
use Rattle.ctl.specs.Equality.{tag}
use Rattle.ctl.specs.Formula.{Form, tru, fls, lit, nlit, and, or, ex, ax, eu, au, er, ar}
use Rattle.ctl.specs.Links.{link, link_by, link_rule}
use Rattle.ctl.specs.Lists.{imp}
use Rattle.ctl.specs.Modes.{has_mode, modes, single}
use Rattle.wordset.proofs.BelowLaws.{same_or, all-elim, all-intro, any-ext, any-intro, lt-or-le}
use Rattle.wordset.specs.Below.{any_below}
use Rattle.wordset.specs.Words.{member}
use Rattle.members.specs.Members.{arg_w, forms, left_w, tag_w}
use Rattle.members.proofs.ModeLaws.{some_below, some_in}
use Rattle.truth.specs.Tables.{arg_at, form, lean_forms, left_at, tag_at}
use Rattle.truth.specs.Blocks.{has, list_of}
use Rattle.truth.specs.Truths.{Tr, true_at}
use Rattle.truth.proofs.TestLaws.{to-or}
use Rattle.truth.proofs.ListWords.{any-listed, list-in, list-out}
use Rattle.truth.proofs.MemberLaws.{all-forms, form-tag, tag_of}
use Rattle.truth.proofs.TruthLaws.{truth-bit}
use Rattle.conditions.specs.Entries.{linked_by, linked_to, side}
use Rattle.conditions.specs.Conditions.{Lk}
use Rattle.conditions.proofs.RuleLaws.{ex-rule}
use Rattle.needs.specs.NeedWords.{field_need, mode_w, need_of, whole_w}
use Rattle.needs.specs.Needs.{Need, of_field, of-mode, of-until, ex_over, some_ex}
use Rattle.needs.proofs.NeedLaws.{field-left, field-mode, field-tag, field-whole, need-arg, need-left, need-mode, need-tag, need-whole}
use Rattle.tableau.specs.Families.{Follows, Linked, Next, Ready, Until, ex_along, has_next, has_nexts, passes, wants}

-- ---- links

module _ (ms ln : List ℕ) where
  linked-one : (a m : ℕ) → m < 16 → a ≡ 2 ^ m → (t u : ℕ) → Linked ms ln a t u ≡ Lk ms ln m t u
  unfolding linked
  linked-one a m h e t u =
      ap (λ b. L.any_of (λ k. Lk ms ln k t u) (modes b)) e ∙ ap (L.any_of (λ k. Lk ms ln k t u)) (modes-one {m = m} (below_in h)) ∙ or-false (Lk ms ln m t u)

  one-of : (a b m : ℕ) → m < 16 → b ≡ 2 ^ m → one_of a b ≡ has_mode a m
  unfolding one_of
  one-of a b m h e =
      ap (λ c. single c && L.all_of (has_mode a) (modes c)) e
      ∙ ap₂ (λ s l. s && L.all_of (has_mode a) l) (true-T (single (2 ^ m)) (single-in {m = m} (below_in h))) (modes-one {m = m} (below_in h)) ∙ and-true (has_mode a m)

  -- a link along a field
  field-link : (f t u : ℕ) → f < 8 → Lk ms ln f t u ≡ L.all_of (link_rule (lean_forms ms ln) f t u) (forms ms)
  unfolding link_by link
  field-link f t u l =
      ap (λ (b : Bool). elim b as (λ x. Bool) [ true ↦ link (forms ms) (lean_forms ms ln) f t u | false ↦ link (forms ms) (lean_forms ms ln) (f - 8) u t ]) (lt-ltb f 8 l)

  -- ---- members that ask for nothing

  follow-other : (U : List ℕ) (a t : ℕ) (p : Form) → (tag p ≡ 6 → ⊥) → true ≡ Follows ms ln U a t p
  unfolding E.ex_next
  follow-other U a t tru f = refl
  follow-other U a t fls f = refl
  follow-other U a t (lit k) f = refl
  follow-other U a t (nlit k) f = refl
  follow-other U a t (and p q) f = refl
  follow-other U a t (or p q) f = refl
  follow-other U a t (ex A p) f = absurd (f refl)
  follow-other U a t (ax A p) f = refl
  follow-other U a t (eu A p q) f = refl
  follow-other U a t (au A p q) f = refl
  follow-other U a t (er A p q) f = refl
  follow-other U a t (ar A p q) f = refl

module _ {ms ln : List ℕ} {w : ℕ} {tw cw ns : List ℕ} (r : Ready ms ln w tw cw ns) where
  -- EX over one mode
  pub next-is : (us : List ℕ) (t m p a : ℕ) → t < w * 64 → m < 16 → p < length ms → a ≡ 2 ^ m
      → linked_to w cw (side w cw m) (λ c. member us c && has w tw p c) t ≡ Next ms ln (list_of w us) a (form ms p) t
  unfolding linked_to E.next
  next-is us t m p a h k l e =
      any-ext (λ j. (member us j && has w tw p j) && linked_by w cw (side w cw m) t j) (λ j. member us j && (true_at ms ln p j && Linked ms ln a t j)) (w * 64)
      (λ j i. ap₂ (λ x y. (member us j && x) && y) (truth-bit r.truths p l j i) (r.links.links m k t j h i ∙ sym (linked-one ms ln a m k e t j))
      ∙ and_assoc (member us j) (true_at ms ln p j) (Linked ms ln a t j))
      ∙ any-listed w us (λ j. true_at ms ln p j && Linked ms ln a t j)

  -- one of several modes
  abbrev pub StepsBy : List ℕ → ℕ → ℕ → ℕ → Bool
  StepsBy us a t m = has_mode a m && linked_to w cw (side w cw m) (member us) t

  pub steps-is : (us : List ℕ) (t a : ℕ) → t < w * 64 → any_below 16 (StepsBy us a t) ≡ L.any_of (Linked ms ln a t) (list_of w us)
  unfolding linked linked_to
  steps-is us t a h =
      both_ways _ _
      (λ s. (let x = some_below 16 (StepsBy us a t) s in
      let o = and_0 (has_mode a x.0) _ x.2 in
      let y = some_below (w * 64) (λ j. member us j && linked_by w cw (side w cw x.0) t j) (and-1 (has_mode a x.0) _ x.2) in
      any-in (λ u. L.any_of (λ m. Lk ms ln m t u) (modes a)) (list-in w us y.1 (and_0 (member us y.0) _ y.2))
      (any-in (λ m. Lk ms ln m t y.0) (modes-has a x.0 x.1 o)
      (T-cast (r.links.links x.0 x.1 t y.0 h y.1) (and-1 (member us y.0) _ y.2)))))
      (λ s. (let y = any_out (λ u. L.any_of (λ m. Lk ms ln m t u) (modes a)) (list_of w us) s in
      let x = any_out (λ m. Lk ms ln m t y.0) (modes a) y.2 in
      let i = modes-in a x.1 in
      let k = list-out w us y.1 in
      some_in 16 (StepsBy us a t) x.0 (mode-lt i.0) (and_in (has_mode a x.0) _ i.1
      (some_in (w * 64) (λ j. member us j && linked_by w cw (side w cw x.0) t j) y.0 k.0
      (and_in (member us y.0) _ k.1 (T-cast⁻ (r.links.links x.0 (mode-lt i.0) t y.0 h k.0) x.2))))))

  -- ---- an EX that is to follow

  module _ (U : List ℕ) (a t i : ℕ) (h : i < length ms) where
    pub follow-none : (tag_at ms i ≡ 6 → ⊥) → true ≡ Follows ms ln U a t (form ms i)
    follow-none f = follow-other ms ln U a t (form ms i) (λ e. f (sym (tag_of r.table i h) ∙ e))

    -- its next
    abbrev pub here : Bool
    here = Next ms ln U (arg_at ms i) (form ms (left_at ms i)) t

    module _ (e : tag_at ms i ≡ 6) where
      pub follow-ex : Follows ms ln U a t (form ms i) ≡ imp (one_of a (arg_at ms i)) (imp (true_at ms ln i t) here)
      unfolding E.ex_next
      follow-ex =
          ap (Follows ms ln U a t) (form-tag r.table i h 6 e)
          ∙ ap (λ y. imp (one_of a (arg_at ms i)) (imp y here)) (ap (Tr ms ln t) (sym (form-tag r.table i h 6 e)))

      -- not over one mode
      pub follow-wide : (single (arg_at ms i) ≡ true → ⊥) → true ≡ Follows ms ln U a t (form ms i)
      unfolding one_of
      follow-wide f = sym (follow-ex ∙ ap (λ x. imp (x && L.all_of (has_mode a) (modes (arg_at ms i))) (imp (true_at ms ln i t) here)) (false_of (single (arg_at ms i)) f))

      module _ (b m : ℕ) (l : m < 16) (eb : b ≡ arg_at ms i) (q : b ≡ 2 ^ m) where
        follow_one : Follows ms ln U a t (form ms i) ≡ imp (has_mode a m) (imp (true_at ms ln i t) here)
        follow_one = follow-ex ∙ ap (λ x. imp x (imp (true_at ms ln i t) here)) (one-of ms ln a (arg_at ms i) m l (sym eb ∙ q))

        pub follow-mode : has_mode a m ≡ false → true ≡ Follows ms ln U a t (form ms i)
        follow-mode f = sym (follow_one ∙ ap (λ x. imp x (imp (true_at ms ln i t) here)) f)

        pub follow-next : (p : ℕ) (x y : Bool) → has_mode a m ≡ true → x ≡ true_at ms ln i t → p ≡ left_at ms i → y ≡ Next ms ln U b (form ms p) t → (not x || y) ≡ Follows ms ln U a t (form ms i)
        follow-next p x y f g ep d =
            ap₂ (λ x y. not x || y) g (d ∙ ap₂ (λ x y. Next ms ln U x (form ms y) t) eb ep)
            ∙ sym (follow_one ∙ ap (λ x. imp x (imp (true_at ms ln i t) here)) f ∙ to-or (true_at ms ln i t) here)

  -- ---- needs

  -- a link along field f gives the bodies of all EX over f that are true
  body-given : (f t u i : ℕ) → f < 8 → i < length ms → tag_at ms i ≡ 6 → arg_at ms i ≡ 2 ^ f → T (Lk ms ln f t u) → true_at ms ln i t ≡ true → true_at ms ln (left_at ms i) u ≡ true
  body-given f t u i l h g a k e =
      drop-imp (eqb (arg_at ms i) (2 ^ f)) (true_at ms ln i t) (true_at ms ln (left_at ms i) u) (eq-eqb (arg_at ms i) (2 ^ f) a) e
      (sym (ex-rule ln r.table i h f t u g) ∙ all-elim (λ j. link_rule (lean_forms ms ln) f t u (form ms j)) (length ms) (true-T _ (T-cast⁻ (all-forms ms (link_rule (lean_forms ms ln) f t u)) (T-cast (field-link ms ln f t u l) k))) i h)
    where
      drop-imp : (g a b : Bool) → g ≡ true → a ≡ true → imp g (imp a b) ≡ true → b ≡ true
      drop-imp true true b p q e = e
      drop-imp true false b p q e = absurd (true≢false (sym q))
      drop-imp false a b p q e = absurd (true≢false (sym p))

  pub few-whole : (i : ℕ) → i < length ms → whole_w (need_of ms i) ≡ i
  few-whole i h = need-whole ms i (let f = r.few in omega arith)

  module _ (us : List ℕ) (t : ℕ) (l : t < w * 64) where
    abbrev next_by : ℕ → ℕ → ℕ → ℕ → Bool
    next_by h m p t = not (has w tw h t) || linked_to w cw (side w cw m) (λ c. member us c && has w tw p c) t

    -- the need of an EX over one mode, by itself
    own-next : (i m : ℕ) → i < length ms → m < 16 → tag_at ms i ≡ 6 → arg_at ms i ≡ 2 ^ m
        → has_next w tw cw (member us) (need_of ms i) t ≡ (not (true_at ms ln i t) || Next ms ln (list_of w us) (arg_at ms i) (form ms (left_at ms i)) t)
    unfolding has_next
    own-next i m h k g a =
        ap₂ (λ (x y : ℕ). next_by x y (left_w (need_of ms i)) t) (few-whole i h) (need-mode ms i m (omega arith) a)
        ∙ ap (λ (x : ℕ). next_by i m x t) (need-left ms i)
        ∙ ap₂ (λ x y. not x || y) (truth-bit r.truths i h t l) (next-is us t m (left_at ms i) (arg_at ms i) l k (let o = (r.table.operands i h (omega arith)).0 in omega arith) a)

    -- all EX over a field
    links_to : ℕ → Bool
    links_to f = any_below (w * 64) (λ c. member us c && Lk ms ln f t c)

    field_next : (f : ℕ) → f < 8 → has_next w tw cw (member us) (field_need (length ms) f) t ≡ (not (some_ex ms ln f t) || links_to f)
    unfolding has_next linked_to links_to
    field_next f h =
        let n = r.few in
        ap₂ (λ (x y : ℕ). next_by x y (left_w (field_need (length ms) f)) t) (field-whole (length ms) f h n) (field-mode (length ms) f h n)
        ∙ ap (λ (x : ℕ). next_by (length ms + f) f x t) (field-left (length ms) f h n)
        ∙ ap₂ (λ x y. not x || y) (r.fields.each f h t l)
        (any-ext (λ c. (member us c && has w tw (length ms + 8) c) && linked_by w cw (side w cw f) t c) (λ c. member us c && Lk ms ln f t c) (w * 64)
        (λ c k. ap₂ (λ x y. (member us c && x) && y) (r.fields.all c k) (r.links.links f (omega arith) t c l k) ∙ ap (λ x. x && Lk ms ln f t c) (and-true (member us c))))

    U : List ℕ
    U = list_of w us

    -- a link along a field to a type of the set, and an EX over it that is true
    field-to : (f i : ℕ) → f < 8 → i < length ms → tag_at ms i ≡ 6 → arg_at ms i ≡ 2 ^ f → true_at ms ln i t ≡ true → links_to f ≡ true → Next ms ln U (arg_at ms i) (form ms (left_at ms i)) t ≡ true
    unfolding links_to E.next U
    field-to f i h k g a e x =
        let y = some_below (w * 64) (λ c. member us c && Lk ms ln f t c) (T_true _ x) in
        let m = and-1 (member us y.0) (Lk ms ln f t y.0) y.2 in
        true-T _ (any-in (λ u. true_at ms ln (left_at ms i) u && Linked ms ln (arg_at ms i) t u) (list-in w us y.1 (and_0 (member us y.0) (Lk ms ln f t y.0) y.2))
        (and_in (true_at ms ln (left_at ms i) y.0) _ (T_true _ (body-given f t y.0 i h k g a m e)) (T-cast⁻ (linked-one ms ln (arg_at ms i) f (omega arith) a t y.0) m)))

    field-from : (f i : ℕ) → f < 8 → arg_at ms i ≡ 2 ^ f → Next ms ln U (arg_at ms i) (form ms (left_at ms i)) t ≡ true → links_to f ≡ true
    unfolding links_to E.next U
    field-from f i h a x =
        let y = any_out (λ u. true_at ms ln (left_at ms i) u && Linked ms ln (arg_at ms i) t u) (list_of w us) (T_true _ x) in
        let k = list-out w us y.1 in
        any-intro (λ c. member us c && Lk ms ln f t c) (w * 64) y.0 k.0
        (and-make (member us y.0) _ (true-T _ k.1) (true-T _ (T-cast (linked-one ms ln (arg_at ms i) f (omega arith) a t y.0) (and-1 (true_at ms ln (left_at ms i) y.0) _ y.2))))

    module _ (a : ℕ) where
      -- the test of one need
      asks_of : ℕ → Bool
      asks_of x = imp (ex_along a x) (has_next w tw cw (member us) x t)

      along-field : (f : ℕ) → f < 8 → ex_along a (field_need (length ms) f) ≡ has_mode a f
      along-field f h = ap₂ (λ (x y : ℕ). eqb x 6 && has_mode a y) (field-tag (length ms) f h r.few) (field-mode (length ms) f h r.few)

      along-own : (i m : ℕ) → m < 16 → tag_at ms i ≡ 6 → arg_at ms i ≡ 2 ^ m → ex_along a (need_of ms i) ≡ has_mode a m
      along-own i m k g e = ap₂ (λ (x y : ℕ). eqb x 6 && has_mode a y) (need-tag ms i ∙ g) (need-mode ms i m (omega arith) e)

      on : (x : ℕ) {b : Bool} → ex_along a x ≡ b → b ≡ true → asks_of x ≡ true → has_next w tw cw (member us) x t ≡ true
      unfolding asks_of
      on x p q e = ap (λ b. imp b (has_next w tw cw (member us) x t)) (sym (p ∙ q)) ∙ e

      off : (x : ℕ) {b : Bool} → ex_along a x ≡ b → b ≡ false → asks_of x ≡ true
      unfolding asks_of
      off x p q = ap (λ b. imp b (has_next w tw cw (member us) x t)) (p ∙ q)

      pub follow-from : has_nexts w tw cw ns (member us) a t ≡ true → (i : ℕ) → i < length ms → Follows ms ln (list_of w us) a t (form ms i) ≡ true
      unfolding has_nexts asks_of U some_ex
      follow-from e i h = go (same_or (tag_at ms i) 6)
        where
          at : {x : ℕ} → (j : ℕ) × (j < length ns) × (get_or ns j 0 ≡ x) → asks_of x ≡ true
          at q = ap asks_of (sym q.2) ∙ all-elim (λ j. asks_of (get_or ns j 0)) (length ns) e q.0 q.1

          or-made : (b c : Bool) → (b ≡ true → c ≡ true) → (not b || c) ≡ true
          or-made true c f = f refl
          or-made false c f = refl

          or-used : (b c : Bool) → (not b || c) ≡ true → b ≡ true → c ≡ true
          or-used true c p q = p
          or-used false c p q = absurd (true≢false (sym q))

          value : tag_at ms i ≡ 6 → (m : ℕ) → m < 16 → arg_at ms i ≡ 2 ^ m → has_mode a m ≡ true → (m < 8) ⊎ (8 ≤ m) → (not (true_at ms ln i t) || Next ms ln U (arg_at ms i) (form ms (left_at ms i)) t) ≡ true
          value g m k q o (inr n) = sym (own-next i m h k g q) ∙ on (need_of ms i) (along-own i m k g q) o (at (r.listed.modes i m h n k g q))
          value g m k q o (inl n) =
              or-made (true_at ms ln i t) _ (λ b. field-to m i n h g q b
              (or-used (some_ex ms ln m t) (links_to m) (sym (field_next m n) ∙ on (field_need (length ms) m) (along-field m n) o (at (r.listed.fields i m h n g q)))
              (any-intro (λ i. ex_over ms m i && true_at ms ln i t) (length ms) i h (and-make (ex_over ms m i) (true_at ms ln i t) (ap₂ ◌&&◌ (eq-eqb (tag_at ms i) 6 g) (eq-eqb (arg_at ms i) (2 ^ m) q)) b))))

          one : tag_at ms i ≡ 6 → (single (arg_at ms i) ≡ true) ⊎ (single (arg_at ms i) ≡ false) → Follows ms ln (list_of w us) a t (form ms i) ≡ true
          one g (inr f) = sym (follow-wide (list_of w us) a t i h g (λ q. true≢false (sym q ∙ f)))
          one g (inl s) =
              let o = single-out (arg_at ms i) (T_true _ s) in
              let k = mode-lt o.1 in
              ⊎_elim
              (λ d. sym (follow-next (list_of w us) a t i h g (arg_at ms i) o.0 k refl o.2 (left_at ms i) (true_at ms ln i t) (Next ms ln U (arg_at ms i) (form ms (left_at ms i)) t) d refl refl refl) ∙ value g o.0 k o.2 d (lt-or-le o.0 8))
              (λ d. sym (follow-mode (list_of w us) a t i h g (arg_at ms i) o.0 k refl o.2 d)) (decide (has_mode a o.0))

          go : (tag_at ms i ≡ 6) ⊎ (tag_at ms i ≡ 6 → ⊥) → Follows ms ln (list_of w us) a t (form ms i) ≡ true
          go (inr f) = sym (follow-none (list_of w us) a t i h f)
          go (inl g) = one g (decide (single (arg_at ms i)))

      pub follow-to : ((i : ℕ) → i < length ms → Follows ms ln (list_of w us) a t (form ms i) ≡ true) → has_nexts w tw cw ns (member us) a t ≡ true
      unfolding has_nexts asks_of U some_ex
      follow-to f = all-intro (λ j. asks_of (get_or ns j 0)) (length ns) (λ j k. need (r.listed.only j k))
        where
          made : (x : ℕ) → has_next w tw cw (member us) x t ≡ true → asks_of x ≡ true
          made x e = ap (imp (ex_along a x)) e ∙ ends (ex_along a x)
            where
              ends : (b : Bool) → imp b true ≡ true
              ends true = refl
              ends false = refl

          -- what Follows says of an EX over a mode of a
          said : (i m : ℕ) → i < length ms → m < 16 → tag_at ms i ≡ 6 → arg_at ms i ≡ 2 ^ m → has_mode a m ≡ true → (not (true_at ms ln i t) || Next ms ln U (arg_at ms i) (form ms (left_at ms i)) t) ≡ true
          said i m h k g q o =
              follow-next (list_of w us) a t i h g (arg_at ms i) m k refl q (left_at ms i) (true_at ms ln i t) (Next ms ln U (arg_at ms i) (form ms (left_at ms i)) t) o refl refl refl ∙ f i h

          some : (n : ℕ) → n < 8 → has_mode a n ≡ true → (some_ex ms ln n t ≡ true) ⊎ (some_ex ms ln n t ≡ false) → (not (some_ex ms ln n t) || links_to n) ≡ true
          some n h o (inr q) = ap (λ b. not b || links_to n) q
          some n h o (inl q) =
              let y = some_below (length ms) (λ i. ex_over ms n i && true_at ms ln i t) (T_true _ q) in
              let e = and_both (ex_over ms n y.0) (true_at ms ln y.0 t) (true-T _ y.2) in
              let z = and_both (eqb (tag_at ms y.0) 6) _ e.0 in
              let g = eqb-true (tag_at ms y.0) 6 z.0 in
              let b = eqb-true (arg_at ms y.0) (2 ^ n) z.1 in
              ap (λ x. not (some_ex ms ln n t) || x) (field-from n y.0 h b (ap (λ x. not x || Next ms ln U (arg_at ms y.0) (form ms (left_at ms y.0)) t) (sym e.1) ∙ said y.0 n y.1 (omega arith) g b o)) ∙ or-ends (some_ex ms ln n t)
            where
              or-ends : (b : Bool) → (not b || true) ≡ true
              or-ends true = refl
              or-ends false = refl

          need : {x : ℕ} → Need ms x → asks_of x ≡ true
          need {x} (of_field n h q) =
              ⊎_elim (λ o. ap asks_of q ∙ made (field_need (length ms) n) (field_next n h ∙ some n h o (decide (some_ex ms ln n t)))) (λ o. ap asks_of q ∙ off (field_need (length ms) n) (along-field n h) o) (decide (has_mode a n))
          need {x} (of-mode i m h n k g b q) =
              ⊎_elim (λ o. ap asks_of q ∙ made (need_of ms i) (own-next i m h k g b ∙ said i m h k g b o)) (λ o. ap asks_of q ∙ off (need_of ms i) (along-own i m k g b) o) (decide (has_mode a m))
          need {x} (of-until i h g k q) = ap asks_of q ∙ off (need_of ms i) (ap (λ (y : ℕ). eqb y 6 && has_mode a (mode_w (need_of ms i))) (need-tag ms i) ∙ ap (λ b. b && has_mode a (mode_w (need_of ms i))) (ne_eqb (tag_at ms i) 6 (λ e. omega (arith, g, e)))) refl

      -- every EX over one of the modes
      pub follows-are : has_nexts w tw cw ns (member us) a t ≡ L.all_of (Follows ms ln (list_of w us) a t) (forms ms)
      follows-are =
          both_ways _ _
          (λ s. T-cast (all-forms ms (Follows ms ln (list_of w us) a t)) (T_true _ (all-intro (λ i. Follows ms ln (list_of w us) a t (form ms i)) (length ms) (follow-from (true-T _ s)))))
          (λ s. T_true _ (follow-to (all-elim (λ i. Follows ms ln (list_of w us) a t (form ms i)) (length ms) (true-T _ (T-cast⁻ (all-forms ms (Follows ms ln (list_of w us) a t)) s)))))

  -- ---- what an EU or an AU asks

  module _ (us : List ℕ) (t x i : ℕ) (l : t < w * 64) (k : Until ms x i) where
    pub wants_is : wants w tw cw ns (member us) x t ≡ passes ms ln (list_of w us) t (form ms i)
    unfolding wants passes
    wants_is =
        ap₂ (λ (y z : ℕ). by y z) (ap tag_w k.is ∙ need-tag ms i) (ap arg_w k.is ∙ need-arg ms i)
        ∙ ⊎_elim
        (λ e. ap (λ b. cond b (steps (arg_at ms i)) (has_nexts w tw cw ns (member us) (arg_at ms i) t)) (eq-eqb (tag_at ms i) 8 e) ∙ steps-is us t (arg_at ms i) l ∙ sym (ap (passes ms ln (list_of w us) t) (form-tag r.table i k.inside 8 e)))
        (λ e. ap (λ b. cond b (steps (arg_at ms i)) (has_nexts w tw cw ns (member us) (arg_at ms i) t)) (ne_eqb (tag_at ms i) 8 e) ∙ follows-are us t l (arg_at ms i)
        ∙ sym (ap (passes ms ln (list_of w us) t) (form-tag r.table i k.inside 9 (let a = k.low in let b = k.high in omega arith)))) (same_or (tag_at ms i) 8)
      where
        steps : ℕ → Bool
        steps a = any_below 16 (StepsBy us a t)

        by : ℕ → ℕ → Bool
        by g a = cond (eqb g 8) (steps a) (has_nexts w tw cw ns (member us) a t)
