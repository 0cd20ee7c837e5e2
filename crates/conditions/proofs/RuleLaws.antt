-- What a closure member asks of a link, as a condition: EX, AX over one mode, and AU both ways. Assumes nothing.
use mathlib.Core.Path.{◌≡◌, refl, sym, ap, ap₂, ◌∙◌}
use mathlib.Core.Bool.{Bool, true, false, not, ◌&&◌, ◌||◌, and-true, true≢false}
use mathlib.Core.List.{List}
use mathlib.Core.Logic.{◌⊎◌, inl, inr, ⊎_elim}
use Prim.Native.Nat.{ℕ, ◌+◌, ◌-◌, ◌^◌, ◌≤◌, ◌<◌}
use native.Mathlib.Nat.{add_comm}
use native.Mathlib.Omega.{arith}
use lib.Dec.{eqb}
use lib.ListN.{length}
use borrow.Author.Tests.{eq-eqb, eqb-true, ne_eqb}
use Rattle.ctl.specs.Equality.{tag}
use Rattle.ctl.specs.Formula.{Form, tru, fls, lit, nlit, and, or, ex, ax, eu, au, er, ar}
use Rattle.ctl.specs.Links.{link_rule}
use Rattle.ctl.specs.Lists.{imp}
use Rattle.ctl.specs.Modes.{has_mode, single}
use Rattle.ctl.proofs.BoolLaws.{and_both, true-T}
use Rattle.ctl.proofs.ListLaws.{below_in}
use Rattle.ctl.proofs.ModeLaws.{single-in}
use Rattle.wordset.proofs.BelowLaws.{same_or}
use Rattle.members.proofs.ModeLaws.{power-same}
use Rattle.truth.specs.Tables.{Table, arg_at, form, lean_forms, left_at, right_at, tag_at}
use Rattle.truth.specs.Truths.{Tr, true_at}
use Rattle.truth.proofs.MemberLaws.{form-tag, tag_of}
use Rattle.std.specs.Prelude.{Some, None}
use Rattle.conditions.specs.Conditions.{Below, Own, clash, reverse, selects}
use Rattle.conditions.specs.declared.Rule.TheVariants.{Forward, Backward, BothWays}

-- ---- the rules by tags

rule-none : (ln : List Form) (f s u : ℕ) (p : Form) → (tag p ≡ 6 → ⊥) → (tag p ≡ 7 → ⊥) → (tag p ≡ 9 → ⊥) → link_rule ln f s u p ≡ true
unfolding link_rule
rule-none ln f s u tru a b c = refl
rule-none ln f s u fls a b c = refl
rule-none ln f s u (lit k) a b c = refl
rule-none ln f s u (nlit k) a b c = refl
rule-none ln f s u (and p q) a b c = refl
rule-none ln f s u (or p q) a b c = refl
rule-none ln f s u (ex A p) a b c = absurd (a refl)
rule-none ln f s u (ax A p) a b c = absurd (b refl)
rule-none ln f s u (eu A p q) a b c = refl
rule-none ln f s u (au A p q) a b c = absurd (c refl)
rule-none ln f s u (er A p q) a b c = refl
rule-none ln f s u (ar A p q) a b c = refl

module _ {ms : List ℕ} (ln : List ℕ) (t : Table ms) (i : ℕ) (h : i < length ms) (f s u : ℕ) where
  abbrev pub rule : Bool
  rule = link_rule (lean_forms ms ln) f s u (form ms i)

  pub ex-rule : tag_at ms i ≡ 6 → rule ≡ imp (eqb (arg_at ms i) (2 ^ f)) (imp (true_at ms ln i s) (true_at ms ln (left_at ms i) u))
  unfolding link_rule
  ex-rule e =
      let q = form-tag t i h 6 e in
      ap (link_rule (lean_forms ms ln) f s u) q ∙ ap (λ p. imp (eqb (arg_at ms i) (2 ^ f)) (imp (Tr ms ln s p) (true_at ms ln (left_at ms i) u))) (sym q)

  ax-rule : tag_at ms i ≡ 7
      → rule ≡ (imp (eqb (arg_at ms i) (2 ^ f)) (imp (true_at ms ln i s) (true_at ms ln (left_at ms i) u)) && imp (eqb (arg_at ms i) (2 ^ (8 + f))) (imp (true_at ms ln i u) (true_at ms ln (left_at ms i) s)))
  unfolding link_rule
  ax-rule e =
      let q = form-tag t i h 7 e in
      ap (link_rule (lean_forms ms ln) f s u) q
      ∙ ap (λ p. imp (eqb (arg_at ms i) (2 ^ f)) (imp (Tr ms ln s p) (true_at ms ln (left_at ms i) u)) && imp (eqb (arg_at ms i) (2 ^ (8 + f))) (imp (Tr ms ln u p) (true_at ms ln (left_at ms i) s))) (sym q)

  pub au-rule : tag_at ms i ≡ 9
      → rule ≡ imp (has_mode (arg_at ms i) f && has_mode (arg_at ms i) (8 + f)) (imp (true_at ms ln i s && true_at ms ln i u) (true_at ms ln (right_at ms i) s || true_at ms ln (right_at ms i) u))
  unfolding link_rule
  au-rule e =
      let q = form-tag t i h 9 e in
      ap (link_rule (lean_forms ms ln) f s u) q
      ∙ ap (λ p. imp (has_mode (arg_at ms i) f && has_mode (arg_at ms i) (8 + f)) (imp (Tr ms ln s p && Tr ms ln u p) (true_at ms ln (right_at ms i) s || true_at ms ln (right_at ms i) u))) (sym q)

-- ---- the mode of a member

-- what is known of the mode r of a set a
abbrev pub ModeOf : ℕ → ℕ → Type 0
ModeOf a r = ((r < 16) × (a ≡ 2 ^ r)) ⊎ ((r ≡ 16) × (single a ≡ true → ⊥))

power-one : (r m : ℕ) → r < 16 → m < 16 → eqb (2 ^ r) (2 ^ m) ≡ eqb r m
power-one r m h l = ⊎_elim (λ e. eq-eqb (2 ^ r) (2 ^ m) (ap (λ (k : ℕ). 2 ^ k) e) ∙ sym (eq-eqb r m e)) (λ f. ne_eqb (2 ^ r) (2 ^ m) (λ e. f (power-same r m (omega arith) (omega arith) e)) ∙ sym (ne_eqb r m f)) (same_or r m)

mode-test : (a r m : ℕ) → ModeOf a r → m < 16 → eqb a (2 ^ m) ≡ eqb r m
mode-test a r m (inl e) l = ap (λ (x : ℕ). eqb x (2 ^ m)) e.1 ∙ power-one r m e.0 l
mode-test a r m (inr e) l =
    ne_eqb a (2 ^ m) (λ q. e.1 (ap single q ∙ true-T (single (2 ^ m)) (single-in {m = m} (below_in l)))) ∙ sym (ne_eqb r m (λ q. omega (arith, e.0)))

mode-le : (a r : ℕ) → ModeOf a r → r ≤ 16
mode-le a r (inl e) = omega (arith, e.0)
mode-le a r (inr e) = omega (arith, e.0)

-- ---- conditions

forth : (g it pu : Bool) → imp g (imp it pu) ≡ not (g && (it && not pu))
forth true true true = refl
forth true true false = refl
forth true false pu = refl
forth false it pu = refl

back : (g iu pt : Bool) → imp g (imp iu pt) ≡ not (g && (not pt && iu))
back true true true = refl
back true true false = refl
back true false true = refl
back true false false = refl
back false iu pt = refl

both : (g it qt iu qu : Bool) → imp g (imp (it && iu) (qt || qu)) ≡ not (g && ((it && not qt) && (iu && not qu)))
both false it qt iu qu = refl
both true false qt iu qu = refl
both true true true true qu = refl
both true true true false qu = refl
both true true false true true = refl
both true true false true false = refl
both true true false false qu = refl

-- where there is no condition, none stands against a link
pub none-clash : (ms ln : List ℕ) (m t u : ℕ) → clash ms ln None m t u ≡ false
unfolding clash
none-clash ms ln m t u = refl

module _ {ms : List ℕ} (t : Table ms) (j : ℕ) (h : j < length ms) where
  -- ---- its own

  -- a member that asks nothing
  pub own-nothing : ((ln : List ℕ) (m s u : ℕ) → m < 8 → (tag_at ms j ≡ 9 → ⊥) → link_rule (lean_forms ms ln) m s u (form ms j) ≡ true) → Own ms j None
  own-nothing f = record {
    inside = tt;
    is = λ ln m s u l n. f ln m s u l n ∙ sym (ap not (none-clash ms ln m s u));
    none = λ n. refl;
  }

  pub own-other : (g : ℕ) → g ≡ tag_at ms j → (g ≡ 6 → ⊥) → (g ≡ 7 → ⊥) → Own ms j None
  own-other g eg a b =
      own-nothing (λ ln m s u l n. (let q = sym (tag_of t j h) in
      rule-none (lean_forms ms ln) m s u (form ms j) (λ x. a (eg ∙ q ∙ x)) (λ x. b (eg ∙ q ∙ x)) (λ x. n (q ∙ x))))

  module _ (g a r : ℕ) (eg : g ≡ tag_at ms j) (ea : a ≡ arg_at ms j) (em : ModeOf a r) where
    test : (m : ℕ) → m < 16 → eqb (arg_at ms j) (2 ^ m) ≡ eqb r m
    test m l = ap (λ (x : ℕ). eqb x (2 ^ m)) (sym ea) ∙ mode-test a r m em l

    -- EX over a backward mode or several, AX over several
    pub own-ex : g ≡ 6 → 8 ≤ r → Own ms j None
    own-ex e k = own-nothing (λ ln m s u l n. ex-rule ln t j h m s u (sym eg ∙ e) ∙ rw (test m (omega arith), ne_eqb r m (λ x. omega (arith, k, l, x))))

    pub own-ax : g ≡ 7 → r ≡ 16 → Own ms j None
    own-ax e k =
        own-nothing (λ ln m s u l n. ax-rule ln t j h m s u (sym eg ∙ e)
        ∙ rw (test m (omega arith), ne_eqb r m (λ x. omega (arith, k, l, x)), test (8 + m) (omega arith), ne_eqb r (8 + m) (λ x. omega (arith, k, l, x))))

    -- a member that makes no condition
    pub own-none : (g ≡ 6 → 8 ≤ r) → (g ≡ 7 → 16 ≤ r) → Own ms j None
    own-none six seven =
        ⊎_elim (λ e. own-ex e (six e))
        (λ f. ⊎_elim (λ e. own-ax e (let l = seven e in let m = mode-le a r em in omega arith)) (λ h. own-other g eg f h) (same_or g 7)) (same_or g 6)

    module _ (p : ℕ) (ep : p ≡ left_at ms j) (six : 6 ≤ g) (seven : g ≤ 7) where
      within : (f : ℕ) → f < 8 → (f < 8) × (j < length ms) × (p < length ms)
      within f l = (l, h, (let o = (t.operands j h (omega arith)).0 in omega arith))

      pub own-forth : r < 8 → Own ms j (Some (record { field = r; rule = Forward; whole = j; part = p }))
      unfolding clash selects reverse
      own-forth k = record {
        inside = within r k;
        is = λ ln m s u l n. ⊎_elim
            (λ e. ex-rule ln t j h m s u (sym eg ∙ e) ∙ ap (λ b. imp b (imp (true_at ms ln j s) (true_at ms ln (left_at ms j) u))) (test m (omega arith)) ∙ close ln m s u)
            (λ e. ax-rule ln t j h m s u (sym eg ∙ e) ∙ one ln m s u l ∙ close ln m s u) (six-seven g six seven);
        none = λ n. absurd (omega (arith, n, eg, seven));
      }
        where
          six-seven : (g : ℕ) → 6 ≤ g → g ≤ 7 → (g ≡ 6) ⊎ (g ≡ 7)
          six-seven g a b = ⊎_elim inl (λ f. inr (omega arith)) (same_or g 6)

          close : (ln : List ℕ) (m s u : ℕ) → imp (eqb r m) (imp (true_at ms ln j s) (true_at ms ln (left_at ms j) u)) ≡ not (clash ms ln (Some (record { field = r; rule = Forward; whole = j; part = p })) m s u)
          close ln m s u = forth (eqb r m) (true_at ms ln j s) (true_at ms ln (left_at ms j) u) ∙ ap (λ q. not (eqb r m && (true_at ms ln j s && not (true_at ms ln q u)))) (sym ep)

          one : (ln : List ℕ) (m s u : ℕ) → m < 8
              → (imp (eqb (arg_at ms j) (2 ^ m)) (imp (true_at ms ln j s) (true_at ms ln (left_at ms j) u)) && imp (eqb (arg_at ms j) (2 ^ (8 + m))) (imp (true_at ms ln j u) (true_at ms ln (left_at ms j) s)))
              ≡ imp (eqb r m) (imp (true_at ms ln j s) (true_at ms ln (left_at ms j) u))
          one ln m s u l = rw (test m (omega arith), test (8 + m) (omega arith), ne_eqb r (8 + m) (λ x. omega (arith, k, x)), and-true)

      pub own_back : {f : ℕ} → g ≡ 7 → 8 ≤ r → (r ≡ 16 → ⊥) → f ≡ r - 8 → Own ms j (Some (record { field = f; rule = Backward; whole = j; part = p }))
      unfolding clash selects reverse
      own_back {f} e k n ef = record {
        inside = within f (let x = mode-le a r em in omega arith);
        is = λ ln m s u l q. ax-rule ln t j h m s u (sym eg ∙ e) ∙ one ln m s u l ∙ close ln m s u;
        none = λ q. absurd (omega (arith, q, eg, seven));
      }
        where
          shift : (m : ℕ) → eqb r (8 + m) ≡ eqb f m
          shift m = ⊎_elim (λ x. eq-eqb r (8 + m) x ∙ sym (eq-eqb f m (omega arith))) (λ x. ne_eqb r (8 + m) x ∙ sym (ne_eqb f m (λ y. x (omega (arith, k, ef, y))))) (same_or r (8 + m))

          one : (ln : List ℕ) (m s u : ℕ) → m < 8
              → (imp (eqb (arg_at ms j) (2 ^ m)) (imp (true_at ms ln j s) (true_at ms ln (left_at ms j) u)) && imp (eqb (arg_at ms j) (2 ^ (8 + m))) (imp (true_at ms ln j u) (true_at ms ln (left_at ms j) s)))
              ≡ imp (eqb f m) (imp (true_at ms ln j u) (true_at ms ln (left_at ms j) s))
          one ln m s u l =
              rw (test m (omega arith), ne_eqb r m (λ x. omega (arith, k, l, x)), test (8 + m) (omega arith), shift m)

          close : (ln : List ℕ) (m s u : ℕ) → imp (eqb f m) (imp (true_at ms ln j u) (true_at ms ln (left_at ms j) s)) ≡ not (clash ms ln (Some (record { field = f; rule = Backward; whole = j; part = p })) m s u)
          close ln m s u = back (eqb f m) (true_at ms ln j u) (true_at ms ln (left_at ms j) s) ∙ ap (λ q. not (eqb f m && (not (true_at ms ln q s) && true_at ms ln j u))) (sym ep)

  ways : (i b r m : ℕ) → b ≡ arg_at ms i → r ≡ m → (has_mode (arg_at ms i) m && has_mode (arg_at ms i) (8 + m)) ≡ (has_mode b r && has_mode b (r + 8))
  ways i b r m eb q = ap₂ (λ (x y : ℕ). has_mode x y && has_mode x (8 + y)) (sym eb) (sym q) ∙ ap (λ (y : ℕ). has_mode b r && has_mode b y) (add_comm 8 r)

  -- ---- that of its body

  pub below-nothing : ((ln : List ℕ) (m s u : ℕ) → m < 8 → tag_at ms j ≡ 7 → arg_at ms j ≡ 2 ^ m → tag_at ms (left_at ms j) ≡ 9 → link_rule (lean_forms ms ln) m s u (form ms (left_at ms j)) ≡ true) → Below ms j None
  below-nothing f = record {
    inside = tt;
    only = λ ln m s u l c. absurd (true≢false (sym c ∙ none-clash ms ln m s u));
    is = λ ln m s u l a b c. f ln m s u l a b c ∙ sym (ap not (none-clash ms ln m s u));
  }

  -- no AX over a field, or no AU below it
  pub below-tag : (g : ℕ) → g ≡ tag_at ms j → (g ≡ 7 → ⊥) → Below ms j None
  below-tag g eg f = below-nothing (λ ln m s u l a b c. absurd (f (eg ∙ a)))

  pub below-mode : (a r : ℕ) → a ≡ arg_at ms j → ModeOf a r → 8 ≤ r → Below ms j None
  below-mode a r ea em k = below-nothing (λ ln m s u l g b c. absurd (true≢false (sym (eq-eqb a (2 ^ m) (ea ∙ b)) ∙ mode-test a r m em (omega arith) ∙ ne_eqb r m (λ x. omega (arith, k, l, x)))))

  pub below_other : (i g : ℕ) → i ≡ left_at ms j → g ≡ tag_at ms i → (g ≡ 9 → ⊥) → Below ms j None
  below_other i g ei eg f = below-nothing (λ ln m s u l a b c. absurd (f (eg ∙ ap (tag_at ms) ei ∙ c)))

  -- an AU not both ways along the field
  pub below-way : (a r i b : ℕ) → a ≡ arg_at ms j → ModeOf a r → i ≡ left_at ms j → i < length ms → b ≡ arg_at ms i → ((has_mode b r && has_mode b (r + 8)) ≡ false) → Below ms j None
  below-way a r i b ea em ei il eb f =
      below-nothing (λ ln m s u l g k c. (let q : r ≡ m = eqb-true r m (sym (mode-test a r m em (omega arith)) ∙ eq-eqb a (2 ^ m) (ea ∙ k)) in
      ap (λ (x : ℕ). link_rule (lean_forms ms ln) m s u (form ms x)) (sym ei)
      ∙ au-rule ln t i il m s u (ap (tag_at ms) ei ∙ c)
      ∙ ap (λ x. imp x (imp (true_at ms ln i s && true_at ms ln i u) (true_at ms ln (right_at ms i) s || true_at ms ln (right_at ms i) u))) (ways i b r m eb q ∙ f)))

  pub below_both : (a r i b q : ℕ) → a ≡ arg_at ms j → ModeOf a r → r < 8 → i ≡ left_at ms j → i < length ms → tag_at ms i ≡ 9 → b ≡ arg_at ms i → q ≡ right_at ms i → (has_mode b r && has_mode b (r + 8)) ≡ true
      → Below ms j (Some (record { field = r; rule = BothWays; whole = i; part = q }))
  unfolding clash selects reverse
  below_both a r i b q ea em k ei il g eb eq f = record {
    inside = (k, il, (let o = (t.operands i il (omega arith)).1 in omega arith));
    only = λ ln m s u l c. ((let z = il in omega (arith, ei)), (let n = eqb-true r m (and_both (eqb r m) _ c).0 in rule ln m s u l n ∙ ap not c));
    is = λ ln m s u l a' b' c. (let n : r ≡ m = eqb-true r m (sym (mode-test a r m em (omega arith)) ∙ eq-eqb a (2 ^ m) (ea ∙ b')) in rule ln m s u l n);
  }
    where
      rule : (ln : List ℕ) (m s u : ℕ) → m < 8 → r ≡ m
          → link_rule (lean_forms ms ln) m s u (form ms (left_at ms j)) ≡ not (clash ms ln (Some (record { field = r; rule = BothWays; whole = i; part = q })) m s u)
      rule ln m s u l n =
          ap (λ (x : ℕ). link_rule (lean_forms ms ln) m s u (form ms x)) (sym ei)
          ∙ au-rule ln t i il m s u g
          ∙ ap₂ (λ x y. imp x (imp (true_at ms ln i s && true_at ms ln i u) (true_at ms ln y s || true_at ms ln y u))) (ways i b r m eb n ∙ f ∙ sym (eq-eqb r m n)) (sym eq)
          ∙ both (eqb r m) (true_at ms ln i s) (true_at ms ln q s) (true_at ms ln i u) (true_at ms ln q u)
