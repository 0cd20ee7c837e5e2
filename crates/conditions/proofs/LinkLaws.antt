-- The links that conditions leave are those of the logic. Assumes nothing.
use mathlib.Core.Path.{◌≡◌, refl, sym, ap, ap₂, ◌∙◌}
use mathlib.Core.Bool.{Bool, true, false, not, ◌&&◌, ◌||◌, and_comm, true≢false}
use mathlib.Core.List.{List}
use mathlib.Core.Logic.{inr, ⊎_elim}
use Prim.Native.Nat.{ℕ, ◌+◌, ◌-◌, ◌*◌, ◌/◌, ◌%◌, ◌^◌, ◌≤◌, ◌<◌}
use native.Mathlib.Nat.{add_comm}
use native.Mathlib.Omega.{arith}
use lib.Dec.{eqb}
use lib.ListN.{length, get_or}
use lib.Pow.{shl-shr}
use borrow.Author.Tests.{le-ltb, lt-ltb, not-true}
use Rattle.ctl.specs.Links.{link, link_by, link_rule}
use Rattle.ctl.specs.Lists.{imp}
use Rattle.ctl.specs.Modes.{has_mode, single}
use Rattle.ctl.proofs.BoolLaws.{and_both, decide, false_of, same_test}
use Rattle.wordset.proofs.BelowLaws.{all-elim, all-intro, any-add, any-ext, any_false, any_none, lt-or-le, same_or}
use Rattle.wordset.proofs.BitLaws.{bit-low, bit-none, bit_past, bit-shr, digit_low}
use Rattle.wordset.specs.Below.{all_below, any_below}
use Rattle.wordset.specs.Word.{bit}
use Rattle.members.specs.Members.{forms}
use Rattle.truth.specs.Blocks.{has}
use Rattle.truth.specs.Tables.{Leans, Table, arg_at, form, lean_forms, right_at, tag_at}
use Rattle.truth.specs.Truths.{true_at}
use Rattle.truth.proofs.BlockLaws.{block_in}
use Rattle.truth.proofs.MemberLaws.{all-forms}
use Rattle.conditions.specs.Entries.{in_some, linked_by, partner, refusing, side}
use Rattle.std.specs.Prelude.{Option, None}
use Rattle.conditions.specs.Conditions.{Below, Conditions, Lk, OfPlace, Own, Placed, clash}
use Rattle.conditions.specs.Putting.{Sided, Summed, Turned}
use Rattle.conditions.specs.declared.Condition.{Condition}
use Rattle.conditions.proofs.EntryLaws.{entry_kept, some-kept}
use Rattle.conditions.proofs.RuleLaws.{au-rule, none-clash, own-ax, own-ex, own-other}

-- ---- a word shifted up by half

module _ (x : ℕ) where
  abbrev pub up : ℕ
  up = (x * 2 ^ 32) % 2 ^ 64

  shifted : up ≡ (x % 2 ^ 32) * 2 ^ 32
  shifted = omega arith

  pub up-low : (c : ℕ) → c < 32 → bit up c ≡ false
  unfolding bit
  up-low c l =
      let s : up ≡ (x % 2 ^ 32) * 2 ^ 32 + 0 = omega (arith, shifted) in
      ap (λ (n : ℕ). bit n c) s ∙ ap (λ (n : ℕ). eqb n 1) (digit_low (x % 2 ^ 32) 0 c 32 l) ∙ bit-none c

  pub up-high : (j : ℕ) → j < 32 → bit up (32 + j) ≡ bit x j
  up-high j l =
      ap (λ (n : ℕ). bit n (32 + j)) shifted ∙ sym (bit-shr ((x % 2 ^ 32) * 2 ^ 32) 32 j) ∙ ap (λ (n : ℕ). bit n j) (shl-shr (x % 2 ^ 32) 32) ∙ bit-low 32 x j l

  -- a number of it is one of x, moved
  up-bit : (c : ℕ) → bit up c ≡ true → (32 ≤ c) × (c < 64) × (bit x (c - 32) ≡ true)
  up-bit c b =
      let l : 32 ≤ c = ⊎_elim (λ l. absurd (true≢false (sym b ∙ up-low c l))) (λ l. l) (lt-or-le c 32) in
      let h : c < 64 = ⊎_elim (λ h. h) (λ h. absurd (true≢false (sym b ∙ bit_past 64 up (omega arith) c h))) (lt-or-le c 64) in
      let e : 32 + (c - 32) ≡ c = omega arith in
      (l, h, sym (up-high (c - 32) (omega arith)) ∙ ap (bit up) e ∙ b)

-- ---- a field's conditions and the members

single-not : (a : ℕ) → single a ≡ false → single a ≡ true → ⊥
single-not a f e = true≢false (sym e ∙ f)

module _ {ms ln : List ℕ} (tb : Table ms) (le : Leans ms ln) (pl : Placed ms ln) (m t u : ℕ) (h : m < 8) (K : ℕ → Bool)
    (low : (e : ℕ) → K e ≡ true → e < length ln * 2) (each : (e : ℕ) → e < length ln * 2 → (d : Option Condition) × OfPlace ms ln e d × (K e ≡ clash ms ln d m t u)) where
  abbrev rule : ℕ → Bool
  rule i = link_rule (lean_forms ms ln) m t u (form ms i)

  module _ (off : (e : ℕ) → e < length ln * 2 → K e ≡ false) (i : ℕ) (l : i < length ms) where
    -- by a condition of its own that does not clash
    by : (d : Option Condition) → Own ms i d → clash ms ln d m t u ≡ false → (tag_at ms i ≡ 9 → ⊥) → rule i ≡ true
    by d o c n = o.is ln m t u h n ∙ ap not c

    -- an EX or AX over one mode has a lean place
    placed : 6 ≤ tag_at ms i → tag_at ms i ≤ 7 → single (arg_at ms i) ≡ true → rule i ≡ true
    placed six seven s =
        let p = pl.nexts i l six seven s in
        let lt : p.0 * 2 < length ln * 2 = (let a = p.1 in omega arith) in
        let z = each (p.0 * 2) lt in
        let q : p.0 * 2 / 2 ≡ p.0 = omega arith in
        by z.0 (at (ap (λ (k : ℕ). get_or ln k 0) q ∙ p.2) (z.1.even (omega arith))) (sym z.2 ∙ off (p.0 * 2) lt) (λ n. omega (arith, n, seven))
      where
        at : {d : Option Condition} {j : ℕ} → j ≡ i → Own ms j d → Own ms i d
        at e o = rw (sym e) o

    ex-met : tag_at ms i ≡ 6 → rule i ≡ true
    ex-met e =
        ⊎_elim (placed (omega arith) (omega arith))
        (λ f. by None (own-ex tb i l 6 (arg_at ms i) 16 (sym e) refl (inr (refl, single-not _ f)) refl (omega arith)) (none-clash ms ln m t u) (λ n. omega (arith, n, e)))
        (decide (single (arg_at ms i)))

    ax-met : tag_at ms i ≡ 7 → rule i ≡ true
    ax-met e =
        ⊎_elim (placed (omega arith) (omega arith))
        (λ f. by None (own-ax tb i l 7 (arg_at ms i) 16 (sym e) refl (inr (refl, single-not _ f)) refl refl) (none-clash ms ln m t u) (λ n. omega (arith, n, e)))
        (decide (single (arg_at ms i)))

    -- an AU both ways has AX over the field below it
    au-placed : tag_at ms i ≡ 9 → has_mode (arg_at ms i) m ≡ true → has_mode (arg_at ms i) (8 + m) ≡ true → rule i ≡ true
    au-placed e a b =
        let p = pl.aus i m l h e a b in
        let lt : p.0 * 2 + 1 < length ln * 2 = (let a = p.1 in omega arith) in
        let z = each (p.0 * 2 + 1) lt in
        let q : (p.0 * 2 + 1) / 2 ≡ p.0 = omega arith in
        let g = at (ap (λ (k : ℕ). get_or ln k 0) q) (z.1.odd (omega arith)) in
        ap rule (sym p.4) ∙ g.is ln m t u h p.2 p.3 (ap (tag_at ms) p.4 ∙ e) ∙ ap not (sym z.2 ∙ off (p.0 * 2 + 1) lt)
      where
        at : {d : Option Condition} {j k : ℕ} → j ≡ k → Below ms j d → Below ms k d
        at e o = rw (sym e) o

    au-off : tag_at ms i ≡ 9 → (has_mode (arg_at ms i) m && has_mode (arg_at ms i) (8 + m)) ≡ false → rule i ≡ true
    au-off e f = au-rule ln tb i l m t u e ∙ ap (λ x. imp x (imp (true_at ms ln i t && true_at ms ln i u) (true_at ms ln (right_at ms i) t || true_at ms ln (right_at ms i) u))) f

    au-met : tag_at ms i ≡ 9 → rule i ≡ true
    au-met e =
        ⊎_elim (λ a. (let b = and_both (has_mode (arg_at ms i) m) (has_mode (arg_at ms i) (8 + m)) a in au-placed e b.0 b.1)) (au-off e) (decide (has_mode (arg_at ms i) m && has_mode (arg_at ms i) (8 + m)))

    met : rule i ≡ true
    met =
        ⊎_elim ex-met
        (λ a. ⊎_elim ax-met
        (λ b. ⊎_elim au-met (λ n. by None (own-other tb i l (tag_at ms i) refl a b) (none-clash ms ln m t u) n) (same_or (tag_at ms i) 9)) (same_or (tag_at ms i) 7)) (same_or (tag_at ms i) 6)

  module _ (on : (i : ℕ) → i < length ms → rule i ≡ true) (e : ℕ) (l : e < length ln * 2) where
    own-clear : {d : Option Condition} → Own ms (get_or ln (e / 2) 0) d → clash ms ln d m t u ≡ true → ⊥
    own-clear o c =
        ⊎_elim (λ n. true≢false (sym c ∙ ap (λ x. clash ms ln x m t u) (o.none n) ∙ none-clash ms ln m t u))
        (λ n. true≢false (sym (on _ (le.inside (e / 2) (omega arith))) ∙ o.is ln m t u h n ∙ ap not c)) (same_or (tag_at ms (get_or ln (e / 2) 0)) 9)

    below-clear : {d : Option Condition} → Below ms (get_or ln (e / 2) 0) d → clash ms ln d m t u ≡ true → ⊥
    below-clear b c = let q = b.only ln m t u h c in true≢false (sym (on _ q.0) ∙ q.1)

    clear : K e ≡ false
    clear =
        let z = each e l in
        false_of (K e) (λ k. ⊎_elim (λ q. own-clear (z.1.even q) (sym z.2 ∙ k)) (λ q. below-clear (z.1.odd (omega arith)) (sym z.2 ∙ k)) (same_or (e % 2) 0))

  -- no condition clashes exactly if every member is content
  link-is : (n : ℕ) → length ln * 2 ≤ n → not (any_below n K) ≡ link (forms ms) (lean_forms ms ln) m t u
  unfolding link
  link-is n g =
      same_test (not (any_below n K)) (all_below (length ms) rule)
      (λ e. all-intro rule (length ms) (λ i l. met (λ j k. any_false K n (not-true _ e) j (omega arith)) i l))
      (λ e. ap not (any_none K n (λ j l. false_of (K j) (λ k. true≢false (sym k ∙ clear (λ i q. all-elim rule (length ms) e i q) j (low j k))))))
      ∙ all-forms ms (link_rule (lean_forms ms ln) m t u)

-- ---- links by a mode

link-field : (ms ln : List ℕ) (m t u : ℕ) → m < 8 → link (forms ms) (lean_forms ms ln) m t u ≡ Lk ms ln m t u
unfolding link_by
link-field ms ln m t u h =
    sym (ap (λ (b : Bool). elim b as (λ x. Bool) [ true ↦ link (forms ms) (lean_forms ms ln) m t u | false ↦ link (forms ms) (lean_forms ms ln) (m - 8) u t ]) (lt-ltb m 8 h))

link-back : (ms ln : List ℕ) (m t u : ℕ) → 8 ≤ m → link (forms ms) (lean_forms ms ln) (m - 8) u t ≡ Lk ms ln m t u
unfolding link_by
link-back ms ln m t u h =
    sym (ap (λ (b : Bool). elim b as (λ x. Bool) [ true ↦ link (forms ms) (lean_forms ms ln) m t u | false ↦ link (forms ms) (lean_forms ms ln) (m - 8) u t ]) (le-ltb m 8 h))

-- ---- the words, from the conditions of the fields to the sums

module _ {ms ln : List ℕ} {w : ℕ} {cw₀ cw₁ : List ℕ} (few : length ln ≤ 12) (s : Sided ms ln w cw₀ (length ln * 2)) (r : Turned w cw₀ cw₁) where
  side-fore : (m : ℕ) → m < 8 → side w cw₁ m ≡ side w cw₀ m
  side-fore m l = r.others (w * 64 + m) (omega arith)

  side-back : (m : ℕ) → 8 ≤ m → m < 16 → side w cw₁ m ≡ up (side w cw₀ (m - 8))
  side-back m l h =
      let e : 8 + (m - 8) ≡ m = omega arith in
      ap (side w cw₁) (sym e) ∙ r.back (m - 8) (omega arith)

  fore-low : (m c : ℕ) → m < 8 → bit (side w cw₁ m) c ≡ true → c < length ln * 2
  fore-low m c l b = s.low m c l (sym (ap (λ (x : ℕ). bit x c) (side-fore m l)) ∙ b)

  back_low : (m c : ℕ) → 8 ≤ m → m < 16 → bit (side w cw₁ m) c ≡ true → (32 ≤ c) × (c < 32 + length ln * 2)
  back_low m c l h b =
      let p = up-bit (side w cw₀ (m - 8)) c (sym (ap (λ (x : ℕ). bit x c) (side-back m l h)) ∙ b) in
      let q = s.low (m - 8) (c - 32) (omega arith) p.2 in
      (p.0, omega (arith, p.0))

  -- the sides hold entries of conditions only
  pub sides-low : (m c : ℕ) → m < 16 → bit (side w cw₁ m) c ≡ true → c % 32 < 24
  sides-low m c h b =
      ⊎_elim (λ l. (let q = fore-low m c l b in omega arith)) (λ l. (let q = back_low m c l h b in let x = q.0 in let y = q.1 in omega arith)) (lt-or-le m 8)

  module _ {cw₂ : List ℕ} (z : Summed w cw₁ cw₂ 16) where
    entry_first : (c t : ℕ) → c < 64 → c % 32 < 24 → t < w * 64 → has w cw₂ c t ≡ has w cw₀ c t
    entry_first c t l h k = z.entries c t h k ∙ entry_kept w cw₀ cw₁ c t (let b = block_in w c 64 l in r.others (c * w + t / 64) (omega arith))

    refuse : (m : ℕ) → m < 16 → (u : ℕ) → u < w * 64 → has w cw₂ (refusing m) u ≡ in_some w cw₂ (side w cw₂ m) u
    refuse m h u l =
        z.is m h u l
        ∙ sym (some-kept w cw₁ cw₂ (side w cw₁ m) u (λ c k b. z.entries c u (sides-low m c h b) l))
        ∙ ap (λ (a : ℕ). in_some w cw₂ a u) (sym (z.sides m))

    module _ (tb : Table ms) (le : Leans ms ln) (pl : Placed ms ln) where
      -- condition c of field m stands against a link from t to u
      abbrev against : ℕ → ℕ → ℕ → ℕ → Bool
      against m t u c = bit (side w cw₀ m) c && (has w cw₀ (c + 32) t && has w cw₀ c u)

      against-link : (m t u n : ℕ) → m < 8 → t < w * 64 → u < w * 64 → length ln * 2 ≤ n → not (any_below n (against m t u)) ≡ link (forms ms) (lean_forms ms ln) m t u
      against-link m t u n h a b g =
          link-is tb le pl m t u h (against m t u) (λ e k. s.low m e h (and_both (bit (side w cw₀ m) e) (has w cw₀ (e + 32) t && has w cw₀ e u) k).0)
          (λ e l. (let d = s.each e l in (d.0, d.1, d.2 m h t u a b))) n g

      fore : (m t u c : ℕ) → m < 8 → t < w * 64 → u < w * 64 → (bit (side w cw₂ m) c && (has w cw₂ (partner c) t && has w cw₂ c u)) ≡ against m t u c
      fore m t u c h a b = ap (λ (x : ℕ). bit x c && (has w cw₂ (partner c) t && has w cw₂ c u)) (z.sides m ∙ side-fore m h) ∙ go (bit (side w cw₀ m) c) refl
        where
          go : (x : Bool) → bit (side w cw₀ m) c ≡ x → (x && (has w cw₂ (partner c) t && has w cw₂ c u)) ≡ (x && (has w cw₀ (c + 32) t && has w cw₀ c u))
          go true e =
              let l = s.low m c h e in
              let p : partner c ≡ c + 32 = omega arith in
              ap₂ ◌&&◌ (ap (λ (k : ℕ). has w cw₂ k t) p ∙ entry_first (c + 32) t (omega arith) (omega arith) a) (entry_first c u (omega arith) (omega arith) b)
          go false e = refl

      links-fore : (m : ℕ) → m < 8 → (t u : ℕ) → t < w * 64 → u < w * 64 → linked_by w cw₂ (side w cw₂ m) t u ≡ Lk ms ln m t u
      unfolding linked_by
      links-fore m h t u a b =
          ap not (any-ext (λ c. bit (side w cw₂ m) c && (has w cw₂ (partner c) t && has w cw₂ c u)) (against m t u) 64 (λ c l. fore m t u c h a b))
          ∙ against-link m t u 64 h a b (omega arith) ∙ link-field ms ln m t u h

      back : (m t u j : ℕ) → 8 ≤ m → m < 16 → t < w * 64 → u < w * 64 → j < 32
          → (bit (side w cw₂ m) (32 + j) && (has w cw₂ (partner (32 + j)) t && has w cw₂ (32 + j) u)) ≡ against (m - 8) u t j
      back m t u j g h a b l =
          ap (λ x. x && (has w cw₂ (partner (32 + j)) t && has w cw₂ (32 + j) u)) (ap (λ (x : ℕ). bit x (32 + j)) (z.sides m ∙ side-back m g h) ∙ up-high (side w cw₀ (m - 8)) j l)
          ∙ go (bit (side w cw₀ (m - 8)) j) refl
        where
          go : (x : Bool) → bit (side w cw₀ (m - 8)) j ≡ x → (x && (has w cw₂ (partner (32 + j)) t && has w cw₂ (32 + j) u)) ≡ (x && (has w cw₀ (j + 32) u && has w cw₀ j t))
          go true e =
              let q = s.low (m - 8) j (omega arith) e in
              let p : partner (32 + j) ≡ j = omega arith in
              ap₂ ◌&&◌ (ap (λ (k : ℕ). has w cw₂ k t) p ∙ entry_first j t (omega arith) (omega arith) a)
              (ap (λ (k : ℕ). has w cw₂ k u) (add_comm 32 j) ∙ entry_first (j + 32) u (omega arith) (omega arith) b)
              ∙ and_comm (has w cw₀ j t) (has w cw₀ (j + 32) u)
          go false e = refl

      back_none : (m t u c : ℕ) → 8 ≤ m → m < 16 → c < 32 → (bit (side w cw₂ m) c && (has w cw₂ (partner c) t && has w cw₂ c u)) ≡ false
      back_none m t u c g h l =
          ap (λ x. x && (has w cw₂ (partner c) t && has w cw₂ c u)) (ap (λ (x : ℕ). bit x c) (z.sides m ∙ side-back m g h) ∙ up-low (side w cw₀ (m - 8)) c l)

      links-back : (m : ℕ) → 8 ≤ m → m < 16 → (t u : ℕ) → t < w * 64 → u < w * 64 → linked_by w cw₂ (side w cw₂ m) t u ≡ Lk ms ln m t u
      unfolding linked_by
      links-back m g h t u a b =
          let K : ℕ → Bool = λ c. bit (side w cw₂ m) c && (has w cw₂ (partner c) t && has w cw₂ c u) in
          ap not (any-add K 32 32 ∙ ap₂ ◌||◌ (any_none K 32 (λ c l. back_none m t u c g h l)) (any-ext (λ j. K (32 + j)) (against (m - 8) u t) 32 (λ j l. back m t u j g h a b l)))
          ∙ against-link (m - 8) u t 32 (omega arith) b a (omega arith) ∙ link-back ms ln m t u g

      pub words-done : w * 64 + 16 ≤ length cw₂ → Conditions ms ln w cw₂
      words-done room = record { room = room; links = λ m h t u a b. ⊎_elim (λ l. links-fore m l t u a b) (λ l. links-back m l h t u a b) (lt-or-le m 8); refuse = refuse }
