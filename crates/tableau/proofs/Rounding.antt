-- A round by words: that no need is lacking means what the elimination asks, and the loop over the needs. Assumes nothing.
use mathlib.Core.Path.{◌≡◌, refl, sym, ap, ap₂, ◌∙◌}
use mathlib.Core.Bool.{Bool, not-not, true, false, not, ◌&&◌, and-true, and-false, and_assoc, ◌||◌, cond, true≢false}
use mathlib.Core.List.{List, [], ◌∷◌}
use mathlib.Core.Logic.{◌⊎◌, inl, inr, ⊎_elim}
use Prim.Native.Nat.{ℕ, ◌+◌, ◌*◌, ◌^◌, ◌≤◌, ◌<◌}
use native.Mathlib.Omega.{arith}
use native.Mathlib.Numerals.{add-one}
use borrow.Author.Tests.{eq-eqb, ne_eqb}
use lib.Dec.{eqb}
use lib.ListN.{length, get_or}
use Rattle.ctl.specs.Elimination as E
use Rattle.ctl.specs.Lists as L
use Rattle.ctl.proofs.BoolLaws.{and_both, and-make, both_ways, not-or, T-cast, T-cast⁻, T_true, true-T}
use Rattle.ctl.proofs.EliminationLaws.{round-elem}
use Rattle.ctl.proofs.ListLaws.{all_in, all-out, below_in, elem-keep}
use Rattle.ctl.proofs.ModeLaws.{modes-in}
use Rattle.ctl.specs.ClosedFamily.{one_of}
use Rattle.ctl.specs.Equality.{tag}
use Rattle.ctl.specs.Formula.{Form, tru, fls, lit, nlit, and, or, ex, ax, eu, au, er, ar}
use Rattle.ctl.specs.Lists.{elem, imp}
use Rattle.ctl.specs.Modes.{all_modes, has_mode, modes, single}
use Rattle.wordset.proofs.BelowLaws.{all-elim, all-intro, same_or}
use Rattle.wordset.proofs.PackLaws.{packed-ext, packed-held, packed-self, packed-twice}
use Rattle.wordset.specs.Below.{all_below}
use Rattle.wordset.specs.Words.{member, packed}
use Rattle.members.specs.Members.{forms, tag_w}
use Rattle.truth.specs.Tables.{arg_at, form, left_at, tag_at}
use Rattle.truth.specs.Blocks.{has, list_of}
use Rattle.truth.specs.Truths.{Tr, true_at}
use Rattle.truth.proofs.ListWords.{held, list-elem}
use Rattle.truth.proofs.MemberLaws.{all-forms, form-tag, tag_of}
use Rattle.truth.proofs.TruthLaws.{truth-bit}
use Rattle.conditions.specs.Conditions.{Lk}
use Rattle.needs.specs.NeedWords.{mode_w, need_of, whole_w}
use Rattle.needs.specs.Needs.{Need, of_field, of-mode, of-until}
use Rattle.needs.proofs.NeedLaws.{field-mode, field-tag, need-mode, need-tag}
use Rattle.tableau.specs.Families.{Finds, Follows, Good, Next, Ready, Round, Within, ex_along, has_next, has_nexts, lacks, stays}
use Rattle.tableau.proofs.Asks.{few-whole, follow-ex, follow-from, follow-none, follow-to}
use Rattle.tableau.proofs.SearchLaws.{left-lacks}

-- ---- what members ask

not-and : (b e : Bool) → not (b && not e) ≡ (not b || e)
not-and true true = refl
not-and true false = refl
not-and false e = refl

-- a member that asks for nothing
good-other : (ms ln fam : List ℕ) (p : Form) → (tag p ≡ 6 → ⊥) → (tag p ≡ 8 → ⊥) → (tag p ≡ 9 → ⊥) → Good ms ln fam p ≡ fam
unfolding E.good
good-other ms ln fam tru f g h = refl
good-other ms ln fam fls f g h = refl
good-other ms ln fam (lit k) f g h = refl
good-other ms ln fam (nlit k) f g h = refl
good-other ms ln fam (and p q) f g h = refl
good-other ms ln fam (or p q) f g h = refl
good-other ms ln fam (ex A p) f g h = absurd (f refl)
good-other ms ln fam (ax A p) f g h = refl
good-other ms ln fam (eu A p q) f g h = absurd (g refl)
good-other ms ln fam (au A p q) f g h = absurd (h refl)
good-other ms ln fam (er A p q) f g h = refl
good-other ms ln fam (ar A p q) f g h = refl

-- all modes are among these
all-modes : (A : ℕ) → L.all_of (has_mode 65535) (modes A) ≡ true
all-modes A = true-T _ (all_in (has_mode 65535) (modes A) (λ m k. all-out (has_mode 65535) {l = all_modes} tt (modes-in A k).0))

mode-among : (m : ℕ) → m < 16 → has_mode 65535 m ≡ true
mode-among m h = true-T _ (all-out (has_mode 65535) {l = all_modes} tt (below_in h))

-- who keeps its place, by the kind of the need
module _ (ms ln : List ℕ) (w : ℕ) (tw cw src : List ℕ) (x : ℕ) where
  stays-ex : tag_w x ≡ 6 → (t : ℕ) → stays ms ln w tw cw src x t ≡ has_next w tw cw (member src) x t
  unfolding stays
  stays-ex e t = ap (λ b. cond b (has_next w tw cw (member src) x t) (not (has w tw (whole_w x) t) || elem t (Good ms ln (list_of w src) (form ms (whole_w x))))) (eq-eqb (tag_w x) 6 e)

  stays-other : (tag_w x ≡ 6 → ⊥) → (t : ℕ) → stays ms ln w tw cw src x t ≡ (not (has w tw (whole_w x) t) || elem t (Good ms ln (list_of w src) (form ms (whole_w x))))
  unfolding stays
  stays-other e t = ap (λ b. cond b (has_next w tw cw (member src) x t) (not (has w tw (whole_w x) t) || elem t (Good ms ln (list_of w src) (form ms (whole_w x))))) (ne_eqb (tag_w x) 6 e)

module _ {ms ln : List ℕ} {w : ℕ} {tw cw ns : List ℕ} (r : Ready ms ln w tw cw ns) (src : List ℕ) (t : ℕ) (l : t < w * 64) (m : member src t ≡ true) where
  abbrev Lacks : Form → Bool
  Lacks = lacks ms ln (list_of w src) t

  unlacking : (i : ℕ) → not (Lacks (form ms i)) ≡ (not (true_at ms ln i t) || elem t (Good ms ln (list_of w src) (form ms i)))
  unfolding lacks
  unlacking i = not-and (true_at ms ln i t) (elem t (Good ms ln (list_of w src) (form ms i)))

  -- EX asks what is asked of every EX that is to follow along all modes
  ex-lacks : (i : ℕ) → i < length ms → tag_at ms i ≡ 6 → not (Lacks (form ms i)) ≡ Follows ms ln (list_of w src) 65535 t (form ms i)
  unfolding E.good one_of
  ex-lacks i h e =
      unlacking i
      ∙ ap (λ x. not (true_at ms ln i t) || x)
      (ap (elem t) (ap (Good ms ln (list_of w src)) (form-tag r.table i h 6 e))
      ∙ elem-keep (λ t. imp (single (arg_at ms i) && Tr ms ln t (ex (arg_at ms i) (form ms (left_at ms i)))) (N t)) (list_of w src) t
      ∙ ap₂ (λ a f. a && imp (single (arg_at ms i) && Tr ms ln t f) (N t)) (list-elem w src t l ∙ m) (sym (form-tag r.table i h 6 e)))
      ∙ same (true_at ms ln i t) (single (arg_at ms i)) (N t)
      ∙ sym (follow-ex r (list_of w src) 65535 t i h e ∙ ap (λ b. imp (single (arg_at ms i) && b) (imp (true_at ms ln i t) (N t))) (all-modes (arg_at ms i)) ∙ ap (λ b. imp b (imp (true_at ms ln i t) (N t))) (and-true (single (arg_at ms i))))
    where
      N : ℕ → Bool
      N t = Next ms ln (list_of w src) (arg_at ms i) (form ms (left_at ms i)) t

      same : (b s n : Bool) → (not b || (true && imp (s && b) n)) ≡ imp s (imp b n)
      same true true n = refl
      same true false n = refl
      same false true n = refl
      same false false n = refl

  other-lacks : (i : ℕ) → i < length ms → (tag_at ms i ≡ 6 → ⊥) → (tag_at ms i ≡ 8 → ⊥) → (tag_at ms i ≡ 9 → ⊥) → not (Lacks (form ms i)) ≡ true
  other-lacks i h f g d =
      let q = sym (tag_of r.table i h) in
      unlacking i
      ∙ ap (λ x. not (true_at ms ln i t) || elem t x) (good-other ms ln (list_of w src) (form ms i) (λ e. f (q ∙ e)) (λ e. g (q ∙ e)) (λ e. d (q ∙ e)))
      ∙ ap (λ x. not (true_at ms ln i t) || x) (list-elem w src t l ∙ m) ∙ ends (true_at ms ln i t)
    where
      ends : (b : Bool) → (not b || true) ≡ true
      ends true = refl
      ends false = refl

  -- the need of an EU or an AU
  stays-until : (i : ℕ) → i < length ms → 8 ≤ tag_at ms i → stays ms ln w tw cw src (need_of ms i) t ≡ not (Lacks (form ms i))
  stays-until i h g =
      stays-other ms ln w tw cw src (need_of ms i) (λ e. (let q = need-tag ms i in omega arith)) t
      ∙ ap until_by (few-whole r i h) ∙ ap (λ x. not x || elem t (Good ms ln (list_of w src) (form ms i))) (truth-bit r.truths i h t l) ∙ sym (unlacking i)
    where
      until_by : ℕ → Bool
      until_by k = not (has w tw k t) || elem t (Good ms ln (list_of w src) (form ms k))

  module _ (s : all_below (length ns) (λ j. stays ms ln w tw cw src (get_or ns j 0) t) ≡ true) where
    nexts : has_nexts w tw cw ns (member src) 65535 t ≡ true
    unfolding has_nexts
    nexts = all-intro (λ j. imp (ex_along 65535 (get_or ns j 0)) (has_next w tw cw (member src) (get_or ns j 0) t)) (length ns)
        (λ j h. one (get_or ns j 0) (all-elim (λ j. stays ms ln w tw cw src (get_or ns j 0) t) (length ns) s j h) (same_or (tag_w (get_or ns j 0)) 6))
      where
        ends : (b : Bool) → imp b true ≡ true
        ends true = refl
        ends false = refl

        one : (x : ℕ) → stays ms ln w tw cw src x t ≡ true → (tag_w x ≡ 6) ⊎ (tag_w x ≡ 6 → ⊥) → imp (ex_along 65535 x) (has_next w tw cw (member src) x t) ≡ true
        one x e (inl g) = ap (imp (ex_along 65535 x)) (sym (stays-ex ms ln w tw cw src x g t) ∙ e) ∙ ends (ex_along 65535 x)
        one x e (inr g) = ap (λ b. imp (b && has_mode 65535 (mode_w x)) (has_next w tw cw (member src) x t)) (ne_eqb (tag_w x) 6 g)

    unlacked : (i : ℕ) → i < length ms → not (Lacks (form ms i)) ≡ true
    unlacked i h = go (same_or (tag_at ms i) 6) (same_or (tag_at ms i) 8) (same_or (tag_at ms i) 9)
      where
        until : 8 ≤ tag_at ms i → tag_at ms i ≤ 9 → not (Lacks (form ms i)) ≡ true
        until a b =
            let q = r.listed.untils i h a b in
            sym (stays-until i h a) ∙ ap (λ x. stays ms ln w tw cw src x t) (sym q.2) ∙ all-elim (λ j. stays ms ln w tw cw src (get_or ns j 0) t) (length ns) s q.0 q.1

        go : (tag_at ms i ≡ 6) ⊎ (tag_at ms i ≡ 6 → ⊥) → (tag_at ms i ≡ 8) ⊎ (tag_at ms i ≡ 8 → ⊥) → (tag_at ms i ≡ 9) ⊎ (tag_at ms i ≡ 9 → ⊥) → not (Lacks (form ms i)) ≡ true
        go (inl e) b c = ex-lacks i h e ∙ follow-from r src t l 65535 nexts i h
        go (inr a) (inl e) c = until (omega arith) (omega arith)
        go (inr a) (inr b) (inl e) = until (omega arith) (omega arith)
        go (inr a) (inr b) (inr c) = other-lacks i h a b c

  module _ (s : (i : ℕ) → i < length ms → not (Lacks (form ms i)) ≡ true) where
    follows : has_nexts w tw cw ns (member src) 65535 t ≡ true
    follows = follow-to r src t l 65535 (λ i h. ⊎_elim (λ e. sym (ex-lacks i h e) ∙ s i h) (λ e. sym (follow-none r (list_of w src) 65535 t i h e)) (same_or (tag_at ms i) 6))

    stayed : (j : ℕ) → j < length ns → stays ms ln w tw cw src (get_or ns j 0) t ≡ true
    unfolding has_nexts
    stayed j h = go (r.listed.only j h) refl
      where
        x : ℕ
        x = get_or ns j 0

        next : tag_w x ≡ 6 → mode_w x < 16 → stays ms ln w tw cw src x t ≡ true
        next g k =
            stays-ex ms ln w tw cw src x g t
            ∙ ap (λ b. imp b (has_next w tw cw (member src) x t)) (sym (and-make (eqb (tag_w x) 6) (has_mode 65535 (mode_w x)) (eq-eqb (tag_w x) 6 g) (mode-among (mode_w x) k)))
            ∙ all-elim (λ j. imp (ex_along 65535 (get_or ns j 0)) (has_next w tw cw (member src) (get_or ns j 0) t)) (length ns) follows j h

        go : Need ms x → x ≡ x → stays ms ln w tw cw src x t ≡ true
        go (of_field n f q) e =
            next (ap tag_w q ∙ field-tag (length ms) n f r.few) (let y : mode_w x ≡ n = ap mode_w q ∙ field-mode (length ms) n f r.few in omega arith)
        go (of-mode i k f g d a b q) e =
            next (ap tag_w q ∙ need-tag ms i ∙ a) (let y : mode_w x ≡ k = ap mode_w q ∙ need-mode ms i k (omega arith) b in omega arith)
        go (of-until i f g d q) e = ap (λ y. stays ms ln w tw cw src y t) q ∙ stays-until i f g ∙ s i f

-- ---- the loop over the needs

-- t is in src, and keeps its place as far as the first j needs go
abbrev pub lasts : List ℕ → List ℕ → ℕ → List ℕ → List ℕ → List ℕ → List ℕ → ℕ → ℕ → Bool
lasts ms ln w tw cw ns src j t = member src t && all_below j (λ k. stays ms ln w tw cw src (get_or ns k 0) t)

pub record Rounded (w : ℕ) (tw cw ns src d₀ copy₀ todo₀ v₀ rest₀ dst copy todo v rest : List ℕ) (j : ℕ) : Type 0 where
  pub within : j ≤ length ns
  pub long : length dst ≡ length d₀
  pub long_copy : length copy ≡ length copy₀
  pub long_todo : length todo ≡ length todo₀
  pub long_v : length v ≡ length v₀
  pub long_rest : length rest ≡ length rest₀
  pub is : (ms ln : List ℕ) → Ready ms ln w tw cw ns → dst ≡ packed w (lasts ms ln w tw cw ns src j) d₀

module _ {w : ℕ} {tw cw ns src : List ℕ} where
  pub round-start : (d : List ℕ) {d₀ copy₀ todo₀ v₀ rest₀ : List ℕ} → w ≤ length d → d₀ ≡ packed w (member src) d → Rounded w tw cw ns src d₀ copy₀ todo₀ v₀ rest₀ d₀ copy₀ todo₀ v₀ rest₀ 0
  unfolding all_below
  round-start d {d₀} h e = record {
    within = omega arith;
    long = refl;
    long_copy = refl;
    long_todo = refl;
    long_v = refl;
    long_rest = refl;
    is = λ ms ln r. packed-held (member src) d d₀ w h e ∙ packed-ext (member src) (lasts ms ln w tw cw ns src 0) d₀ w (λ t l. sym (and-true (member src t)));
  }

  module _ {d₀ copy₀ todo₀ v₀ rest₀ dst copy todo v rest : List ℕ} {j : ℕ} (s : Rounded w tw cw ns src d₀ copy₀ todo₀ v₀ rest₀ dst copy todo v rest j) (room : w ≤ length d₀) where
    pub round-on : (dst' copy' todo' v' rest' : List ℕ) → j < length ns → length dst' ≡ length dst → length copy' ≡ length copy → length todo' ≡ length todo → length v' ≡ length v → length rest' ≡ length rest
        → ((ms ln : List ℕ) → Ready ms ln w tw cw ns → dst' ≡ packed w (λ t. member dst t && stays ms ln w tw cw src (get_or ns j 0) t) dst) → Rounded w tw cw ns src d₀ copy₀ todo₀ v₀ rest₀ dst' copy' todo' v' rest' (j + 1)
    unfolding all_below
    round-on dst' copy' todo' v' rest' h ld lc lt lv lr q = record {
      within = omega arith;
      long = ld ∙ s.long;
      long_copy = lc ∙ s.long_copy;
      long_todo = lt ∙ s.long_todo;
      long_v = lv ∙ s.long_v;
      long_rest = lr ∙ s.long_rest;
      is = λ ms ln r.
          (let before : ℕ → Bool = lasts ms ln w tw cw ns src j in
          let last : ℕ → Bool = λ t. member dst t && stays ms ln w tw cw src (get_or ns j 0) t in
          packed-twice before last d₀ dst dst' w room (s.is ms ln r) (q ms ln r)
          ∙ packed-ext last (lasts ms ln w tw cw ns src (j + 1)) d₀ w
          (λ t l. ap (λ x. x && stays ms ln w tw cw src (get_or ns j 0) t) (held before d₀ dst w room (s.is ms ln r) t l) ∙ and_assoc (member src t) _ _ ∙ ap (λ k. lasts ms ln w tw cw ns src k t) (sym (add-one j))));
    }

    -- what is left is of the family
    pub round-within : {ms ln : List ℕ} → Ready ms ln w tw cw ns → Within w dst src
    round-within {ms} {ln} r t l m = (and_both (member src t) _ (sym (held (lasts ms ln w tw cw ns src j) d₀ dst w room (s.is ms ln r) t l) ∙ m)).0

none-all : (f : Form → Bool) (l : List Form) → L.all_of (λ p. not (f p)) l ≡ not (L.any_of f l)
none-all f [] = refl
none-all f (p ∷ l) = ap (λ b. not (f p) && b) (none-all f l) ∙ sym (not-or (f p) (L.any_of f l))

-- ctl's test of a type against a family
abbrev pub Fails : List ℕ → List ℕ → List ℕ → ℕ → Bool
Fails ms ln = E.fails (forms ms) (Tr ms ln) (Lk ms ln)

unfailing : (ms ln fam : List ℕ) (t : ℕ) → all_below (length ms) (λ j. not (lacks ms ln fam t (form ms j))) ≡ not (Fails ms ln fam t)
unfolding lacks E.fails
unfailing ms ln fam t = all-forms ms (λ p. not (lacks ms ln fam t p)) ∙ none-all (lacks ms ln fam t) (forms ms)

-- all needs are done
module _ {ms ln : List ℕ} {w : ℕ} {tw cw ns : List ℕ} (r : Ready ms ln w tw cw ns) (src : List ℕ) where
  stays-are : (t : ℕ) → t < w * 64 → (member src t && all_below (length ns) (λ j. stays ms ln w tw cw src (get_or ns j 0) t)) ≡ elem t (Round ms ln (list_of w src))
  stays-are t l =
      same (member src t) _ _ (λ m. both_ways _ _
      (λ s. T-cast (unfailing ms ln (list_of w src) t) (T_true _ (all-intro (λ i. not (lacks ms ln (list_of w src) t (form ms i))) (length ms) (unlacked r src t l m (true-T _ s)))))
      (λ s. T_true _ (all-intro (λ j. stays ms ln w tw cw src (get_or ns j 0) t) (length ns)
      (stayed r src t l m (all-elim (λ i. not (lacks ms ln (list_of w src) t (form ms i))) (length ms) (true-T _ (T-cast⁻ (unfailing ms ln (list_of w src) t) s)))))))
      ∙ sym (round-elem (forms ms) (Tr ms ln) (Lk ms ln) (list_of w src) t ∙ ap (λ x. x && not (Fails ms ln (list_of w src) t)) (list-elem w src t l))
    where
      same : (a b c : Bool) → (a ≡ true → b ≡ c) → (a && b) ≡ (a && c)
      same true b c f = f refl
      same false b c f = refl

  pub round-end : (d : List ℕ) {d₀ copy₀ todo₀ v₀ rest₀ dst copy todo v rest : List ℕ} {j : ℕ} → Rounded w tw cw ns src d₀ copy₀ todo₀ v₀ rest₀ dst copy todo v rest j → length ns ≤ j → w ≤ length d → d₀ ≡ packed w (member src) d
      → dst ≡ packed w (λ t. elem t (Round ms ln (list_of w src))) d
  round-end d {d₀} {dst = dst} {j = j} s h k e =
      let q : j ≡ length ns = (let a = s.within in omega arith) in
      packed-twice (member src) (lasts ms ln w tw cw ns src j) d d₀ dst w k e (s.is ms ln r)
      ∙ packed-ext (lasts ms ln w tw cw ns src j) (λ t. elem t (Round ms ln (list_of w src))) d w
      (λ t l. ap (λ n. lasts ms ln w tw cw ns src n t) q ∙ stays-are t l)

-- ---- one need

module _ (ms ln : List ℕ) (w : ℕ) (tw cw src dst : List ℕ) (x : ℕ) where
  -- what is left of dst
  pub kept-as : (dst' : List ℕ) (P : ℕ → Bool) → dst' ≡ packed w P dst → ((t : ℕ) → t < w * 64 → P t ≡ (member dst t && stays ms ln w tw cw src x t)) → dst' ≡ packed w (λ t. member dst t && stays ms ln w tw cw src x t) dst
  kept-as dst' P q f = q ∙ packed-ext P (λ t. member dst t && stays ms ln w tw cw src x t) dst w f

  pub kept-all : ((k : ℕ) → k < w → get_or dst k 0 < 2 ^ 64) → ((t : ℕ) → t < w * 64 → member dst t ≡ (member dst t && stays ms ln w tw cw src x t)) → dst ≡ packed w (λ t. member dst t && stays ms ln w tw cw src x t) dst
  kept-all small = kept-as dst (member dst) (packed-self dst w small)

  -- an EX
  pub ex-stays : (g : ℕ) → g ≡ tag_w x → g ≡ 6 → (t : ℕ) {b : Bool} → b ≡ (member dst t && has_next w tw cw (member src) x t) → b ≡ (member dst t && stays ms ln w tw cw src x t)
  ex-stays g e f t q = q ∙ ap (λ b. member dst t && b) (sym (stays-ex ms ln w tw cw src x (sym e ∙ f) t))

  -- an EU or an AU, by the copy that a search leaves
  module _ (g i : ℕ) (e : g ≡ tag_w x) (f : g ≡ 6 → ⊥) (ei : whole_w x ≡ i) (room : w ≤ length src) (sub : Within w dst src) (copy : List ℕ) (found : Finds ms ln w tw src dst i copy) where
    stays-copy : (t : ℕ) → t < w * 64 → (member dst t && not (member copy t && has w tw (whole_w x) t)) ≡ (member dst t && stays ms ln w tw cw src x t)
    stays-copy t l =
        go (member dst t) (member copy t) (has w tw (whole_w x) t) _
        (λ d h. left-lacks ms ln w tw src dst i room sub copy found t l d (ap (λ k. has w tw k t) (sym ei) ∙ h) ∙ ap (λ k. not (elem t (Good ms ln (list_of w src) (form ms k)))) (sym ei))
        ∙ ap (λ b. member dst t && b) (sym (stays-other ms ln w tw cw src x (λ y. f (e ∙ y)) t))
      where
        go : (d c h e : Bool) → (d ≡ true → h ≡ true → c ≡ not e) → (d && not (c && h)) ≡ (d && (not h || e))
        go true c true e q = ap not (and-true c ∙ q refl refl) ∙ not-not e
        go true c false e q = ap not (and-false c)
        go false c h e q = refl

    -- those that are left in it
    pub until-leave : {j : ℕ} → j ≡ whole_w x → (v : List ℕ) → ((t : ℕ) → t < w * 64 → member v t ≡ (member copy t && has w tw j t)) → (t : ℕ) → t < w * 64 → (member dst t && not (member v t)) ≡ (member dst t && stays ms ln w tw cw src x t)
    until-leave q v h t l = ap (λ b. member dst t && not b) (h t l ∙ ap (λ j. member copy t && has w tw j t) q) ∙ stays-copy t l

    -- none is left
    pub until-stay : ((t : ℕ) → t < w * 64 → member dst t ≡ true → has w tw (whole_w x) t ≡ true → member copy t ≡ false) → (t : ℕ) → t < w * 64 → member dst t ≡ (member dst t && stays ms ln w tw cw src x t)
    until-stay none t l = all (member dst t) (member copy t) (has w tw (whole_w x) t) (none t l) ∙ stays-copy t l
      where
        all : (d c h : Bool) → (d ≡ true → h ≡ true → c ≡ false) → d ≡ (d && not (c && h))
        all true true true p = absurd (true≢false (p refl refl))
        all true true false p = refl
        all true false h p = refl
        all false c h p = refl
