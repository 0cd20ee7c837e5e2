-- The blocks of a listed need lie within the truth words, and a need that is no EX is that of an EU or an AU. Assumes nothing.
use mathlib.Core.Path.{◌≡◌, refl, sym, ap, ap₂, ◌∙◌}
use mathlib.Core.Bool.{Bool, true, false, not, ◌&&◌, ◌||◌, cond, and-true, and_assoc, true≢false}
use mathlib.Core.List.{List}
use Prim.Native.Nat.{ℕ, ◌+◌, ◌*◌, ◌≤◌, ◌<◌}
use native.Mathlib.Numerals.{add-one}
use native.Mathlib.Omega.{arith}
use borrow.Author.Tests.{eq-eqb, eqb-true, ne_eqb}
use lib.Dec.{eqb}
use lib.ListN.{length}
use Rattle.ctl.proofs.BoolLaws.{and_both}
use Rattle.ctl.specs.Lists.{imp}
use Rattle.ctl.specs.Modes.{has_mode}
use Rattle.wordset.proofs.BelowLaws.{any_false}
use Rattle.wordset.specs.Below.{all_below, any_below}
use Rattle.wordset.specs.Words.{member, packed}
use Rattle.members.specs.Members.{arg_w, left_w, right_w, tag_w}
use Rattle.truth.specs.Tables.{left_at, right_at, tag_at}
use Rattle.truth.specs.Blocks.{has}
use Rattle.truth.proofs.BlockLaws.{block_in}
use Rattle.truth.proofs.ListWords.{held, minus-member}
use Rattle.conditions.specs.Entries.{linked_to, side}
use Rattle.image.proofs.Draining.{linked-ext}
use Rattle.needs.specs.NeedWords.{mode_w, whole_w}
use Rattle.needs.specs.Needs.{Among, Need, of_field, of-mode, of-until}
use Rattle.needs.proofs.NeedLaws.{field-left, field-mode, field-tag, field-whole, need-left, need-mode, need-right, need-tag}
use Rattle.tableau.specs.Families.{Ready, Until, ex_along, has_next, has_nexts, ranked, wants}
use Rattle.tableau.proofs.Asks.{few-whole}

module _ {ms ln : List ℕ} {w : ℕ} {tw cw ns : List ℕ} (r : Ready ms ln w tw cw ns) where
  pub need-of : {x : ℕ} → Among ns x → Need ms x
  need-of {x} a = rw (sym a.2) (r.listed.only a.0 a.1)

  -- one of the blocks
  block : (i : ℕ) → i < length ms + 9 → i * w + w ≤ length tw
  block i h = let a = block_in w i (length ms + 9) h in let b = r.fields.room in omega arith

  whole-block : {x : ℕ} → Need ms x → whole_w x * w + w ≤ length tw
  whole-block {x} (of_field f h q) = block (whole_w x) (let e : whole_w x ≡ length ms + f = ap whole_w q ∙ field-whole (length ms) f h r.few in omega arith)
  whole-block {x} (of-mode i m h k l g a q) = block (whole_w x) (let e : whole_w x ≡ i = ap whole_w q ∙ few-whole r i h in omega arith)
  whole-block {x} (of-until i h g k q) = block (whole_w x) (let e : whole_w x ≡ i = ap whole_w q ∙ few-whole r i h in omega arith)

  left-block : {x : ℕ} → Need ms x → left_w x * w + w ≤ length tw
  left-block {x} (of_field f h q) = block (left_w x) (let e : left_w x ≡ length ms + 8 = ap left_w q ∙ field-left (length ms) f h r.few in omega arith)
  left-block {x} (of-mode i m h k l g a q) = block (left_w x) (let e : left_w x ≡ left_at ms i = ap left_w q ∙ need-left ms i in let o = (r.table.operands i h (omega arith)).0 in omega arith)
  left-block {x} (of-until i h g k q) = block (left_w x) (let e : left_w x ≡ left_at ms i = ap left_w q ∙ need-left ms i in let o = (r.table.operands i h (omega arith)).0 in omega arith)

  mode_small : {x : ℕ} → Need ms x → tag_w x ≡ 6 → mode_w x < 16
  mode_small {x} (of_field f h q) t = let e : mode_w x ≡ f = ap mode_w q ∙ field-mode (length ms) f h r.few in omega arith
  mode_small {x} (of-mode i m h k l g a q) t = let e : mode_w x ≡ m = ap mode_w q ∙ need-mode ms i m (omega arith) a in omega arith
  mode_small {x} (of-until i h g k q) t = let e : tag_w x ≡ tag_at ms i = ap tag_w q ∙ need-tag ms i in absurd (omega arith)

  pub until-of : {x : ℕ} → Need ms x → (tag_w x ≡ 6 → ⊥) → (i : ℕ) × Until ms x i
  until-of {x} (of_field f h q) t = absurd (t (ap tag_w q ∙ field-tag (length ms) f h r.few))
  until-of {x} (of-mode i m h k l g a q) t = absurd (t (ap tag_w q ∙ need-tag ms i ∙ g))
  until-of {x} (of-until i h g k q) t = (i, record { inside = h; low = g; high = k; is = q })

  -- what a call for a need asks
  pub among-blocks : {x : ℕ} → Among ns x → (whole_w x * w + w ≤ length tw) × (left_w x * w + w ≤ length tw)
  among-blocks a = let n = need-of a in (whole-block n, left-block n)

  pub among-mode : {x : ℕ} → Among ns x → tag_w x ≡ 6 → mode_w x < 16
  among-mode a = mode_small (need-of a)

  module _ {x i : ℕ} (k : Until ms x i) where
    pub until-whole : whole_w x ≡ i
    until-whole = ap whole_w k.is ∙ few-whole r i k.inside

    pub until-left : left_w x ≡ left_at ms i
    until-left = ap left_w k.is ∙ need-left ms i

    pub until-right : right_w x ≡ right_at ms i
    until-right = ap right_w k.is ∙ need-right ms i

    pub right-block : right_w x * w + w ≤ length tw
    right-block = block (right_w x) (let e = until-right in let h = k.inside in let o = (r.table.operands i h (let g = k.low in omega arith)).1 in omega arith)

-- a need that is none of these takes nothing away
pub follow-off : (a x : ℕ) (b : Bool) → b ≡ ex_along a x → b ≡ false → (d h : Bool) → d ≡ (d && imp (ex_along a x) h)
follow-off a x true e f d h = absurd (true≢false f)
follow-off a x false e f d h = sym (ap (λ y. d && imp y h) (sym e) ∙ and-true d)

-- one of these asks for its next
pub follow-on : (a x : ℕ) (b : Bool) → b ≡ ex_along a x → b ≡ true → (h : Bool) → h ≡ imp (ex_along a x) h
follow-on a x false e f h = absurd (true≢false (sym f))
follow-on a x true e f h = ap (λ y. imp y h) e

pub ranked-member : (w : ℕ) (src copy : List ℕ) → w ≤ length src → (t : ℕ) → t < w * 64 → member (ranked w src copy) t ≡ (member src t && not (member copy t))
ranked-member w src copy room = minus-member src copy (ranked w src copy) w room refl

-- the ranked types of a block
pub pick-ranked : (tw src copy rest₀ rest : List ℕ) (w i : ℕ) → w ≤ length src → w ≤ length rest₀ → rest ≡ packed w (λ t. (member src t && not (member copy t)) && has w tw i t) rest₀
    → (t : ℕ) → t < w * 64 → member rest t ≡ (member (ranked w src copy) t && has w tw i t)
pick-ranked tw src copy rest₀ rest w i h k q t l =
    held (λ t. (member src t && not (member copy t)) && has w tw i t) rest₀ rest w k q t l ∙ ap (λ b. b && has w tw i t) (sym (ranked-member w src copy h t l))

-- ---- those of d stay that have not the need x, an EX, or whose next is in U

module _ (w : ℕ) (tw cw : List ℕ) (U : ℕ → Bool) (d : List ℕ) (x : ℕ) {i : ℕ} (ei : i ≡ whole_w x) where
  -- none has the need
  pub next-none : any_below (w * 64) (λ t. member d t && has w tw i t) ≡ false → (t : ℕ) → t < w * 64 → member d t ≡ (member d t && has_next w tw cw U x t)
  unfolding has_next
  next-none e t l = all (member d t) (has w tw i t) _ (any_false (λ t. member d t && has w tw i t) (w * 64) e t l) ∙ ap (λ j. member d t && (not (has w tw j t) || linked_to w cw (side w cw (mode_w x)) (λ c. U c && has w tw (left_w x) c) t)) ei
    where
      all : (d h n : Bool) → (d && h) ≡ false → d ≡ (d && (not h || n))
      all true true n e = absurd (true≢false e)
      all true false n e = refl
      all false h n e = refl

  -- v has those that have it, `rest` what it asks for
  module _ {p m : ℕ} (ep : p ≡ left_w x) (em : m ≡ mode_w x) (v rest : List ℕ) (f : (t : ℕ) → t < w * 64 → member v t ≡ (member d t && has w tw i t)) (g : (t : ℕ) → t < w * 64 → member rest t ≡ (U t && has w tw p t)) where
    pub next-kept : (t : ℕ) → t < w * 64 → (member d t && not (member v t && not (linked_to w cw (side w cw m) (member rest) t))) ≡ (member d t && has_next w tw cw U x t)
    unfolding has_next
    next-kept t l =
        ap₂ (λ a b. member d t && not (a && not b)) (f t l) (linked-ext w cw (side w cw m) (member rest) (λ c. U c && has w tw p c) t g) ∙ kept (member d t) (has w tw i t) _
        ∙ ap₂ (λ j b. member d t && (not (has w tw j t) || b)) ei (ap₂ (λ q n. linked_to w cw (side w cw n) (λ c. U c && has w tw q c) t) ep em)
      where
        kept : (d h n : Bool) → (d && not ((d && h) && not n)) ≡ (d && (not h || n))
        kept true true true = refl
        kept true true false = refl
        kept true false n = refl
        kept false h n = refl

    pub next-held : (d' : List ℕ) → w ≤ length d → d' ≡ packed w (λ t. member d t && not (member v t && not (linked_to w cw (side w cw m) (member rest) t))) d → (t : ℕ) → t < w * 64 → member d' t ≡ (member d t && has_next w tw cw U x t)
    next-held d' h q t l = held (λ t. member d t && not (member v t && not (linked_to w cw (side w cw m) (member rest) t))) d d' w h q t l ∙ next-kept t l

pub along-mode : (a x : ℕ) (b : Bool) → b ≡ ex_along a x → b ≡ true → (tag_w x ≡ 6 → mode_w x < 16) → mode_w x < 16
along-mode a x false e f g = absurd (true≢false (sym f))
along-mode a x true e f g = g (eqb-true (tag_w x) 6 (and_both (eqb (tag_w x) 6) _ (sym e)).0)

-- ---- the loop over the needs: those of d₀ are left that pass F for the first k

pub record Followed (F : ℕ → ℕ → Bool) (w n : ℕ) (d₀ v₀ rest₀ d v rest : List ℕ) (k : ℕ) : Type 0 where
  pub within : k ≤ n
  pub long : length d ≡ length d₀
  pub long_v : length v ≡ length v₀
  pub long_rest : length rest ≡ length rest₀
  pub is : (t : ℕ) → t < w * 64 → member d t ≡ (member d₀ t && all_below k (λ j. F j t))

module _ {F : ℕ → ℕ → Bool} {w n : ℕ} {d₀ v₀ rest₀ : List ℕ} where
  pub all_start : Followed F w n d₀ v₀ rest₀ d₀ v₀ rest₀ 0
  unfolding all_below
  all_start = record { within = omega arith; long = refl; long_v = refl; long_rest = refl; is = λ t l. sym (and-true (member d₀ t)) }

  module _ {d v rest : List ℕ} {k : ℕ} (s : Followed F w n d₀ v₀ rest₀ d v rest k) where
    pub all-on : (d' v' rest' : List ℕ) → k < n → length d' ≡ length d → length v' ≡ length v → length rest' ≡ length rest → ((t : ℕ) → t < w * 64 → member d' t ≡ (member d t && F k t)) → Followed F w n d₀ v₀ rest₀ d' v' rest' (k + 1)
    unfolding all_below
    all-on d' v' rest' h e g i f = record {
      within = omega arith;
      long = e ∙ s.long;
      long_v = g ∙ s.long_v;
      long_rest = i ∙ s.long_rest;
      is = λ t l. f t l ∙ ap (λ z. z && F k t) (s.is t l) ∙ and_assoc (member d₀ t) (all_below k (λ j. F j t)) (F k t) ∙ ap (λ m. member d₀ t && all_below m (λ j. F j t)) (sym (add-one k));
    }

    pub all_end : n ≤ k → (t : ℕ) → t < w * 64 → member d t ≡ (member d₀ t && all_below n (λ j. F j t))
    all_end h t l = let q : k ≡ n = (let a = s.within in omega arith) in s.is t l ∙ ap (λ m. member d₀ t && all_below m (λ j. F j t)) q

-- ---- what an EU asks, and what an AU asks

module _ (w : ℕ) (tw cw ns : List ℕ) (U : ℕ → Bool) (x t a g : ℕ) (e : g ≡ tag_w x) (ea : a ≡ arg_w x) where
  pub wants-eu : g ≡ 8 → any_below 16 (λ m. has_mode a m && linked_to w cw (side w cw m) U t) ≡ wants w tw cw ns U x t
  unfolding wants
  wants-eu f =
      ap (λ b. any_below 16 (λ m. has_mode b m && linked_to w cw (side w cw m) U t)) ea
      ∙ sym (ap (λ b. cond b (any_below 16 (λ m. has_mode (arg_w x) m && linked_to w cw (side w cw m) U t)) (has_nexts w tw cw ns U (arg_w x) t)) (eq-eqb (tag_w x) 8 (sym e ∙ f)))

  pub wants-au : (g ≡ 8 → ⊥) → has_nexts w tw cw ns U a t ≡ wants w tw cw ns U x t
  unfolding wants
  wants-au f =
      ap (λ b. has_nexts w tw cw ns U b t) ea
      ∙ sym (ap (λ b. cond b (any_below 16 (λ m. has_mode (arg_w x) m && linked_to w cw (side w cw m) U t)) (has_nexts w tw cw ns U (arg_w x) t)) (ne_eqb (tag_w x) 8 (λ q. f (e ∙ q))))
