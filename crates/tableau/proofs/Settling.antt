-- Rounds from one store into the other: what the two stores hold before a round, and after it. Assumes nothing.
use mathlib.Core.Path.{◌≡◌, refl, sym, ap, ap₂, ◌∙◌, subst}
use mathlib.Core.Bool.{Bool, true, false, not, beq, true≢false}
use mathlib.Core.List.{List}
use mathlib.Core.Logic.{⊎_elim}
use Prim.Native.Nat.{ℕ, zero, suc, ◌+◌, ◌*◌, ◌^◌, ◌≤◌, ◌<◌}
use native.Mathlib.Omega.{arith}
use native.Mathlib.Decide.{dec_le}
use native.Mathlib.Numerals.{add-one}
use lib.ListN.{length, get_or, drop}
use Rattle.ctl.specs.Elimination as E
use Rattle.ctl.proofs.BoolLaws.{T-cast, T-cast⁻}
use Rattle.ctl.proofs.EliminationLaws.{families-ascend, round-fails, rounds-only, survivors-only}
use Rattle.ctl.proofs.ListLaws.{Ascending, elem_in, elem_out, keep_all, keep-full, keep_out}
use Rattle.ctl.proofs.SortLaws.{ascending-same}
use Rattle.ctl.specs.Lists.{◌∈◌, elem, keep}
use Rattle.wordset.proofs.BelowLaws.{all-elim, all-intro, top}
use Rattle.wordset.proofs.CompareLaws.{beq-refl, beq-true}
use Rattle.wordset.proofs.PackLaws.{packed-self, equal-packed, pack_word, packed-ext, packed-over}
use Rattle.wordset.proofs.WordLaws.{drop-filled, length-filled}
use Rattle.wordset.specs.Below.{all_below, count_below}
use Rattle.wordset.specs.Words.{member, packed}
use Rattle.members.specs.Members.{forms}
use Rattle.truth.specs.Truths.{Tr}
use Rattle.conditions.specs.Conditions.{Lk}
use Rattle.tableau.specs.Families.{Ready, Round, Rounds, Survivors}
use Rattle.truth.specs.Blocks.{list_of}
use Rattle.truth.proofs.ListWords.{count-list, list-ascend, list-elem, list-few, list-out, list-packed}
use Rattle.tableau.proofs.Rounding.{Fails}

-- ---- rounds

-- ctl's families
abbrev pub Families : List ℕ → List ℕ → List ℕ → ℕ → List ℕ
Families ms ln = E.families (forms ms) (Tr ms ln) (Lk ms ln)

module _ (ms ln : List ℕ) where
  round-in : (fam : List ℕ) (t : ℕ) → t ∈ Round ms ln fam → t ∈ fam
  round-in fam t m = (keep_out (λ t. not (Fails ms ln fam t)) fam (subst (λ l. t ∈ l) (round-fails (forms ms) (Tr ms ln) (Lk ms ln) fam) m)).0

  -- a round that changes the family makes it shorter
  round-fewer : (fam : List ℕ) → (Round ms ln fam ≡ fam → ⊥) → length (Round ms ln fam) < length fam
  round-fewer fam f = go (dec_le (length fam) (length (Round ms ln fam)))
    where
      q : Round ms ln fam ≡ keep (λ t. not (Fails ms ln fam t)) fam
      q = round-fails (forms ms) (Tr ms ln) (Lk ms ln) fam

      go : Dec (length fam ≤ length (Round ms ln fam)) → length (Round ms ln fam) < length fam
      go (no l) = omega arith
      go (yes l) =
          absurd (f (q ∙ keep_all (λ t. not (Fails ms ln fam t)) fam
          (keep-full (λ t. not (Fails ms ln fam t)) fam (subst (λ k. length fam ≤ length k) q l))))

  families-in : (start : List ℕ) (n t : ℕ) → t ∈ Families ms ln start n → t ∈ start
  unfolding E.families
  families-in start zero t m = m
  families-in start (suc n) t m = families-in start n t (round-in (Families ms ln start n) t m)

-- before round n: the source x, from d, holds family n of the start; the target y has the words of e past the first w
pub record Before (ms ln : List ℕ) (w : ℕ) (start d e x y : List ℕ) (n : ℕ) : Type 0 where
  pub ascends : Ascending 0 start
  pub below_top : (t : ℕ) → t ∈ start → t < w * 64
  pub moved : (k : ℕ) → k < n → Families ms ln start (suc k) ≡ Families ms ln start k → ⊥
  pub bound : n + length (Families ms ln start n) ≤ w * 64
  pub room : w ≤ length d
  pub room' : w ≤ length e
  pub long : length x ≡ length d
  pub long' : length y ≡ length e
  pub is : x ≡ packed w (λ t. elem t (Families ms ln start n)) d
  pub rest : drop w y ≡ drop w e

-- before round 0
pub before-start : {ms ln : List ℕ} {w : ℕ} {x y : List ℕ} → w ≤ length x → w ≤ length y → ((k : ℕ) → k < w → get_or x k 0 < 2 ^ 64) → Before ms ln w (list_of w x) x y x y 0
unfolding E.families
before-start {ms} {ln} {w} {x} {y} h k s = record {
  ascends = list-ascend w x;
  below_top = λ t m. (list-out w x m).0;
  moved = λ j l. absurd (omega arith);
  bound = (let a = list-few w x in omega arith);
  room = h;
  room' = k;
  long = refl;
  long' = refl;
  is = packed-self x w s ∙ packed-ext (member x) (λ t. elem t (list_of w x)) x w (λ t l. sym (list-elem w x t l));
  rest = refl;
}

module _ {ms ln : List ℕ} {w : ℕ} {start d e x y : List ℕ} {n : ℕ} (b : Before ms ln w start d e x y n) where
  now-list : list_of w x ≡ Families ms ln start n
  now-list =
      list-packed w d x (Families ms ln start n) b.room (families-ascend (forms ms) (Tr ms ln) (Lk ms ln) start b.ascends n)
      (λ t m. b.below_top t (families-in ms ln start n t m)) b.is

  -- the source has as many types as that family
  pub count-now : count_below (w * 64) (member x) ≡ length (Families ms ln start n)
  count-now = count-list w x ∙ ap length now-list

  module _ (z : List ℕ) (q : z ≡ packed w (λ t. elem t (Round ms ln (list_of w x))) y) where
    -- the target after the round
    after : z ≡ packed w (λ t. elem t (Families ms ln start (suc n))) e
    unfolding E.families
    after =
        q ∙ ap (λ l. packed w (λ t. elem t (Round ms ln l)) y) now-list
        ∙ packed-over (λ t. elem t (Families ms ln start (suc n))) e y w b.long' b.rest b.room'

    agree : Bool
    agree = all_below (w * 64) (λ j. beq (elem j (Families ms ln start n)) (elem j (Families ms ln start (suc n))))

    -- what the test t of the round says
    module _ (t : Bool) (p : t ≡ all_below (w * 64) (λ j. beq (member x j) (member z j))) where
      tests : t ≡ agree
      unfolding agree
      tests =
          p ∙ ap₂ (λ s u. all_below (w * 64) (λ j. beq (member s j) (member u j))) b.is after
          ∙ equal-packed (λ j. elem j (Families ms ln start n)) (λ j. elem j (Families ms ln start (suc n))) d e w b.room b.room'

      stays : t ≡ true → Families ms ln start (suc n) ≡ Families ms ln start n
      unfolding agree
      stays k =
          ascending-same 0 (Families ms ln start (suc n)) (Families ms ln start n)
          (families-ascend (forms ms) (Tr ms ln) (Lk ms ln) start b.ascends (suc n)) (families-ascend (forms ms) (Tr ms ln) (Lk ms ln) start b.ascends n)
          (λ j m. elem_out j (Families ms ln start n) (T-cast⁻ (same j (suc n) m) (elem_in m)))
          (λ j m. elem_out j (Families ms ln start (suc n)) (T-cast (same j n m) (elem_in m)))
        where
          same : (j i : ℕ) → j ∈ Families ms ln start i → elem j (Families ms ln start n) ≡ elem j (Families ms ln start (suc n))
          same j i m = beq-true _ _ (all-elim (λ j. beq (elem j (Families ms ln start n)) (elem j (Families ms ln start (suc n)))) (w * 64) (sym tests ∙ k) j (b.below_top j (families-in ms ln start i j m)))

      changes : t ≡ false → Families ms ln start (suc n) ≡ Families ms ln start n → ⊥
      unfolding agree
      changes k s = true≢false (sym (all-intro (λ j. beq (elem j (Families ms ln start n)) (elem j (Families ms ln start (suc n)))) (w * 64) (λ j l. beq-refl _ _ (ap (elem j) (sym s)))) ∙ sym tests ∙ k)

      -- it eliminated nothing: n is the number of rounds, and both stores hold the survivors
      pub settled : t ≡ true → (n ≡ Rounds ms ln start) × (x ≡ packed w (λ j. elem j (Survivors ms ln start)) d) × (z ≡ packed w (λ j. elem j (Survivors ms ln start)) e)
      settled k =
          let q = survivors-only (forms ms) (Tr ms ln) (Lk ms ln) start n (stays k) in (
            sym (rounds-only (forms ms) (Tr ms ln) (Lk ms ln) start n (stays k) (λ j l s. b.moved j l s)),
            b.is ∙ ap (λ f. packed w (λ j. elem j f) d) (sym q),
            after ∙ ap (λ f. packed w (λ j. elem j f) e) (stays k ∙ sym q),
          )

      -- it eliminated something: the stores change places, and fewer are left
      pub fewer : t ≡ false → length (Families ms ln start (n + 1)) < length (Families ms ln start n)
      unfolding E.families
      fewer k =
          let a : length (Families ms ln start (suc n)) < length (Families ms ln start n) = round-fewer ms ln (Families ms ln start n) (changes k) in
          let c : length (Families ms ln start (n + 1)) ≡ length (Families ms ln start (suc n)) = ap (λ m. length (Families ms ln start m)) (add-one n) in
          omega arith

      pub turned : t ≡ false → Before ms ln w start e d z x (n + 1)
      turned k =
          let f = fewer k in
          let g = b.bound in
          record {
            ascends = b.ascends;
            below_top = b.below_top;
            moved = λ j l. ⊎_elim (λ i s. changes k (ap (λ m. Families ms ln start (suc m)) (sym i) ∙ s ∙ ap (Families ms ln start) i)) (λ i. b.moved j i) (top j n (omega arith));
            bound = omega arith;
            room = b.room';
            room' = b.room;
            long = ap length after ∙ length-filled (pack_word (λ t. elem t (Families ms ln start (suc n)))) e w;
            long' = b.long;
            is = after ∙ ap (λ m. packed w (λ t. elem t (Families ms ln start m)) e) (sym (add-one n));
            rest = ap (drop w) b.is ∙ drop-filled (pack_word (λ t. elem t (Families ms ln start n))) d w w (omega arith);
          }

-- before round n, for whichever table the words are of
pub record Settles (w : ℕ) (tw cw ns first₀ second₀ copy₀ todo₀ v₀ rest₀ first second copy todo v rest : List ℕ) (n : ℕ) : Type 0 where
  pub long : length first ≡ length first₀
  pub long_second : length second ≡ length second₀
  pub long_copy : length copy ≡ length copy₀
  pub long_todo : length todo ≡ length todo₀
  pub long_v : length v ≡ length v₀
  pub long_rest : length rest ≡ length rest₀
  pub is : (ms ln : List ℕ) → Ready ms ln w tw cw ns → Before ms ln w (list_of w first₀) first₀ second₀ first second n
