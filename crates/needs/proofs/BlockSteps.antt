-- The blocks of the fields, one after another: each is empty at first, then the blocks of members are joined to it. Assumes nothing.
use mathlib.Core.Path.{◌≡◌, refl, sym, ap, ◌∙◌}
use mathlib.Core.Bool.{Bool, true, false, ◌&&◌, ◌||◌}
use mathlib.Core.List.{List}
use Prim.Native.Nat.{ℕ, ◌+◌, ◌*◌, ◌≤◌, ◌<◌}
use native.Mathlib.Numerals.{add-one}
use native.Mathlib.Omega.{arith}
use lib.Bits.{bit_or}
use lib.ListN.{length, get_or}
use Rattle.ctl.specs.Modes.{has_mode}
use Rattle.truth.proofs.BlockLaws.{block-has}
use Rattle.truth.proofs.Redoing.{redone-as, redone-below, redone-then}
use Rattle.truth.specs.Blocks.{BlockIs, Redone}
use Rattle.truth.specs.Truths.{Truths, true_at}
use Rattle.wordset.proofs.AnswersLaws.{or-answers}
use Rattle.wordset.proofs.BelowLaws.{any_false, any_none}
use Rattle.wordset.specs.Below.{any_below}
use Rattle.needs.specs.FieldBlocks.{ExFields}
use Rattle.needs.specs.Needs.{Fields, ex_over, some_ex}

-- ---- one block joined to a later one: the first k words are done, the others as they were

pub record Joining (w e i : ℕ) (d ws : List ℕ) (k : ℕ) : Type 0 where
  pub apart : i * w + w ≤ e * w
  pub before : (j : ℕ) → j < e * w → get_or ws j 0 ≡ get_or d j 0
  pub part : (l : ℕ) → l < k → get_or ws (e * w + l) 0 ≡ bit_or (get_or d (e * w + l) 0) (get_or d (i * w + l) 0)
  pub rest : (l : ℕ) → k ≤ l → get_or ws (e * w + l) 0 ≡ get_or d (e * w + l) 0

pub join-end : {w e i : ℕ} {d ws : List ℕ} {k : ℕ} → length ws ≡ length d → Joining w e i d ws k → w ≤ k → (P Q : ℕ → Bool) → BlockIs P w e d → BlockIs Q w i d → Redone w e (λ t. P t || Q t) d ws
join-end n s h P Q p q = record { long = n; before = s.before; block = λ l m. rw (s.part l (omega arith)) (or-answers (p l m) (q l m)) }

-- ---- what is kept where a block is done anew

truths-kept : {w e : ℕ} {ms ln : List ℕ} {P : ℕ → Bool} {d ws : List ℕ} → Redone w e P d ws → length ms ≤ e → Truths ms ln w d → Truths ms ln w ws
truths-kept r h t = record { room = (let l = r.long in let m = t.room in omega arith); words = λ i l. redone-below r (omega arith) (t.words i l) }

-- ---- the block of a member, joined if b is true

module _ {w e : ℕ} (P Q : ℕ → Bool) {b : Bool} {d : List ℕ} where
  pub member-on : {ws : List ℕ} → b ≡ true → Redone w e (λ t. P t || Q t) d ws → Redone w e (λ t. P t || (b && Q t)) d ws
  member-on q r = redone-as (λ t. ap (λ c. P t || (c && Q t)) (sym q)) r

-- ---- the block of field f, with the first i members

pub record MembersJoined (ms ln : List ℕ) (w f : ℕ) (d ws : List ℕ) (i : ℕ) : Type 0 where
  pub truths : Truths ms ln w ws
  pub redone : Redone w (length ms + f) (λ t. any_below i (λ j. ex_over ms f j && true_at ms ln j t)) d ws

module _ {ms : List ℕ} (ln : List ℕ) {a f : ℕ} (x : ExFields ms a) (h : f < 8) (q : has_mode a f ≡ false) where
  no-ex : (t : ℕ) → some_ex ms ln f t ≡ false
  unfolding some_ex
  no-ex t = any_none (λ i. ex_over ms f i && true_at ms ln i t) (length ms) (λ i l. ap (λ b. b && true_at ms ln i t) (any_false (ex_over ms f) (length ms) (sym (x.is f h) ∙ q) i l))

  pub field-empty : {w : ℕ} {d ws : List ℕ} → Redone w (length ms + f) (λ t. false) d ws → Redone w (length ms + f) (some_ex ms ln f) d ws
  field-empty r = redone-as (λ t. sym (no-ex t)) r

module _ {ms ln : List ℕ} {w f : ℕ} {d ws : List ℕ} where
  pub members-start : Truths ms ln w d → Redone w (length ms + f) (λ t. false) d ws → MembersJoined ms ln w f ws ws 0
  unfolding any_below
  members-start t r = record { truths = truths-kept r (omega arith) t; redone = record { long = refl; before = λ j h. refl; block = r.block } }

  pub members-on : {ws' : List ℕ} {i : ℕ} → MembersJoined ms ln w f d ws i → i < length ms
      → ((P Q : ℕ → Bool) → BlockIs P w (length ms + f) ws → BlockIs Q w i ws → Redone w (length ms + f) (λ t. P t || (ex_over ms f i && Q t)) ws ws') → MembersJoined ms ln w f d ws' (i + 1)
  unfolding any_below
  members-on {ws'} {i} s h j =
      let r = j _ _ s.redone.block (s.truths.words i h) in
      record {
        truths = truths-kept r (omega arith) s.truths;
        redone = redone-then s.redone (redone-as (λ t. ap (λ n. any_below n (λ k. ex_over ms f k && true_at ms ln k t)) (sym (add-one i))) r);
      }

  pub members-end : {ws' : List ℕ} {i : ℕ} → Redone w (length ms + f) (λ t. false) d ws → MembersJoined ms ln w f ws ws' i → i ≡ length ms → Redone w (length ms + f) (some_ex ms ln f) d ws'
  unfolding some_ex
  members-end {ws'} {i} r s e =
      redone-then r (redone-as (λ t. ap (λ n. any_below n (λ k. ex_over ms f k && true_at ms ln k t)) e) s.redone)

-- ---- the blocks of the fields below f

pub record BlocksSoFar (ms ln : List ℕ) (w : ℕ) (tw : List ℕ) (f : ℕ) : Type 0 where
  pub room : (length ms + 9) * w ≤ length tw
  pub truths : Truths ms ln w tw
  pub done : (g : ℕ) → g < f → BlockIs (some_ex ms ln g) w (length ms + g) tw

pub blocks_end : {ms ln : List ℕ} {w : ℕ} {tw tw' : List ℕ} {f : ℕ} → BlocksSoFar ms ln w tw f → 8 ≤ f → Redone w (length ms + 8) (λ t. true) tw tw' → Fields ms ln w tw'
blocks_end {ms} {ln} {w} {tw} {tw'} s h r = record {
  room = (let l = r.long in let m = s.room in omega arith);
  each = λ f l. block-has (some_ex ms ln f) w tw' (length ms + f) (redone-below r (omega arith) (s.done f (omega arith)));
  all = block-has (λ t. true) w tw' (length ms + 8) r.block;
}
