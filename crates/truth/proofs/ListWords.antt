-- Sets of numbers in the first w words: tests of the numbers below a bound, stores into which a set was packed, and the members as an
-- ascending list. For any word count. Assumes nothing.
use mathlib.Core.Path.{◌≡◌, refl, sym, ap, ap₂, ◌∙◌}
use mathlib.Core.Bool.{not, and-true, and_assoc, Bool, true, false, ◌&&◌}
use mathlib.Core.List.{List, [], ◌∷◌, map}
use Prim.Native.Nat.{ℕ, zero, suc, ◌+◌, ◌*◌, ◌≤◌, ◌<◌}
use native.Mathlib.Omega.{arith}
use native.Mathlib.Nat.{add-zero, add-suc, suc-add}
use lib.Dec.{T}
use lib.ListN.{length, get_or}
use Rattle.ctl.specs.Lists as L
use Rattle.ctl.proofs.BoolLaws.{T-cast, T-cast⁻, and_0, and-1, and_in, both_ways}
use Rattle.ctl.proofs.ListLaws.{any-in, any_out, below_in, below_out, elem_in, elem_out, keep-in, keep_out, Ascending, ascending-count, ascending-keep, keep-places, kept-few}
use Rattle.ctl.proofs.SortLaws.{ascending-same}
use Rattle.ctl.specs.Lists.{◌∈◌, below, elem, keep, count_from, put}
use Rattle.wordset.proofs.BelowLaws.{count-ext, count-front}
use Rattle.wordset.specs.Below.{any_below, all_below, count_below, one}
use Rattle.wordset.specs.Words.{member, packed, minus}
use Rattle.wordset.proofs.WordLaws.{member-packed}
use Rattle.members.proofs.ModeLaws.{some_below, some_in}
use Rattle.truth.specs.Blocks.{has, list_of}

-- ---- tests of the numbers below a bound

pub all-front : (n : ℕ) (Q : ℕ → Bool) → all_below (suc n) Q ≡ (Q 0 && all_below n (λ i. Q (suc i)))
unfolding all_below
all-front zero Q = sym (and-true (Q 0))
all-front (suc n) Q = ap (λ b. b && Q (suc n)) (all-front n Q) ∙ and_assoc (Q 0) (all_below n (λ i. Q (suc i))) (Q (suc n))

-- each place of a list
pub all_list : {A B : Type 0} (P : B → Bool) (f : A → B) (d : A) (l : List A) → all_below (length l) (λ i. P (f (get_or l i d))) ≡ L.all_of P (map f l)
all_list P f d [] = unfold all_below in refl
all_list P f d (x ∷ l) = all-front (length l) (λ i. P (f (get_or (x ∷ l) i d))) ∙ ap (λ b. P (f x) && b) (all_list P f d l)

-- ---- what a store holds into which a set was packed

pub held : (P : ℕ → Bool) (d l : List ℕ) (w : ℕ) → w ≤ length d → l ≡ packed w P d → (t : ℕ) → t < w * 64 → member l t ≡ P t
held P d l w h e t k = ap (λ x. member x t) e ∙ member-packed P d w t h k

pub pick-member : (d s tw l : List ℕ) (w i : ℕ) → w ≤ length d → l ≡ packed w (λ t. member s t && has w tw i t) d → (t : ℕ) → t < w * 64 → member l t ≡ (member s t && has w tw i t)
pick-member d s tw l w i = held (λ t. member s t && has w tw i t) d l w

pub minus-member : (d s l : List ℕ) (w : ℕ) → w ≤ length d → l ≡ minus w d s → (t : ℕ) → t < w * 64 → member l t ≡ (member d t && not (member s t))
minus-member d s l w = held (λ t. member d t && not (member s t)) d l w

-- ---- the list

pub list-in : (w : ℕ) (ws : List ℕ) {t : ℕ} → t < w * 64 → T (member ws t) → t ∈ list_of w ws
unfolding list_of
list-in w ws h m = keep-in (member ws) (below_in h) m

pub list-out : (w : ℕ) (ws : List ℕ) {t : ℕ} → t ∈ list_of w ws → (t < w * 64) × T (member ws t)
unfolding list_of
list-out w ws m = let r = keep_out (member ws) (below (w * 64)) m in (below_out (w * 64) r.0, r.1)

pub list-elem : (w : ℕ) (ws : List ℕ) (t : ℕ) → t < w * 64 → elem t (list_of w ws) ≡ member ws t
list-elem w ws t h = both_ways _ _ (λ m. (list-out w ws (elem_out t (list_of w ws) m)).1) (λ m. elem_in (list-in w ws h m))

pub any-listed : (w : ℕ) (ws : List ℕ) (P : ℕ → Bool) → any_below (w * 64) (λ j. member ws j && P j) ≡ L.any_of P (list_of w ws)
any-listed w ws P =
    both_ways _ _
    (λ h. (let r = some_below (w * 64) (λ j. member ws j && P j) h in any-in P (list-in w ws r.1 (and_0 (member ws r.0) (P r.0) r.2)) (and-1 (member ws r.0) (P r.0) r.2)))
    (λ h. (let r = any_out P (list_of w ws) h in let k = list-out w ws r.1 in some_in (w * 64) (λ j. member ws j && P j) r.0 k.0 (and_in (member ws r.0) (P r.0) k.1 r.2)))

pub list-ascend : (w : ℕ) (ws : List ℕ) → Ascending 0 (list_of w ws)
unfolding list_of
list-ascend w ws = ascending-keep (member ws) 0 (below (w * 64)) (ascending-count 0 (w * 64))

pub list-few : (w : ℕ) (ws : List ℕ) → length (list_of w ws) ≤ w * 64
unfolding list_of
list-few w ws = kept-few (member ws) (w * 64)

-- words that pack an ascending list of numbers below 64 w have that list
pub list-packed : (w : ℕ) (d x fam : List ℕ) → w ≤ length d → Ascending 0 fam → ((t : ℕ) → t ∈ fam → t < w * 64) → x ≡ packed w (λ t. elem t fam) d → list_of w x ≡ fam
list-packed w d x fam h a b e =
    ascending-same 0 (list_of w x) fam (list-ascend w x) a
    (λ t m. (let k = list-out w x m in elem_out t fam (T-cast (holds t k.0) k.1)))
    (λ t m. list-in w x (b t m) (T-cast⁻ (holds t (b t m)) (elem_in m)))
  where
    holds : (t : ℕ) → t < w * 64 → member x t ≡ elem t fam
    holds = held (λ t. elem t fam) d x w h e

-- ---- how many

put_count : (b : Bool) (x : ℕ) (l : List ℕ) → one b + length l ≡ length (put b x l)
put_count true x l = omega arith
put_count false x l = omega arith

count-keep : (P : ℕ → Bool) (a n : ℕ) → count_below n (λ j. P (a + j)) ≡ length (keep P (count_from a n))
unfolding count_below
count-keep P a zero = refl
count-keep P a (suc n) =
    count-front (λ j. P (a + j)) n
    ∙ ap₂ (λ x y. one x + y) (ap P (add-zero a)) (count-ext (λ j. P (a + suc j)) (λ j. P (suc a + j)) n (λ j h. ap P (add-suc a j ∙ sym (suc-add a j))) ∙ count-keep P (suc a) n)
    ∙ put_count (P a) a (keep P (count_from (suc a) n))

pub count-below : (P : ℕ → Bool) (n : ℕ) → count_below n P ≡ length (keep P (below n))
count-below P n = count-ext P (λ j. P (0 + j)) n (λ j h. ap P (omega arith)) ∙ count-keep P 0 n

-- how many places of a list pass a test
pub count-places : {A : Type 0} (P : A → Bool) (d : A) (l : List A) → count_below (length l) (λ i. P (get_or l i d)) ≡ length (keep P l)
count-places P d l = count-below (λ i. P (get_or l i d)) (length l) ∙ keep-places P d l

pub count-list : (w : ℕ) (ws : List ℕ) → count_below (w * 64) (member ws) ≡ length (list_of w ws)
unfolding list_of
count-list w ws = count-below (member ws) (w * 64)
