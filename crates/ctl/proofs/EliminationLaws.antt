-- The elimination: each family is the one before less those that fail; a type survives exactly if it belongs to some closed family; rounds are the least number after
-- which the family stays, and at most as many as types are eliminated. Assumes nothing.
use mathlib.Core.Path.{◌≡◌, refl, sym, ap, ◌∙◌, subst}
use mathlib.Core.Logic.{◌↔◌, ◌≢◌}
use mathlib.Core.Bool.{Bool, true, false, not, ◌&&◌, ◌||◌}
use mathlib.Core.List.{List, [], ◌∷◌, map}
use Prim.Native.Nat.{ℕ, zero, suc, ◌+◌, ◌-◌, ◌≤◌, ◌<◌}
use native.Mathlib.Omega.{arith}
use native.Mathlib.Decide.{dec_le}
use lib.ListN.{length}
use lib.Dec.{T, eqb, eqb→eq}
use borrow.Author.Tests.{eqb-false}
use Rattle.ctl.specs.Lists.{◌∈◌, any_of, keep, elem}
use Rattle.ctl.specs.Formula.{Form}
use Rattle.ctl.specs.ClosedFamily.{Meets, Closed}
use Rattle.ctl.specs.Elimination.{good, fails, round, families, eliminate, rounds, survivors}
use Rattle.ctl.proofs.BoolLaws.{T_true}
use Rattle.ctl.proofs.ListLaws.{keep-in, keep_out, keep_all, keep-full, keep-length, keep_same, elem-keep, Ascending, ascending-keep}
use Rattle.ctl.proofs.NeedLaws.{meets-out, meets-in, meets-wider}

module _ (cl : List Form) (tr : ℕ → Form → Bool) (lk : ℕ → ℕ → ℕ → Bool) where
  -- ---- rounds

  any-map : (f : Form × List ℕ → Bool) (g : Form → Form × List ℕ) (l : List Form) → any_of f (map g l) ≡ any_of (λ p. f (g p)) l
  any-map f g [] = refl
  any-map f g (p ∷ l) = ap (λ b. f (g p) || b) (any-map f g l)

  -- family r + 1 is family r less those that fail against it
  pub round-fails : (fam : List ℕ) → round cl tr lk fam ≡ keep (λ t. not (fails cl tr lk fam t)) fam
  unfolding round fails
  round-fails fam =
      keep_same (λ t. not (any_of (λ g. tr t g.0 && not (elem t g.1)) (map (λ p. (p, good cl tr lk fam p)) cl))) (λ t. not (fails cl tr lk fam t)) fam
      (λ t m. ap not (any-map (λ g. tr t g.0 && not (elem t g.1)) (λ p. (p, good cl tr lk fam p)) cl))

  round-within : (fam : List ℕ) (t : ℕ) → t ∈ round cl tr lk fam → t ∈ fam
  round-within fam t m = (keep_out (λ t. not (fails cl tr lk fam t)) fam (subst (λ l. t ∈ l) (round-fails fam) m)).0

  round-le : (fam : List ℕ) → length (round cl tr lk fam) ≤ length fam
  round-le fam = rw round-fails (keep-length (λ t. not (fails cl tr lk fam t)) fam)

  -- a round that eliminates nothing: every member has what it needs, and the family stays
  round-meets : (fam : List ℕ) → length fam ≤ length (round cl tr lk fam) → (t : ℕ) → t ∈ fam → Meets cl tr lk fam t
  round-meets fam h t m = meets-out cl tr lk fam t (keep-full (λ t. not (fails cl tr lk fam t)) fam (rw round-fails at h) t m)

  round-stays : (fam : List ℕ) → ((t : ℕ) → t ∈ fam → Meets cl tr lk fam t) → round cl tr lk fam ≡ fam
  round-stays fam f = rw round-fails (keep_all (λ t. not (fails cl tr lk fam t)) fam (λ t m. meets-in cl tr lk fam t m (f t m)))

  -- a closed family within a family is within what a round leaves of it
  round_keeps : (small fam : List ℕ) → ((t : ℕ) → t ∈ small → Meets cl tr lk small t) → ((t : ℕ) → t ∈ small → t ∈ fam) → (t : ℕ) → t ∈ small → t ∈ round cl tr lk fam
  round_keeps small fam f sub t m =
      rw round-fails (keep-in (λ t. not (fails cl tr lk fam t)) (sub t m) (meets-in cl tr lk fam t (sub t m) (meets-wider cl tr lk small fam sub t (f t m))))

  -- ---- families

  shift : (fam : List ℕ) (r : ℕ) → families cl tr lk fam (suc r) ≡ families cl tr lk (round cl tr lk fam) r
  unfolding families
  shift fam zero = refl
  shift fam (suc r) = ap (round cl tr lk) (shift fam r)

  -- family r + 1 has the members of family r that have what they need of it
  pub family-next : (start : List ℕ) (r t : ℕ) → (t ∈ families cl tr lk start (suc r)) ↔ ((t ∈ families cl tr lk start r) × Meets cl tr lk (families cl tr lk start r) t)
  unfolding families
  family-next start r t = (
    λ m. let k = keep_out (λ t. not (fails cl tr lk (families cl tr lk start r) t)) (families cl tr lk start r) (subst (λ l. t ∈ l) (round-fails (families cl tr lk start r)) m) in
        (k.0, meets-out cl tr lk (families cl tr lk start r) t k.1),
    λ h. subst (λ l. t ∈ l) (sym (round-fails (families cl tr lk start r)))
        (keep-in (λ t. not (fails cl tr lk (families cl tr lk start r) t)) h.0 (meets-in cl tr lk (families cl tr lk start r) t h.0 h.1)),
  )

  -- a closed family is within every family
  pub within-families : (start fam : List ℕ) → Closed cl tr lk start fam → (r : ℕ) (t : ℕ) → t ∈ fam → t ∈ families cl tr lk start r
  unfolding families
  within-families start fam c zero t m = c.within t m
  within-families start fam c (suc r) t m = round_keeps fam (families cl tr lk start r) c.meets (within-families start fam c r) t m

  families-within : (start : List ℕ) (r t : ℕ) → t ∈ families cl tr lk start r → t ∈ start
  unfolding families
  families-within start zero t m = m
  families-within start (suc r) t m = families-within start r t (round-within (families cl tr lk start r) t m)

  -- what `eliminate` computes: r rounds, each of which eliminates something, and a family that stays
  record Eliminated (fam : List ℕ) (r : ℕ) (left : List ℕ) : Type 0 where
    is : left ≡ families cl tr lk fam r
    stays : round cl tr lk left ≡ left
    fewer : r + length left ≤ length fam
    each : (k : ℕ) → k < r → length (families cl tr lk fam (suc k)) < length (families cl tr lk fam k)

  each-shift : (fam : List ℕ) (r : ℕ) → length (round cl tr lk fam) < length fam
      → ((k : ℕ) → k < r → length (families cl tr lk (round cl tr lk fam) (suc k)) < length (families cl tr lk (round cl tr lk fam) k))
      → (k : ℕ) → k < suc r → length (families cl tr lk fam (suc k)) < length (families cl tr lk fam k)
  unfolding families
  each-shift fam r h f zero l = h
  each-shift fam r h f (suc k) l = rw (shift fam (suc k), shift fam k) (f k (omega arith))

  eliminate-is : (n : ℕ) (fam : List ℕ) → length fam ≤ n → Eliminated fam (eliminate cl tr lk n fam).0 (eliminate cl tr lk n fam).1
  unfolding eliminate families
  eliminate-is zero [] h = record { is = refl; stays = refl; fewer = omega arith; each = λ k l. absurd (omega arith) }
  eliminate-is zero (x ∷ l) h = absurd (omega arith)
  eliminate-is (suc n) fam h = go (eqb (length (round cl tr lk fam)) (length fam)) refl (eliminate-is n (round cl tr lk fam))
    where
      then : Bool → ℕ × List ℕ
      then b = elim b as (λ c. ℕ × List ℕ) [ true ↦ (0, fam) | false ↦ (suc (eliminate cl tr lk n (round cl tr lk fam)).0, (eliminate cl tr lk n (round cl tr lk fam)).1) ]

      go : (b : Bool) → eqb (length (round cl tr lk fam)) (length fam) ≡ b
          → (length (round cl tr lk fam) ≤ n → Eliminated (round cl tr lk fam) (eliminate cl tr lk n (round cl tr lk fam)).0 (eliminate cl tr lk n (round cl tr lk fam)).1)
          → Eliminated fam (then b).0 (then b).1
      go true e rec = record {
        is = refl;
        stays = let q = eqb→eq (length (round cl tr lk fam)) (length fam) (T_true _ e) in round-stays fam (round-meets fam (omega arith));
        fewer = omega arith;
        each = λ k l. absurd (omega arith);
      }
      go false e rec =
          let l = round-le fam in
          let d = eqb-false (length (round cl tr lk fam)) (length fam) e in
          let s = rec (omega arith) in
          record {
            is = s.is ∙ sym (shift fam (eliminate cl tr lk n (round cl tr lk fam)).0);
            stays = s.stays;
            fewer = let f = s.fewer in omega arith;
            each = each-shift fam (eliminate cl tr lk n (round cl tr lk fam)).0 (omega arith) s.each;
          }

  -- ---- what is claimed of the elimination

  module _ (start : List ℕ) where
    eliminated : Eliminated start (rounds cl tr lk start) (survivors cl tr lk start)
    unfolding rounds survivors
    eliminated = eliminate-is (length start) start (omega arith)

    -- the surviving types are the family after the rounds
    pub survivors-is : survivors cl tr lk start ≡ families cl tr lk start (rounds cl tr lk start)
    survivors-is = eliminated.is

    -- that family stays
    pub survivors-stays : families cl tr lk start (suc (rounds cl tr lk start)) ≡ families cl tr lk start (rounds cl tr lk start)
    unfolding families
    survivors-stays = rw (← survivors-is) eliminated.stays

    -- and it is the first that does
    pub rounds-least : (r : ℕ) → families cl tr lk start (suc r) ≡ families cl tr lk start r → rounds cl tr lk start ≤ r
    rounds-least r e = go (dec_le (rounds cl tr lk start) r)
      where
        go : Dec (rounds cl tr lk start ≤ r) → rounds cl tr lk start ≤ r
        go (yes h) = h
        go (no h) = absurd (let k = eliminated.each r (omega arith) in let q = ap length e in omega arith)

    -- each round eliminates a type, so there are no more of them than types eliminated
    pub rounds-few : rounds cl tr lk start ≤ length start - length (survivors cl tr lk start)
    rounds-few = let f = eliminated.fewer in omega arith

    -- the surviving types are a closed family
    pub survivors-closed : Closed cl tr lk start (survivors cl tr lk start)
    survivors-closed = record {
      within = λ t m. families-within start (rounds cl tr lk start) t (subst (λ l. t ∈ l) survivors-is m);
      meets = round-meets (survivors cl tr lk start) (let q = ap length eliminated.stays in omega arith);
    }

    -- a type survives exactly if it belongs to some closed family
    pub survives-iff : (t : ℕ) → (t ∈ survivors cl tr lk start) ↔ ((fam : List ℕ) × Closed cl tr lk start fam × (t ∈ fam))
    survives-iff t = (
      λ m. (survivors cl tr lk start, survivors-closed, m),
      λ c. subst (λ l. t ∈ l) (sym survivors-is) (within-families start c.0 c.1 (rounds cl tr lk start) t c.2),
    )

  -- the families of an ascending list are ascending
  pub families-ascend : (start : List ℕ) → Ascending 0 start → (r : ℕ) → Ascending 0 (families cl tr lk start r)
  unfolding families
  families-ascend start h zero = h
  families-ascend start h (suc r) = subst (Ascending 0) (sym (round-fails (families cl tr lk start r))) (ascending-keep (λ t. not (fails cl tr lk (families cl tr lk start r) t)) 0 (families cl tr lk start r) (families-ascend start h r))

  pub survivors-ascend : (start : List ℕ) → Ascending 0 start → Ascending 0 (survivors cl tr lk start)
  survivors-ascend start h = subst (Ascending 0) (sym (survivors-is start)) (families-ascend start h (rounds cl tr lk start))

  -- ---- the executable test of closedness agrees with the document's words
  pub closed-iff : (start fam : List ℕ) → Closed cl tr lk start fam ↔ (((t : ℕ) → t ∈ fam → t ∈ start) × ((t : ℕ) → t ∈ fam → T (not (fails cl tr lk fam t))))
  closed-iff start fam = (
    λ c. (c.within, λ t m. meets-in cl tr lk fam t m (c.meets t m)),
    λ c. record { within = c.0; meets = λ t m. meets-out cl tr lk fam t (c.1 t m) },
  )

  -- family r + 1, as a set: family r less those that fail against it
  pub round-elem : (fam : List ℕ) (t : ℕ) → elem t (round cl tr lk fam) ≡ (elem t fam && not (fails cl tr lk fam t))
  round-elem fam t = ap (elem t) (round-fails fam) ∙ elem-keep (λ t. not (fails cl tr lk fam t)) fam t

  -- ---- for code that goes on until a round eliminates nothing

  families-stay : (start : List ℕ) (r : ℕ) → families cl tr lk start (suc r) ≡ families cl tr lk start r → (j : ℕ) → r ≤ j → families cl tr lk start j ≡ families cl tr lk start r
  unfolding families
  families-stay start r e zero h = let z : zero ≡ r = omega arith in ap (families cl tr lk start) z
  families-stay start r e (suc j) h = go (dec_le r j) (families-stay start r e j)
    where
      go : Dec (r ≤ j) → (r ≤ j → families cl tr lk start j ≡ families cl tr lk start r) → families cl tr lk start (suc j) ≡ families cl tr lk start r
      go (yes k) rec = ap (round cl tr lk) (rec k) ∙ e
      go (no k) rec = let z : suc j ≡ r = omega arith in ap (families cl tr lk start) z

  -- the first family that stays is the surviving one, and its number is the rounds
  pub survivors-only : (start : List ℕ) (r : ℕ) → families cl tr lk start (suc r) ≡ families cl tr lk start r → survivors cl tr lk start ≡ families cl tr lk start r
  survivors-only start r e = survivors-is start ∙ sym (families-stay start (rounds cl tr lk start) (survivors-stays start) r (rounds-least start r e))

  pub rounds-only : (start : List ℕ) (r : ℕ) → families cl tr lk start (suc r) ≡ families cl tr lk start r
      → ((k : ℕ) → k < r → families cl tr lk start (suc k) ≢ families cl tr lk start k) → rounds cl tr lk start ≡ r
  rounds-only start r e f = go (dec_le r (rounds cl tr lk start))
    where
      go : Dec (r ≤ rounds cl tr lk start) → rounds cl tr lk start ≡ r
      go (yes h) = let k = rounds-least start r e in omega arith
      go (no h) = absurd (f (rounds cl tr lk start) (omega arith) (survivors-stays start))
