-- What a reader of the parser's table finds at a place that holds a formula: its kind, its number and its operands. Assumes nothing.
use mathlib.Core.Path.{◌≡◌, refl, sym as back, ap₂, ◌∙◌, subst}
use mathlib.Core.List.{List}
use Prim.Native.Nat.{ℕ, ◌-◌, ◌/◌, ◌%◌, ◌≤◌, ◌<◌}
use native.Mathlib.Omega.{arith}
use lib.ListN.{get_or}
use Rattle.syntax.specs.Raw.{Raw, zero, one, sym, neg, and, or, imp, ex, ax, ef, af, eg, ag, eu, au, er, ar, node_of, At₁, At₂, At}
use Rattle.closure.specs.Given.{Fits, Reads}
use Rattle.closure.proofs.KindLaws.{raw_by}

abbrev pub kind_n : ℕ → ℕ
kind_n w = w % 32

abbrev pub arg_n : ℕ → ℕ
arg_n w = w / 32768

abbrev pub left_n : ℕ → ℕ
left_n w = w / 32 % 1024

kind-is : (v k a l : ℕ) → v ≡ node_of k a l → k < 32 → kind_n v ≡ k
kind-is v k a l e h = omega arith

arg_is : (v k a l : ℕ) → v ≡ node_of k a l → k < 32 → l < 1024 → arg_n v ≡ a
arg_is v k a l e h g = omega arith

left_is : (v k a l : ℕ) → v ≡ node_of k a l → k < 32 → l < 1024 → left_n v ≡ l
left_is v k a l e h g = omega arith

module _ (ns : List ℕ) (i : ℕ) where
  -- the formula p at place i, taken apart
  pub record Node (p : Raw) : Type 0 where
    pub left : Raw
    pub right : Raw
    pub kind : kind_n (get_or ns i 0) < 17
    pub is : p ≡ raw_by (kind_n (get_or ns i 0)) (arg_n (get_or ns i 0)) left right
    pub later : 3 ≤ kind_n (get_or ns i 0) → 0 < i
    pub second : 3 ≤ kind_n (get_or ns i 0) → At ns right (i - 1)
    pub earlier : 10 ≤ kind_n (get_or ns i 0) → left_n (get_or ns i 0) < i
    pub first : 10 ≤ kind_n (get_or ns i 0) → At ns left (left_n (get_or ns i 0))
    pub arg : Fits p → arg_n (get_or ns i 0) < 65536
    pub fits-right : Fits p → 3 ≤ kind_n (get_or ns i 0) → Fits right
    pub fits-left : Fits p → 10 ≤ kind_n (get_or ns i 0) → Fits left

  node-is : (p l r : Raw) (k a x : ℕ) → get_or ns i 0 ≡ node_of k a x → k < 32 → x < 1024 → p ≡ raw_by k a l r → p ≡ raw_by (kind_n (get_or ns i 0)) (arg_n (get_or ns i 0)) l r
  node-is p l r k a x e h g w = w ∙ ap₂ (λ (k a : ℕ). raw_by k a l r) (back (kind-is (get_or ns i 0) k a x e h)) (back (arg_is (get_or ns i 0) k a x e h g))

  leaf : (p : Raw) (k a : ℕ) → k < 3 → get_or ns i 0 ≡ node_of k a 0 → p ≡ raw_by k a zero zero → (Fits p → a < 65536) → Node p
  leaf p k a h e w f = let K = kind-is (get_or ns i 0) k a 0 e (omega arith) in record {
    left = zero;
    right = zero;
    kind = omega arith;
    is = node-is p zero zero k a 0 e (omega arith) (omega arith) w;
    later = λ l. absurd (omega arith);
    second = λ l. absurd (omega arith);
    earlier = λ l. absurd (omega arith);
    first = λ l. absurd (omega arith);
    arg = λ s. (let x = f s in omega (arith, arg_is (get_or ns i 0) k a 0 e (omega arith) (omega arith)));
    fits-right = λ s l. absurd (omega arith);
    fits-left = λ s l. absurd (omega arith);
  }

  single : (p q : Raw) (k a : ℕ) → 3 ≤ k → k < 10 → At₁ ns i k a (λ j. At ns q j) → p ≡ raw_by k a zero q → (Fits p → a < 65536) → (Fits p → Fits q) → Node p
  single p q k a g h e w f fq = let K = kind-is (get_or ns i 0) k a 0 e.0 (omega arith) in record {
    left = zero;
    right = q;
    kind = omega arith;
    is = node-is p zero q k a 0 e.0 (omega arith) (omega arith) w;
    later = λ l. e.1.0;
    second = λ l. e.1.1;
    earlier = λ l. absurd (omega arith);
    first = λ l. absurd (omega arith);
    arg = λ s. (let x = f s in omega (arith, arg_is (get_or ns i 0) k a 0 e.0 (omega arith) (omega arith)));
    fits-right = λ s l. fq s;
    fits-left = λ s l. absurd (omega arith);
  }

  double : i < 1024 → (p q r : Raw) (k a : ℕ) → k < 17 → At₂ ns i k a (λ j. At ns q j) (λ j. At ns r j) → p ≡ raw_by k a q r → (Fits p → a < 65536) → (Fits p → Fits q × Fits r) → Node p
  double small p q r k a h e w f fs =
      let b = e.below in
      let K = kind-is (get_or ns i 0) k a e.place e.own (omega arith) in
      let L : left_n (get_or ns i 0) ≡ e.place = left_is (get_or ns i 0) k a e.place e.own (omega arith) (omega arith) in record {
        left = q;
        right = r;
        kind = omega arith;
        is = node-is p q r k a e.place e.own (omega arith) (omega arith) w;
        later = λ l. omega arith;
        second = λ l. e.second;
        earlier = λ l. omega arith;
        first = λ l. subst (λ j. At ns q j) (back L) e.first;
        arg = λ s. (let x = f s in omega (arith, arg_is (get_or ns i 0) k a e.place e.own (omega arith) (omega arith)));
        fits-right = λ s l. (fs s).1;
        fits-left = λ s l. (fs s).0;
      }

  pub at-node : i < 1024 → (p : Raw) → At ns p i → Node p
  unfolding At Fits
  at-node s zero h = leaf zero 0 0 (omega arith) h refl (λ f. omega arith)
  at-node s one h = leaf one 1 0 (omega arith) h refl (λ f. omega arith)
  at-node s (sym k) h = leaf (sym k) 2 k (omega arith) h refl (λ f. f)
  at-node s (neg p) h = single (neg p) p 3 0 (omega arith) (omega arith) h refl (λ f. omega arith) (λ f. f)
  at-node s (ex A p) h = single (ex A p) p 4 A (omega arith) (omega arith) h refl (λ f. f.0) (λ f. f.1)
  at-node s (ax A p) h = single (ax A p) p 5 A (omega arith) (omega arith) h refl (λ f. f.0) (λ f. f.1)
  at-node s (ef A p) h = single (ef A p) p 6 A (omega arith) (omega arith) h refl (λ f. f.0) (λ f. f.1)
  at-node s (af A p) h = single (af A p) p 7 A (omega arith) (omega arith) h refl (λ f. f.0) (λ f. f.1)
  at-node s (eg A p) h = single (eg A p) p 8 A (omega arith) (omega arith) h refl (λ f. f.0) (λ f. f.1)
  at-node s (ag A p) h = single (ag A p) p 9 A (omega arith) (omega arith) h refl (λ f. f.0) (λ f. f.1)
  at-node s (imp p q) h = double s (imp p q) p q 10 0 (omega arith) h refl (λ f. omega arith) (λ f. f)
  at-node s (or p q) h = double s (or p q) p q 11 0 (omega arith) h refl (λ f. omega arith) (λ f. f)
  at-node s (and p q) h = double s (and p q) p q 12 0 (omega arith) h refl (λ f. omega arith) (λ f. f)
  at-node s (eu A p q) h = double s (eu A p q) p q 13 A (omega arith) h refl (λ f. f.0) (λ f. (f.1, f.2))
  at-node s (au A p q) h = double s (au A p q) p q 14 A (omega arith) h refl (λ f. f.0) (λ f. (f.1, f.2))
  at-node s (er A p q) h = double s (er A p q) p q 15 A (omega arith) h refl (λ f. f.0) (λ f. (f.1, f.2))
  at-node s (ar A p q) h = double s (ar A p q) p q 16 A (omega arith) h refl (λ f. f.0) (λ f. (f.1, f.2))

-- ---- a place that is read, and those of its operands

module _ {ns : List ℕ} {i : ℕ} (x : Reads ns i) where
  pub reads-small : i < 1024
  reads-small = let a = x.inside in let b = x.few in omega arith

  node : Node ns i x.formula
  node = at-node ns i reads-small x.formula x.at

  pub reads-kind : kind_n (get_or ns i 0) < 17
  reads-kind = node.kind

  pub reads-arg : arg_n (get_or ns i 0) < 65536
  reads-arg = node.arg x.fits

  pub reads-later : 3 ≤ kind_n (get_or ns i 0) → 0 < i
  reads-later h = node.later h

  pub reads-right : 3 ≤ kind_n (get_or ns i 0) → Reads ns (i - 1)
  reads-right h = let n = node in let a = n.later h in record { inside = (let b = x.inside in omega arith); few = x.few; formula = n.right; at = n.second h; fits = n.fits-right x.fits h }

  pub reads-earlier : 10 ≤ kind_n (get_or ns i 0) → left_n (get_or ns i 0) < i
  reads-earlier h = node.earlier h

  pub reads-left : 10 ≤ kind_n (get_or ns i 0) → Reads ns (left_n (get_or ns i 0))
  reads-left h = let n = node in let a = n.earlier h in record { inside = (let b = x.inside in omega arith); few = x.few; formula = n.left; at = n.first h; fits = n.fits-left x.fits h }
