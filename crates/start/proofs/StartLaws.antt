-- The start types of a naming are those of the base that obey it. Assumes nothing.
use mathlib.Core.Path.{◌≡◌, refl, sym, ap₂, ◌∙◌}
use mathlib.Core.Bool.{Bool, true, false, not, ◌&&◌, ◌||◌}
use mathlib.Core.List.{List}
use Prim.Native.Nat.{ℕ, ◌*◌, ◌<◌}
use lib.Dec.{eqb}
use lib.ListN.{length, get_or}
use Rattle.ctl.specs.Lists.{imp}
use Rattle.ctl.specs.Types.{in_type}
use Rattle.ctl.proofs.BoolLaws.{true-and-false}
use Rattle.wordset.proofs.BelowLaws.{all-elim, all-intro, any_false}
use Rattle.start.specs.Starts.{Based, fits_name, has_none, named_type, obeys_by, starts_by, type_of_name}

module _ (names : List ℕ) (n r t : ℕ) where
  -- a type without a name obeys
  none-obeys : has_none names t ≡ true → obeys_by names n r t ≡ true
  unfolding has_none obeys_by
  none-obeys e = all-intro (λ i. fits_name (get_or names i 0) n r i t) (length names) (λ i h. go (in_type t (get_or names i 0)) (eqb t (named_type (get_or names i 0) n r i)) (all-elim (λ i. not (in_type t (get_or names i 0))) (length names) e i h))
    where
      go : (a b : Bool) → not a ≡ true → imp a b ≡ true
      go true b q = absurd (true-and-false false q refl)
      go false b q = refl

  -- one that obeys and is no name's own type has no name
  obeys-none : obeys_by names n r t ≡ true → type_of_name names n r t ≡ false → has_none names t ≡ true
  unfolding has_none obeys_by type_of_name
  obeys-none e f = all-intro (λ i. not (in_type t (get_or names i 0))) (length names) (λ i h. go (in_type t (get_or names i 0)) (eqb t (named_type (get_or names i 0) n r i)) (all-elim (λ i. fits_name (get_or names i 0) n r i t) (length names) e i h)
      (any_false (λ i. eqb t (named_type (get_or names i 0) n r i)) (length names) f i h))
    where
      go : (a b : Bool) → imp a b ≡ true → b ≡ false → not a ≡ true
      go true b q z = absurd (true-and-false b q z)
      go false b q z = refl

  -- those of the base that obey
  pub based-starts : {w : ℕ} {P : ℕ → Bool} {base : List ℕ} → Based w P names base → t < w * 64 → starts_by w base names n r t ≡ (P t && obeys_by names n r t)
  unfolding starts_by
  based-starts {w} {P} {base} b h =
      ap₂ (λ x y. x || (y && (type_of_name names n r t && obeys_by names n r t))) (b.free t h) (b.named t h)
      ∙ go (P t) (has_none names t) (type_of_name names n r t) (obeys_by names n r t) none-obeys obeys-none
    where
      go : (p e y o : Bool) → (e ≡ true → o ≡ true) → (o ≡ true → y ≡ false → e ≡ true) → ((p && e) || ((p && not e) && (y && o))) ≡ (p && o)
      go false e y o f g = refl
      go true true y o f g = sym (f refl)
      go true false true o f g = refl
      go true false false true f g = absurd (true-and-false false (g refl refl) refl)
      go true false false false f g = refl
